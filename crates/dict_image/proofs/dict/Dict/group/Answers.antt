use Rattle.std.proofs.Common.{suc, ◌∙◌, arith}
use Rattle.image_format.specs.ImageBytes.{header_of, section}
use Rattle.image_format.specs.ImageSections.{index_at}
use Rattle.dict_image.proofs.FormedLemmas.{groups_are, tokens_are}
use Rattle.dict_image.proofs.TokenLemmas.{index_within, list_rises, list_within, same_list}
use Rattle.dict_image.proofs.dict.Dict.group.Goals as goal

pub of_list-requires-clause-index : goal.of_list-requires-clause-index
of_list-requires-clause-index c =
    let h = header_of c.args.self.now in
    rw (c.section.ensures.section) (list_within h.groups 0 h.tokens (section c.args.self.now 6) c.args.i (groups_are c.args.self.now c.section.ensures.formed) c.requires)

pub of_list-requires-clause-order : goal.of_list-requires-clause-order
of_list-requires-clause-order c =
    let h = header_of c.args.self.now in
    rw (c.section.ensures.section) (list_rises h.groups 0 h.tokens (section c.args.self.now 6) c.args.i (groups_are c.args.self.now c.section.ensures.formed) c.requires)

pub of_list-requires-clause-hold : goal.of_list-requires-clause-hold
of_list-requires-clause-hold c =
    let bytes = c.args.self.now in
    let h = header_of bytes in
    let less = c.requires in
    let within = index_within h.groups 0 h.tokens (section bytes 6) (suc c.args.i) (groups_are bytes c.section.ensures.formed) (omega (arith, less)) in
    rw (c.section.ensures.section, c.section-2.ensures.section, c.section-3.ensures.section)
    (tokens_are bytes (index_at (section bytes 6) (suc c.args.i)) c.section.ensures.formed (omega (arith, within)))

pub returns : goal.returns
returns c = c.of_list.ensures ∙ same_list _ _ _ _ _ _ c.args.i c.section-2.ensures.section c.section-3.ensures.section c.section.ensures.section
