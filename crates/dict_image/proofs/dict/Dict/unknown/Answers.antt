use Rattle.std.proofs.Common.{◌≡◌, ◌<◌, suc, Bool, cond, List, [], length, sym, ap, ◌∙◌, subst, arith}
use Rattle.std.proofs.lemmas.Bool.{lt-ltb}
use Rattle.image_format.specs.ImageBytes.{header_of, section, all_tokens}
use Rattle.image_format.specs.ImageMeaning.{tokens_in}
use Rattle.image_format.specs.ImageSections.{index_at}
use Rattle.mj_model.specs.Tables.{Token}
use Rattle.dict_image.proofs.CategoryLemmas.{below_count}
use Rattle.dict_image.proofs.FormedLemmas.{system_of_categories, tokens_are, unknown_are}
use Rattle.dict_image.proofs.TokenLemmas.{index_within, list_rises, list_within, same_list, some_tokens}
use Rattle.dict_image.proofs.dict.Dict.unknown.Goals as goal

pub of_list-requires-clause-index : goal.of_list-requires-clause-index
of_list-requires-clause-index c =
    let bytes = c.args.self.now in
    let h = header_of bytes in
    let less = below_count bytes c.args.i c.requires in
    let w = c.section.ensures.formed in
    rw (c.section.ensures.section) (list_within h.categories h.tokens (all_tokens h) (section bytes 4) c.args.i (unknown_are bytes (system_of_categories bytes c.args.i w less) w) less)

pub of_list-requires-clause-order : goal.of_list-requires-clause-order
of_list-requires-clause-order c =
    let bytes = c.args.self.now in
    let h = header_of bytes in
    let less = below_count bytes c.args.i c.requires in
    let w = c.section.ensures.formed in
    rw (c.section.ensures.section) (list_rises h.categories h.tokens (all_tokens h) (section bytes 4) c.args.i (unknown_are bytes (system_of_categories bytes c.args.i w less) w) less)

pub of_list-requires-clause-hold : goal.of_list-requires-clause-hold
of_list-requires-clause-hold c =
    let bytes = c.args.self.now in
    let h = header_of bytes in
    let less = below_count bytes c.args.i c.requires in
    let w = c.section.ensures.formed in
    let within = index_within h.categories h.tokens (all_tokens h) (section bytes 4) (suc c.args.i) (unknown_are bytes (system_of_categories bytes c.args.i w less) w) (omega (arith, less)) in
    rw (c.section.ensures.section, c.section-2.ensures.section, c.section-3.ensures.section) (tokens_are bytes (index_at (section bytes 4) (suc c.args.i)) w within)

pub returns-clause-unknown : goal.returns-clause-unknown
returns-clause-unknown c =
    let bytes = c.args.self.now in
    let tokens = tokens_in (section bytes 7) (section bytes 8) (section bytes 4) c.args.i in
    let listed : c.of_list.result ≡ tokens = c.of_list.ensures ∙ same_list _ _ _ _ _ _ c.args.i c.section-2.ensures.section c.section-3.ensures.section c.section.ensures.section in
    listed ∙ sym (ap (λ (b : Bool). cond b tokens []) (lt-ltb c.args.i (header_of bytes).categories (below_count bytes c.args.i c.requires)))

pub returns-clause-some : goal.returns-clause-some
returns-clause-some c =
    let bytes = c.args.self.now in
    let h = header_of bytes in
    let less = below_count bytes c.args.i c.requires in
    let w = c.section.ensures.formed in
    let tokens = tokens_in (section bytes 7) (section bytes 8) (section bytes 4) c.args.i in
    let listed : c.of_list.result ≡ tokens = c.of_list.ensures ∙ same_list _ _ _ _ _ _ c.args.i c.section-2.ensures.section c.section-3.ensures.section c.section.ensures.section in
    let rises = (unknown_are bytes (system_of_categories bytes c.args.i w less) w).rising c.args.i less in
    subst (λ (ts : List Token). 0 < length ts) (sym listed) (some_tokens (section bytes 7) (section bytes 8) (section bytes 4) c.args.i rises)
