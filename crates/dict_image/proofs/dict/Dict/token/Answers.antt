use Rattle.std.proofs.Common.{◌∙◌, refl, arith}
use Rattle.image_format.specs.ImageBytes.{header_of, all_tokens}
use Rattle.dict_image.proofs.FormedLemmas.{tokens_are}
use Rattle.dict_image.proofs.dict.Dict.token.Goals as goal

pub token_at-requires-clause-token : goal.token_at-requires-clause-token
token_at-requires-clause-token c =
    let n = all_tokens (header_of c.args.self.now) in
    let room = (tokens_are c.args.self.now n c.section.ensures.formed (omega arith)).room in
    let less = c.requires in
    rw (c.section.ensures.section) (omega (arith, room, less))

pub token_at-requires-clause-feature : goal.token_at-requires-clause-feature
token_at-requires-clause-feature c =
    let n = all_tokens (header_of c.args.self.now) in
    rw (c.section.ensures.section, c.section-2.ensures.section) ((tokens_are c.args.self.now n c.section.ensures.formed (omega arith)).each c.args.i c.requires)

pub returns : goal.returns
returns c = c.token_at.ensures ∙ rw (c.section.ensures.section, c.section-2.ensures.section) refl
