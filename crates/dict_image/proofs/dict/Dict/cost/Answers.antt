use Rattle.std.proofs.Common.{rules, ◌≡◌, ◌<◌, ℕ, Some, length, slice_get, ap, ◌∙◌, subst, sym}
use Rattle.std.proofs.lemmas.Option.{same_Some, slice_get_within}
use Rattle.image_format.specs.ImageBytes.{header_of}
use Rattle.image_format.specs.ImageMeaning.{image_cost}
use Rattle.dict_image.proofs.FittingLemmas.{pair_within}
use Rattle.dict_image.proofs.dict.Dict.cost.Goals as goal

pub costs_before-requires-clause-left : goal.costs_before-requires-clause-left
costs_before-requires-clause-left c = (pair_within (header_of c.args.self.now).sizes c.args.prev_right c.args.next_left c.requires.pair).1

pub after-requires : goal.after-requires
after-requires c =
    let right = c.args.prev_right in
    let within = slice_get_within c.costs_before.result right (image_cost c.args.self.now right c.args.next_left) (c.costs_before.ensures right c.requires.pair) in
    subst (λ (r : ℕ). r < length c.costs_before.result) (sym c.from.ensures) within

pub returns : goal.returns
returns c =
    let right = c.args.prev_right in
    let cost = image_cost c.args.self.now right c.args.next_left in
    let read : slice_get c.costs_before.result right ≡ Some c.after.result = ap (slice_get c.costs_before.result) (sym c.from.ensures) ∙ c.after.ensures in
    let is : c.after.result ≡ cost = same_Some c.after.result cost (sym read ∙ c.costs_before.ensures right c.requires.pair) in
    search (rules, is)
