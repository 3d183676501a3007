use Rattle.std.proofs.Common.{rules, arith, ◌≡◌, Some, slice_get, sym, ap, ◌∙◌}
use Rattle.dict_image.specs.CostRows.{costs_in_section}
use Rattle.dict_image.proofs.CostRowLemmas.{in_section, within_section}
use Rattle.dict_image.proofs.costs_before.cost_in_section.Goals as goal

pub overflow_cast-right : goal.overflow_cast-right
overflow_cast-right c =
    let less = within_section c.args.row c.args.right c.requires.there in
    let wide = c.requires.row.rights in
    omega (arith, less, wide)

pub cost_at-requires-clause-right : goal.cost_at-requires-clause-right
cost_at-requires-clause-right c = within_section c.args.row c.args.right c.requires.there

pub returns : goal.returns
returns c =
    let s = c.args.row in
    let there = in_section s c.args.right (within_section s c.args.right c.requires.there) in
    let is : slice_get (costs_in_section s) c.args.right ≡ Some c.cost_at.result = there ∙ ap Some (sym c.cost_at.ensures) in
    search (rules, is)
