use Rattle.std.proofs.Common.{rules, ◌≡◌, Some, slice_get, sym, ap, ◌∙◌}
use Rattle.dict_image.specs.CostRows.{costs_in_section}
use Rattle.dict_image.proofs.CostRowLemmas.{in_section, within_section}
use Rattle.dict_image.proofs.costs_before.large_matrix_cost.Goals as goal

pub returns-in-Some : goal.returns-in-Some
returns-in-Some c =
    let s = c.args.row.section in
    let there = in_section s c.args.right (within_section s c.args.right c.requires.there) in
    let is : slice_get (costs_in_section s) c.args.right ≡ Some c.in-Some.cost = there ∙ ap Some (sym c.in-Some.ensures) in
    search (rules, is)
