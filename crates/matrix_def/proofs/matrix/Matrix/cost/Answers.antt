use Rattle.std.proofs.Common.{◌<◌, length, arith, rules, ap, ◌∙◌}
use Rattle.std.specs.Prelude.{pos, slice_index_or}
use Rattle.std.proofs.lemmas.Int.{to_z-of_z}
use Rattle.std.proofs.lemmas.List.{get_or_default}
use mir.Syntax.{w16}
use mir.Val.{SFits}
use Rattle.matrix_def.specs.Costs.{CostTable, matrix_cost}
use Rattle.matrix_def.proofs.RowLemmas.{within_table}
use Rattle.matrix_def.proofs.matrix.Matrix.cost.Goals as goal

pub index-requires : goal.index-requires
index-requires c =
    let m : CostTable = record { sizes = c.self.inside.sizes; costs = c.self.inside.costs.items } in
    let low = within_table m c.args.prev_right c.args.next_left c.self.invariant (rw (← c.self.view_is) at c.requires) in
    omega (arith, low, c.cell.ensures)

pub returns : goal.returns
returns c =
    let m : CostTable = record { sizes = c.self.inside.sizes; costs = c.self.inside.costs.items } in
    let fits : SFits w16 c.index.result.now = search rules in
    let pair = within_table m c.args.prev_right c.args.next_left c.self.invariant (rw (← c.self.view_is) at c.requires) in
    let low : c.cell.result < length m.costs = omega (arith, pair, c.cell.ensures) in
    to_z-of_z w16 c.index.result.now fits ∙ c.index.ensures ∙ get_or_default m.costs c.cell.result c.index.result.now (pos 0) low
    ∙ ap (λ k. slice_index_or m.costs k (pos 0)) c.cell.ensures ∙ ap (λ t. matrix_cost t c.args.prev_right c.args.next_left) c.self.view_is
