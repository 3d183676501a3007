use Rattle.std.proofs.Common.{arith}
use Rattle.matrix_def.specs.Costs.{CostTable}
use Rattle.matrix_def.proofs.RowLemmas.{within_table}
use Rattle.matrix_def.proofs.matrix.Matrix.set.Goals as goal

pub index_mut-requires : goal.index_mut-requires
index_mut-requires c =
    let m : CostTable = record { sizes = c.self.inside.sizes; costs = c.self.inside.costs.items } in
    let low = within_table m c.args.right c.args.left c.self.invariant (rw (← c.self.view_is) at c.requires) in
    omega (arith, low, c.cell-at.ensures)
