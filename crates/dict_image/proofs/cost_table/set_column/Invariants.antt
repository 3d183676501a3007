use Rattle.std.proofs.Common.{ℕ}
use Rattle.dict_image.specs.Columns.{IsColumnSet}
use Rattle.dict_image.specs.CostTables.{cost_from}
use Rattle.dict_image.proofs.cost_table.set_column.Given as goal

abbrev pub invariant-loop-row : goal.invariant-loop-row
invariant-loop-row l = IsColumnSet (λ (row : ℕ). cost_from l.sizes l.costs l.first row l.right) l.sizes.right l.row l.right l.fn.rows l.rows
