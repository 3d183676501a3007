use Rattle.std.proofs.Common.{◌-◌, ◌≤◌}
use Rattle.dict_image.specs.CostTables.{AreRowsTo}
use Rattle.dict_image.proofs.cost_table.cost_rows.Given as goal

abbrev pub invariant-loop-first : goal.invariant-loop-first
invariant-loop-first l = (l.first ≤ l.sizes.left) × AreRowsTo l.sizes l.costs l.first l.rows.items

abbrev pub decreases-loop-first : goal.decreases-loop-first
decreases-loop-first l = l.sizes.left - l.first
