use Rattle.dict_image.specs.Columns.{AreColumns}
use Rattle.dict_image.specs.CostTables.{cost_from}
use Rattle.dict_image.proofs.cost_table.set_rows.Given as goal

abbrev pub invariant-loop-right : goal.invariant-loop-right
invariant-loop-right l = AreColumns (cost_from l.sizes l.costs l.first) l.sizes.right l.count l.right l.rows
