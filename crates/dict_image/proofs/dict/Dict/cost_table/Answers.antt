use Rattle.std.proofs.Common.{ℕ, List, subst}
use Rattle.image_format.specs.ImageBytes.{header_of, kind_of, section}
use Rattle.dict_image.specs.CostTables.{IsCostTable}
use Rattle.dict_image.proofs.dict.Dict.cost_table.Goals as goal

pub returns-clause-table : goal.returns-clause-table
returns-clause-table c = subst (λ (bytes : List ℕ). IsCostTable (kind_of (header_of bytes)) (header_of bytes).sizes (section bytes 1) c.self.inside.tables.costs) c.self.view_is c.self.invariant.tables.costs_are
