use Rattle.std.proofs.Common.{length}
use Rattle.dict_image.specs.Columns.{IsColumnSet}
use Rattle.dict_image.specs.CostCache.{cost_after}
use Rattle.dict_image.proofs.cost_cache.set_column.Given as goal

abbrev pub invariant-loop-row : goal.invariant-loop-row
invariant-loop-row l = IsColumnSet (cost_after l.sizes l.costs l.lefts l.rights l.column) (length l.rights) l.row l.column l.fn.cached l.cached
