use Rattle.std.proofs.Common.{length}
use Rattle.dict_image.specs.Columns.{AreColumns}
use Rattle.dict_image.specs.CostCache.{cost_between}
use Rattle.dict_image.proofs.cost_cache.cached_rows.Given as goal

abbrev pub invariant-loop-column : goal.invariant-loop-column
invariant-loop-column l = AreColumns (cost_between l.sizes l.costs l.lefts l.rights) (length l.rights) (length l.lefts) l.column l.cached.items
