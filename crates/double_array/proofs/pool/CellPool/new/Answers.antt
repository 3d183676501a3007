use Rattle.double_array.proofs.PoolLemmas.{new_pool, new_view}
use Rattle.double_array.proofs.pool.CellPool.new.Goals as goal

pub invariant_of-result : goal.invariant_of-result
invariant_of-result c = new_pool c.in_ok-cells.cells c.in_ok-cells.ensures

pub returns : goal.returns
returns c = new_view c.in_ok-cells.cells c.in_ok-cells.ensures
