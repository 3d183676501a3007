use Rattle.std.proofs.Common.{◌≡◌, length}
use Rattle.mj_model.specs.CellMap.{HasSameMap}
use Rattle.double_array.specs.Tail.{AreUnchanged, IsReady}
use Rattle.double_array.proofs.tail.add_tail.Given as goal

abbrev pub invariant-loop-i : goal.invariant-loop-i
invariant-loop-i l = record {
  ready : IsReady l.pool l.key l.i l.state l.wanted;
  map : HasSameMap l.fn.pool.cells l.pool.cells;
  kept : AreUnchanged l.fn.pool.cells l.pool.cells;
  long : length l.pool.cells ≡ length l.fn.pool.cells;
}
