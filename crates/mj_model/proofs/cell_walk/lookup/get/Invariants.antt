use Rattle.std.proofs.Common.{◌≡◌, ◌+◌, ◌≤◌, take, Some}
use Rattle.mj_model.specs.CellMap.{walk, codes_of}
use Rattle.mj_model.specs.Steps.{IsAt}
use Rattle.mj_model.proofs.cell_walk.lookup.get.Given as goal

abbrev pub invariant-loop-byte : goal.invariant-loop-byte
invariant-loop-byte g l = record {
  led : walk (g.C.CellRead.cells l.cells) 0 (take l.byte-index (codes_of l.key)) ≡ Some l.place.state;
  at : IsAt (g.C.CellRead.cells l.cells) l.place;
  few : l.reads ≤ l.byte-index + 1;
}
