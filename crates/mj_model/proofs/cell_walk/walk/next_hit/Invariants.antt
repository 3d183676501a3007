use Rattle.std.proofs.Common.{◌≡◌, ◌-◌, length}
use Rattle.mj_model.specs.Hits.{hits_left}
use Rattle.mj_model.specs.Walking.{IsWalking}
use Rattle.mj_model.proofs.cell_walk.walk.next_hit.Given as goal

abbrev pub invariant-loop-place : goal.invariant-loop-place
invariant-loop-place g l = record {
  walking : IsWalking (g.C.CellRead.cells l.cells) l.text l.walk;
  hits : hits_left (g.C.CellRead.cells l.cells) l.text l.walk ≡ hits_left (g.C.CellRead.cells l.cells) l.text l.fn.walk;
}

abbrev pub decreases-loop-place : goal.decreases-loop-place
decreases-loop-place g l = length l.text - l.walk.length
