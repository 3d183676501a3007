use Rattle.std.proofs.Common.{◌-◌, ◌≤◌}
use Rattle.double_array.specs.Pool.{IsPool}
use Rattle.double_array.proofs.pool.lowered.Given as goal

abbrev pub invariant-loop-top : goal.invariant-loop-top
invariant-loop-top l = record {
  pool : IsPool l.cells l.top l.start;
  low : l.top ≤ l.fn.top;
}

abbrev pub decreases-loop-top : goal.decreases-loop-top
decreases-loop-top l = l.top - 257
