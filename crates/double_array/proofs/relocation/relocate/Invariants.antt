use Rattle.std.proofs.Common.{◌≡◌, ◌+◌, ◌≤◌}
use Rattle.double_array.specs.Moves.{IsMovedUpTo}
use Rattle.double_array.proofs.MovedLemmas.{children_below}
use Rattle.double_array.proofs.relocation.relocate.Given as goal

abbrev pub invariant-loop-code : goal.invariant-loop-code
invariant-loop-code l = record {
  children : IsMovedUpTo l.fn.pool.cells l.pool.cells l.state l.from l.to l.family l.code;
  low : l.fn.pool.top ≤ l.pool.top;
  top : l.pool.top ≤ l.fn.pool.top + 257;
  count : l.moved ≡ children_below l.fn.pool.cells l.state l.code;
  few : l.moved ≤ l.code;
}
