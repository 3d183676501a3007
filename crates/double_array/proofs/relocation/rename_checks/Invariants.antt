use Rattle.std.proofs.Common.{◌≡◌}
use Rattle.double_array.specs.Moves.{IsRenamed}
use Rattle.double_array.proofs.relocation.rename_checks.Given as goal

abbrev pub invariant-loop-code : goal.invariant-loop-code
invariant-loop-code l = record {
  renamed : IsRenamed l.fn.pool.cells l.pool.cells l.base l.code l.old l.new;
  top : l.pool.top ≡ l.fn.pool.top;
}
