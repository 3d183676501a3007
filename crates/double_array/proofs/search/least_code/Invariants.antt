use Rattle.std.proofs.Common.{ℕ, ◌<◌}
use Rattle.double_array.specs.Family.{HasCode}
use Rattle.double_array.proofs.search.least_code.Given as goal

abbrev pub invariant-loop-code : goal.invariant-loop-code
invariant-loop-code l = (k : ℕ) → k < l.code → HasCode l.family k → ⊥
