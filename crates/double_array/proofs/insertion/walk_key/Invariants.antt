use Rattle.double_array.proofs.InsertionLemmas.{IsWalked}
use Rattle.double_array.proofs.insertion.walk_key.Given as goal

abbrev pub invariant-loop-used : goal.invariant-loop-used
invariant-loop-used l = IsWalked l.pool l.key l.used l.state l.from
