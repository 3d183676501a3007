use Rattle.double_array.proofs.FamilyLemmas.{IsFamilyBelow}
use Rattle.double_array.proofs.relocation.family_of.Given as goal

abbrev pub invariant-loop-code : goal.invariant-loop-code
invariant-loop-code l = IsFamilyBelow l.pool.cells l.state l.from l.family l.code
