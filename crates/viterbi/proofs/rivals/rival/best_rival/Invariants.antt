use Rattle.viterbi.proofs.RivalLemmas.{SoFar}
use Rattle.viterbi.proofs.rivals.rival.best_rival.Given as goal

abbrev pub invariant-loop-number : goal.invariant-loop-number
invariant-loop-number l = SoFar l.nodes l.word l.number l.best
