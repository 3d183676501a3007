use Rattle.viterbi.proofs.PlaceLemmas.{AreIndexedTo}
use Rattle.viterbi.proofs.rivals.places.firsts_of.Given as goal

abbrev pub invariant-loop-number : goal.invariant-loop-number
invariant-loop-number l = AreIndexedTo l.nodes l.number l.firsts.items
