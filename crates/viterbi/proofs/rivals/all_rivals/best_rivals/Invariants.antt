use Rattle.viterbi.proofs.AllRivalsLemmas.{AreBestTo}
use Rattle.viterbi.proofs.rivals.all_rivals.best_rivals.Given as goal

abbrev pub invariant-loop-number : goal.invariant-loop-number
invariant-loop-number l = AreBestTo l.nodes l.path l.number l.first l.bests.items
