use Rattle.std.proofs.Common.{◌-◌, length}
use Rattle.viterbi.proofs.AllRivalsLemmas.{IsOfferedTo}
use Rattle.viterbi.proofs.rivals.all_rivals.update_best_rivals.Given as goal

abbrev pub invariant-loop-k : goal.invariant-loop-k
invariant-loop-k l = IsOfferedTo l.path l.number l.node l.first l.initial.bests l.k l.bests

abbrev pub decreases-loop-k : goal.decreases-loop-k
decreases-loop-k l = length l.path - l.k
