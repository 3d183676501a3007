use Rattle.viterbi.specs.Search.PrunedEndNodes.{RecordedEndNodes}
use Rattle.viterbi.proofs.search.end_pruning.keep_recorded.Given as goal

abbrev pub invariant-loop-rank : goal.invariant-loop-rank
invariant-loop-rank l = RecordedEndNodes l.ends l.ranks l.rank l.left.items
