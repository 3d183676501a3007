use Rattle.viterbi.specs.Search.PrunedEndNodes.{AreRecorded}
use Rattle.viterbi.proofs.search.end_pruning.record_ranks.Given as goal

abbrev pub invariant-loop-rank : goal.invariant-loop-rank
invariant-loop-rank l = AreRecorded l.ends l.rank l.ranks.items
