use Rattle.viterbi.proofs.PruningLemmas.{all_left}
use Rattle.viterbi.proofs.search.end_pruning.EndPruning.prune_ends.Goals as goal

pub returns-then-len-le-LINEAR_SCAN_MAX-clause-left : goal.returns-then-len-le-LINEAR_SCAN_MAX-clause-left
returns-then-len-le-LINEAR_SCAN_MAX-clause-left c = all_left c.args.ends.now.items
