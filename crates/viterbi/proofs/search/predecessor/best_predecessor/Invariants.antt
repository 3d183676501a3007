use Rattle.viterbi.proofs.Least.{IsLeastOf}
use Rattle.viterbi.proofs.search.predecessor.best_predecessor.Given as goal

abbrev pub invariant-loop-rank : goal.invariant-loop-rank
invariant-loop-rank g l = IsLeastOf (g.S.WordSource.searched_text l.source).connection l.ends l.left l.rank l.best
