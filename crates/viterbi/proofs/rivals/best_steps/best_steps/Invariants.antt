use Rattle.std.proofs.Common.{drop}
use Rattle.viterbi.proofs.BestStepLemmas.{AreStepsBefore}
use Rattle.viterbi.proofs.rivals.best_steps.best_steps.Given as goal

abbrev pub invariant-loop-word : goal.invariant-loop-word
invariant-loop-word g l = AreStepsBefore (g.S.WordSource.searched_text l.source) l.path (drop l.word-index l.path) l.right l.total.cost l.steps.items
