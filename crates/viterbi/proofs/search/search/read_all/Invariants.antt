use Rattle.std.proofs.Common.{◌≡◌, ◌++◌, length}
use Rattle.viterbi.proofs.search.search.read_all.Given as goal

abbrev pub invariant-loop-word : goal.invariant-loop-word
invariant-loop-word g l = l.words.items ++ g.W.WordStream.left l.left ≡ g.W.WordStream.left l.fn.left

abbrev pub decreases-loop-word : goal.decreases-loop-word
decreases-loop-word g l = length (g.W.WordStream.left l.left)
