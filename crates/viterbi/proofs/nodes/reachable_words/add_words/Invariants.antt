use Rattle.std.proofs.Common.{◌≡◌, ◌++◌, take}
use Rattle.viterbi.proofs.nodes.reachable_words.add_words.Given as goal

abbrev pub invariant-loop-i : goal.invariant-loop-i
invariant-loop-i g l = l.words.items ≡ l.fn.words.items ++ take l.i ((g.S.WordSource.searched_text l.source).surface_words l.surface)
