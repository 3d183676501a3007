use Rattle.viterbi.specs.Search.SearchedText.{IsLatticeTo, stored_nodes}
use Rattle.viterbi.proofs.search.build.next_reachable.Given as goal

abbrev pub invariant-loop-place : goal.invariant-loop-place
invariant-loop-place g l = IsLatticeTo (g.S.WordSource.searched_text l.source) (stored_nodes (g.S.WordSource.searched_text l.source) l.nodes) l.place
