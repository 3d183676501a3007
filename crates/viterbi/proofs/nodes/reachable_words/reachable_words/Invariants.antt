use Rattle.viterbi.specs.Nodes.ReachableWords.{IsReachedTo}
use Rattle.viterbi.proofs.nodes.reachable_words.reachable_words.Given as goal

abbrev pub invariant-loop-place : goal.invariant-loop-place
invariant-loop-place g l = record {
  reached : IsReachedTo (g.S.WordSource.searched_text l.source) l.place l.reached.words.items l.reached.firsts.items l.marks;
  cursor : g.S.WordSource.is_cursor l.source l.cursor;
}
