use Rattle.std.proofs.Common.{◌≤◌}
use Rattle.viterbi.specs.Search.StartPositions.{AreKeptFrom}
use Rattle.viterbi.specs.Search.SearchedText.{word_count}
use Rattle.viterbi.proofs.search.start_position.StartPosition.add_words.Given as goal

abbrev pub invariant-loop-i : goal.invariant-loop-i
invariant-loop-i g l = record {
  within : l.i ≤ word_count l.self.surfaces.now l.number;
  added : AreKeptFrom (g.S.WordSource.searched_text l.source) l.self l.number l.i l.by_surface l.backpointers.items;
  predecessors : g.F.FindPredecessor.is_of l.predecessors (g.S.WordSource.searched_text l.source).connection l.self.ends.now;
}

abbrev pub decreases-loop-i : goal.decreases-loop-i
decreases-loop-i g l = l.i
