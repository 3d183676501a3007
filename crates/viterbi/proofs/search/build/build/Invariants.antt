use Rattle.std.proofs.Common.{◌<◌, ◌≤◌, ◌-◌}
use Rattle.viterbi.specs.Search.SearchedText.{AreStored, IsLatticeTo, IsReachedIn, nodes_in}
use Rattle.viterbi.proofs.search.build.build.Given as goal

abbrev pub invariant-loop-place : goal.invariant-loop-place
invariant-loop-place g l = record {
  within : l.place ≤ (g.S.WordSource.searched_text l.source).text_length;
  reached : l.place < (g.S.WordSource.searched_text l.source).text_length → IsReachedIn l.nodes l.place;
  kept : AreStored (g.S.WordSource.searched_text l.source) l.nodes.by_surface.items l.nodes.backpointers.items l.nodes.heads.items;
  lattice : IsLatticeTo (g.S.WordSource.searched_text l.source) (nodes_in (g.S.WordSource.searched_text l.source) l.nodes.by_surface.items l.nodes.backpointers.items) l.place;
  cursor : g.S.WordSource.is_cursor l.source l.cursor;
}

abbrev pub decreases-loop-place : goal.decreases-loop-place
decreases-loop-place g l = l.length - l.place
