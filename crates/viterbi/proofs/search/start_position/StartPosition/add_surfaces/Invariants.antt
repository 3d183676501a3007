use Rattle.std.proofs.Common.{◌≤◌, length}
use Rattle.viterbi.specs.Search.Interchangeable.{EndsWithAny}
use Rattle.viterbi.specs.Search.StartPositions.{AreKeptFrom}
use Rattle.viterbi.specs.Search.SearchedText.{AreStored}
use Rattle.viterbi.proofs.search.start_position.StartPosition.add_surfaces.Given as goal

abbrev pub invariant-loop-number : goal.invariant-loop-number
invariant-loop-number g l = record {
  within : l.number ≤ length l.self.surfaces.now;
  previous : EndsWithAny (g.S.WordSource.searched_text l.source) l.self.surfaces.now l.number l.nodes.by_surface.items;
  kept : AreStored (g.S.WordSource.searched_text l.source) l.nodes.by_surface.items l.nodes.backpointers.items l.nodes.heads.items;
  added : AreKeptFrom (g.S.WordSource.searched_text l.source) l.self l.number 0 l.nodes.by_surface.items l.nodes.backpointers.items;
  predecessors : g.F.FindPredecessor.is_of l.predecessors (g.S.WordSource.searched_text l.source).connection l.self.ends.now;
}

abbrev pub decreases-loop-number : goal.decreases-loop-number
decreases-loop-number g l = l.number
