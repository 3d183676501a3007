use Rattle.std.proofs.Common.{◌+◌, ◌≤◌, length}
use Rattle.viterbi.specs.Search.EndNodes.{AreEndNodesOf}
use Rattle.viterbi.specs.Search.SearchedText.{nodes_in}
use Rattle.viterbi.proofs.search.end_nodes.append_end_nodes.Given as goal

-- the nodes from this one on were appended
abbrev pub invariant-loop-number : goal.invariant-loop-number
invariant-loop-number g l = record {
  next_ones : l.surface_nodes.from ≤ l.number;
  within : l.number ≤ l.surface_nodes.from + l.surface_nodes.surface.count;
  among : l.number ≤ length l.backpointers;
  appear : AreEndNodesOf (nodes_in (g.S.WordSource.searched_text l.source) l.by_surface l.backpointers) l.surface_nodes.surface.end l.number l.ends.items;
}

abbrev pub decreases-loop-number : goal.decreases-loop-number
decreases-loop-number g l = l.number
