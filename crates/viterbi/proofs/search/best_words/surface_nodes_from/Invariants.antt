use Rattle.std.proofs.Common.{◌<◌, ◌≤◌, ◌-◌, length, take}
use Rattle.viterbi.specs.Search.Nodes.{node_words}
use Rattle.viterbi.proofs.search.best_words.surface_nodes_from.Given as goal

-- no earlier group has the node
abbrev pub invariant-loop-number : goal.invariant-loop-number
invariant-loop-number g l = record {
  within : l.number < length l.by_surface;
  next_ones : length (node_words (g.S.WordSource.searched_text l.source).surface_words (take l.number l.by_surface)) ≤ l.node;
}

abbrev pub decreases-loop-number : goal.decreases-loop-number
decreases-loop-number g l = length l.by_surface - l.number
