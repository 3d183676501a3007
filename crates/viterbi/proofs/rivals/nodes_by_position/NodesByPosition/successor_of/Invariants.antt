use Rattle.std.proofs.Common.{◌≡◌, ◌<◌, ℕ, Some, slice_get}
use Rattle.viterbi.specs.declared.nodes.lattice_node.LatticeNode.{LatticeNode}
use Rattle.viterbi.specs.Rivals.Successors.{KeepsBackwardCost}
use Rattle.viterbi.proofs.rivals.nodes_by_position.NodesByPosition.successor_of.Given as goal

abbrev pub invariant-loop-next : goal.invariant-loop-next
invariant-loop-next g l = (k : ℕ) (m : LatticeNode) → k < l.next → slice_get l.self.nodes.now k ≡ Some m → m.word.place ≡ l.node.word.end → KeepsBackwardCost (g.S.WordSource.searched_text l.self.source.now).connection l.node m → ⊥
