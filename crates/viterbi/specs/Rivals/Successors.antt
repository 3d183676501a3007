-- The successor of a node, as it is sought among the nodes that start at the node's end.
use Rattle.std.specs.Prelude.{◌≡◌, ℕ, ℤ, ◌+ℤ◌, List, Option, slice_get, Some, None}
use Rattle.mj_model.specs.declared.word.Word.{Word}
use Rattle.viterbi.specs.declared.nodes.lattice_node.LatticeNode.{LatticeNode}
use Rattle.viterbi.specs.Rivals.Neighbors.{IsAfterIfSome}
use Rattle.viterbi.specs.declared.rivals.neighbor.Neighbor.{Neighbor}

-- some path contains both nodes, and the backward cost of n is that of m plus the costs of the step
-- from n to m
pub record KeepsBackwardCost (conn : ℕ → ℕ → ℤ) (n m : LatticeNode) : Type 0 where
  pub cost : ℤ
  pub through : ℤ
  pub has_cost : n.through ≡ Some cost
  pub has_through : m.through ≡ Some through
  pub same : cost +ℤ m.total ≡ ((n.total +ℤ conn n.word.right m.word.left) +ℤ m.word.cost) +ℤ through

-- node `number` as the successor of n if m keeps the backward cost, or none
abbrev pub IsFollower : (ℕ → ℕ → ℤ) → LatticeNode → ℕ → LatticeNode → Option Neighbor → Type 0
IsFollower conn n number m None = KeepsBackwardCost conn n m → ⊥
IsFollower conn n number m (Some link) = KeepsBackwardCost conn n m × (link.node ≡ Some number) × (link.connection ≡ conn n.word.right m.word.left)

-- the neighbor after node `number`
abbrev pub IsSuccessorAt : (ℕ → List Word) → (ℕ → ℕ → ℤ) → List LatticeNode → ℕ → Neighbor → Type 0
IsSuccessorAt words conn nodes number link = (n : LatticeNode) → slice_get nodes number ≡ Some n → IsAfterIfSome words conn nodes n n.through link
