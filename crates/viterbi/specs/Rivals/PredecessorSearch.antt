-- The predecessors of all nodes, as they are propagated from node to node.
use Rattle.std.specs.Prelude.{◌≡◌, ℕ, ℤ, ◌+ℤ◌, ◌<◌, ◌⊎◌, List, Option, length, slice_get, Some, None}
use Rattle.viterbi.specs.declared.nodes.lattice_node.LatticeNode.{LatticeNode}
use Rattle.viterbi.specs.Rivals.Neighbors.{PrecedesAtLeastCost}
use Rattle.viterbi.specs.declared.rivals.neighbor.Neighbor.{Neighbor}

-- the forward cost of n is that of m plus the costs of the step from m to n
abbrev pub IsTotalFrom : (ℕ → ℕ → ℤ) → LatticeNode → LatticeNode → Type 0
IsTotalFrom conn m n = n.total ≡ (m.total +ℤ conn m.word.right n.word.left) +ℤ n.word.cost

-- a neighbor so far: a predecessor of the node on a chain of least cost, or BOS
abbrev pub IsPredecessorSoFar : (ℕ → ℕ → ℤ) → List LatticeNode → LatticeNode → ℤ → Option ℕ → Type 0
IsPredecessorSoFar conn nodes n connection None = connection ≡ conn 0 n.word.left
IsPredecessorSoFar conn nodes n connection (Some k) = (m : LatticeNode) × (slice_get nodes k ≡ Some m) × PrecedesAtLeastCost conn m connection n

-- the nodes before i were propagated to all nodes, and node i to the nodes before j: if a node's
-- neighbor is BOS, none of these precedes it on a chain of least cost
pub record ArePropagated (conn : ℕ → ℕ → ℤ) (nodes : List LatticeNode) (i j : ℕ) (links : List Neighbor) : Type 0 where
  pub long : length links ≡ length nodes
  pub each : (k : ℕ) (n : LatticeNode) (link : Neighbor) → slice_get nodes k ≡ Some n → slice_get links k ≡ Some link
      → IsPredecessorSoFar conn nodes n link.connection link.node
  pub none : (p k : ℕ) (m n : LatticeNode) (link : Neighbor) → (p < i) ⊎ ((p ≡ i) × (k < j))
      → slice_get nodes p ≡ Some m → slice_get nodes k ≡ Some n → slice_get links k ≡ Some link
      → link.node ≡ None
      → m.word.end ≡ n.word.place → IsTotalFrom conn m n → ⊥

-- m precedes n on a chain of least cost, and becomes its predecessor; `number` is the number of m
pub record IsUpdated (conn : ℕ → ℕ → ℤ) (number : ℕ) (m n : LatticeNode) (result : Neighbor) : Type 0 where
  pub total : IsTotalFrom conn m n
  pub node : result.node ≡ Some number
  pub connection : result.connection ≡ conn m.word.right n.word.left

-- m doesn't precede n on a chain of least cost, and the neighbor `link` of n is unchanged
pub record IsUnchanged (conn : ℕ → ℕ → ℤ) (m n : LatticeNode) (link result : Neighbor) : Type 0 where
  pub other : IsTotalFrom conn m n → ⊥
  pub is : result ≡ link

-- the predecessor of n after m was tried; `link` is the predecessor so far
abbrev pub IsPredecessorFrom : (ℕ → ℕ → ℤ) → ℕ → LatticeNode → LatticeNode → Neighbor → Neighbor → Type 0
IsPredecessorFrom conn number m n link result = IsUpdated conn number m n result ⊎ IsUnchanged conn m n link result
