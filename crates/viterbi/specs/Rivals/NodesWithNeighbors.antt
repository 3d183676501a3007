-- Nodes with their neighbors, stored in parallel lists.
use Rattle.std.specs.Prelude.{◌≡◌, ℕ, ◌<◌, ◌^◌, ◌⊎◌, List, Option, Bool, true, false, length, slice_get, Some, None}
use Rattle.mj_model.specs.Bounds.{IsWithin}
use Rattle.viterbi.specs.declared.nodes.lattice_node.LatticeNode.{LatticeNode}
use Rattle.viterbi.specs.Rivals.Neighbors.{LeadWithin}
use Rattle.viterbi.specs.declared.rivals.nodes_with_neighbors.NodesWithNeighbors.{NodesWithNeighbors}

-- the lists have one entry for each node, the number of each neighbor is that of a node, and no
-- forward cost is near overflow
pub record HaveNeighbors (linked : NodesWithNeighbors) : Type 0 where
  pub on_best_long : length linked.on_best.items ≡ length linked.nodes.items
  pub before_long : length linked.before.items ≡ length linked.nodes.items
  pub after_long : length linked.after.items ≡ length linked.nodes.items
  pub before_within : LeadWithin (length linked.nodes.items) linked.before.items
  pub after_within : LeadWithin (length linked.nodes.items) linked.after.items
  pub small : (i : ℕ) (n : LatticeNode) → slice_get linked.nodes.items i ≡ Some n → IsWithin (2 ^ 40) n.total

-- a neighbor is a node number below `count`, or none
abbrev pub IsNodeNumber : ℕ → Option ℕ → Type 0
IsNodeNumber count None = Unit {0}
IsNodeNumber count (Some k) = k < count

-- the node of a neighbor unless it is on the best path; none if it is, or if the neighbor is BOS or
-- EOS
pub record IsOther (on_best : List Bool) (node : Option ℕ) (other : Option ℕ) : Type 0 where
  pub some : (k : ℕ) → other ≡ Some k → (node ≡ Some k) × (slice_get on_best k ≡ Some false)
  pub none : other ≡ None → (node ≡ None) ⊎ ((k : ℕ) × (node ≡ Some k) × (slice_get on_best k ≡ Some true))
