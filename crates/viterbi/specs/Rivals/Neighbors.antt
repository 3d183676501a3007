-- The neighbors of a node's word on a path of least cost.
use Rattle.std.specs.Prelude.{◌≡◌, ℕ, ℤ, pos, ◌+ℤ◌, ◌<◌, List, Option, length, slice_get, Some, None}
use Rattle.mj_model.specs.declared.word.Word.{Word}
use Rattle.viterbi.specs.declared.nodes.lattice_node.LatticeNode.{LatticeNode}
use Rattle.viterbi.specs.Nodes.BackwardCosts.{IsLongest}
use Rattle.viterbi.specs.declared.rivals.neighbor.Neighbor.{Neighbor}

-- m precedes n on a chain of least cost up to n, with this connection cost
pub record PrecedesAtLeastCost (conn : ℕ → ℕ → ℤ) (m : LatticeNode) (connection : ℤ) (n : LatticeNode) : Type 0 where
  pub meet : m.word.end ≡ n.word.place
  pub connection_is : connection ≡ conn m.word.right n.word.left
  pub total_is : n.total ≡ (m.total +ℤ connection) +ℤ n.word.cost

-- n follows BOS on a chain of least cost up to n
pub record StartsChain (conn : ℕ → ℕ → ℤ) (connection : ℤ) (n : LatticeNode) : Type 0 where
  pub place : n.word.place ≡ 0
  pub connection_is : connection ≡ conn 0 n.word.left
  pub total_is : n.total ≡ (pos 0 +ℤ connection) +ℤ n.word.cost

-- the neighbor before n on a chain of least cost up to n
abbrev pub IsBefore : (ℕ → ℕ → ℤ) → List LatticeNode → LatticeNode → ℤ → Option ℕ → Type 0
IsBefore conn nodes n connection None = StartsChain conn connection n
IsBefore conn nodes n connection (Some k) = (m : LatticeNode) × (slice_get nodes k ≡ Some m) × PrecedesAtLeastCost conn m connection n

-- m follows n on a path of least cost through n, with this connection cost: the backward cost of n
-- is that of m plus the costs of the step from n to m
pub record ContinuesWith (conn : ℕ → ℕ → ℤ) (n : LatticeNode) (cost connection : ℤ) (m : LatticeNode) : Type 0 where
  pub meet : m.word.place ≡ n.word.end
  pub connection_is : connection ≡ conn n.word.right m.word.left
  pub through : ℤ
  pub has_through : m.through ≡ Some through
  pub cost_is : cost +ℤ m.total ≡ ((n.total +ℤ connection) +ℤ m.word.cost) +ℤ through

-- a path of least cost through n ends with n
pub record EndsPath (words : ℕ → List Word) (conn : ℕ → ℕ → ℤ) (n : LatticeNode) (cost connection : ℤ) : Type 0 where
  pub longest : IsLongest words n.word.end
  pub connection_is : connection ≡ conn n.word.right 0
  pub cost_is : cost ≡ n.total +ℤ connection

-- the neighbor after n on a path of least cost through n
abbrev pub IsAfter : (ℕ → List Word) → (ℕ → ℕ → ℤ) → List LatticeNode → LatticeNode → ℤ → ℤ → Option ℕ → Type 0
IsAfter words conn nodes n cost connection None = EndsPath words conn n cost connection
IsAfter words conn nodes n cost connection (Some k) = (m : LatticeNode) × (slice_get nodes k ≡ Some m) × ContinuesWith conn n cost connection m

-- the neighbor after n if some path contains n, otherwise none
abbrev pub IsAfterIfSome : (ℕ → List Word) → (ℕ → ℕ → ℤ) → List LatticeNode → LatticeNode → Option ℤ → Neighbor → Type 0
IsAfterIfSome words conn nodes n None link = link.node ≡ None
IsAfterIfSome words conn nodes n (Some cost) link = IsAfter words conn nodes n cost link.connection link.node

-- for each node, the neighbor before its word
pub record AreBefore (conn : ℕ → ℕ → ℤ) (nodes : List LatticeNode) (links : List Neighbor) : Type 0 where
  pub long : length links ≡ length nodes
  pub each : (i : ℕ) (n : LatticeNode) (link : Neighbor) → slice_get nodes i ≡ Some n → slice_get links i ≡ Some link
      → IsBefore conn nodes n link.connection link.node

-- for each node, the neighbor after its word
pub record AreAfter (words : ℕ → List Word) (conn : ℕ → ℕ → ℤ) (nodes : List LatticeNode) (links : List Neighbor) : Type 0 where
  pub long : length links ≡ length nodes
  pub each : (i : ℕ) (n : LatticeNode) (link : Neighbor) → slice_get nodes i ≡ Some n → slice_get links i ≡ Some link
      → IsAfterIfSome words conn nodes n n.through link

-- each neighbor that is a node has a number below `count`
abbrev pub LeadWithin : ℕ → List Neighbor → Type 0
LeadWithin count links = (i k : ℕ) (link : Neighbor) → slice_get links i ≡ Some link → link.node ≡ Some k → k < count
