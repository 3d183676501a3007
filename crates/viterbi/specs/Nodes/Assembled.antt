-- The nodes of a lattice, assembled from words with their forward and backward costs.
use Rattle.std.specs.Prelude.{◌≡◌, ℕ, ℤ, ◌+ℤ◌, ◌^◌, List, length, slice_get, Option, Some, None}
use Rattle.mj_model.specs.Bounds.{IsWithin}
use Rattle.mj_model.specs.declared.word.Word.{Word}
use Rattle.viterbi.specs.declared.nodes.cost.ChainCost.{ChainCost}
use Rattle.viterbi.specs.declared.nodes.lattice_node.LatticeNode.{LatticeNode}

-- the cost is far from overflow
abbrev pub IsSmall : ChainCost → Type 0
IsSmall chain = IsWithin (2 ^ 40) chain.cost

-- the cost is far from overflow, if there is one
abbrev pub IsSmallIfSome : Option ChainCost → Type 0
IsSmallIfSome None = Unit {0}
IsSmallIfSome (Some chain) = IsSmall chain

-- there is a cost, and it is far from overflow
abbrev pub IsSmallTotal : Option ChainCost → Type 0
IsSmallTotal None = ⊥
IsSmallTotal (Some chain) = IsSmall chain

-- a forward cost plus a backward cost, if there is one
abbrev pub sum_of : ChainCost → Option ChainCost → Option ℤ
sum_of total None = None
sum_of total (Some backward) = Some (total.cost +ℤ backward.cost)

-- the node has word i, its forward cost, and the sum of its forward and backward costs
pub record IsNodeAt (ws : List Word) (forward_costs backward_costs : List (Option ChainCost)) (i : ℕ) (n : LatticeNode) : Type 0 where
  pub total : ChainCost
  pub backward : Option ChainCost
  pub word_here : slice_get ws i ≡ Some n.word
  pub total_here : slice_get forward_costs i ≡ Some (Some total)
  pub backward_here : slice_get backward_costs i ≡ Some backward
  pub total_is : n.total ≡ total.cost
  pub through_is : n.through ≡ sum_of total backward

-- the nodes are those of the first `count` words
pub record AreNodes (ws : List Word) (forward_costs backward_costs : List (Option ChainCost)) (count : ℕ) (nodes : List LatticeNode) : Type 0 where
  pub long : length nodes ≡ count
  pub each : (i : ℕ) (n : LatticeNode) → slice_get nodes i ≡ Some n → IsNodeAt ws forward_costs backward_costs i n
