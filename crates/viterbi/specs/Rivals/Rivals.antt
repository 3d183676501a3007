-- The best of the paths that segment a text differently at a word.
use Rattle.std.specs.Prelude.{◌≡◌, ℕ, ℤ, ◌<◌, List, All, map, slice_get, Option, Some, None}
use Rattle.mj_model.specs.declared.word.Word.{Word}
use Rattle.mj_model.specs.Best.{AreWords}
use Rattle.viterbi.specs.declared.nodes.lattice_node.LatticeNode.{LatticeNode}
use Rattle.viterbi.specs.Nodes.LatticeNodes.{AreReachableBefore, CostsThrough}
use Rattle.viterbi.specs.Nodes.Least.{IsLeastOf}
use Rattle.viterbi.specs.Rivals.Crossing.{CostWithReplacement, Replaces}
use Rattle.viterbi.specs.declared.rivals.rival.Rival.{Rival}

-- the nodes are those of the lattice of a text of `len` bytes, each with the least cost of the
-- paths that contain its word
pub record AreOfLattice (words : ℕ → List Word) (conn : ℕ → ℕ → ℤ) (len : ℕ) (nodes : List LatticeNode) : Type 0 where
  pub source : AreWords words len
  pub reached : AreReachableBefore words len (map (λ n. n.word) nodes)
  pub through : All (λ n. IsLeastOf (CostsThrough words conn n.word) n.through) nodes

-- the rival is the first node that replaces w at the least cost of all paths that segment the text
-- differently at w
pub record IsRivalOf (words : ℕ → List Word) (conn : ℕ → ℕ → ℤ) (nodes : List LatticeNode) (w : Word) (r : Rival) : Type 0 where
  pub node : LatticeNode
  pub here : slice_get nodes r.number ≡ Some node
  pub takes_place : Replaces node.word w
  pub through : node.through ≡ Some r.cost
  pub least : IsLeastOf (CostWithReplacement words conn w) (Some r.cost)
  pub first : (k : ℕ) (n : LatticeNode) → k < r.number → slice_get nodes k ≡ Some n → Replaces n.word w → n.through ≡ Some r.cost → ⊥

-- the best rival, or none if no path segments the text differently at w
abbrev pub IsBestRival : (ℕ → List Word) → (ℕ → ℕ → ℤ) → List LatticeNode → Word → Option Rival → Type 0
IsBestRival words conn nodes w None = IsLeastOf (CostWithReplacement words conn w) None
IsBestRival words conn nodes w (Some r) = IsRivalOf words conn nodes w r
