-- Nodes by the positions of their words.
use Rattle.std.specs.Prelude.{◌≡◌, ℕ, ℤ, ◌<◌, ◌≤◌, ◌^◌, List, All, Option, map, slice_get, Some, None}
use Rattle.mj_model.specs.Bounds.{IsWithin}
use Rattle.mj_model.specs.declared.word.Word.{Word}
use Rattle.viterbi.specs.Search.SearchedText.{CanBeSearched, SearchedText}
use Rattle.viterbi.specs.Nodes.LatticeNodes.{AreWordsOfLattice, HasLeastThrough, HasLeastForwardCost}
use Rattle.viterbi.specs.Nodes.ReachableWords.{AreIndexed}
use Rattle.viterbi.specs.declared.nodes.lattice_node.LatticeNode.{LatticeNode}

-- the words of nodes
abbrev pub words_in : List LatticeNode → List Word
words_in nodes = map (λ n. n.word) nodes

-- the nodes are those of a text's lattice
pub record AreNodesOf (t : SearchedText) (nodes : List LatticeNode) : Type 0 where
  pub words : AreWordsOfLattice t nodes
  pub forward_costs : All (HasLeastForwardCost t) nodes
  pub through : All (HasLeastThrough t) nodes

-- the nodes are those of the lattice of a text that can be searched, with the first node of each
-- position
pub record ArePlaced (t : SearchedText) (nodes : List LatticeNode) (firsts : List ℕ) : Type 0 where
  pub source : CanBeSearched t
  pub nodes_are : AreNodesOf t nodes
  pub indexed : AreIndexed (words_in nodes) firsts

-- the words of the nodes lie within the first mebibyte
abbrev pub AreLow : List LatticeNode → Type 0
AreLow nodes = (i : ℕ) (n : LatticeNode) → slice_get nodes i ≡ Some n → (n.word.place < 2 ^ 20) × (n.word.end ≤ 2 ^ 20)

-- a cost is far from overflow, if there is one
abbrev pub IsSmallIfSome : Option ℤ → Type 0
IsSmallIfSome None = Unit {0}
IsSmallIfSome (Some cost) = IsWithin (2 ^ 42) cost

-- no cost of a node is near overflow
pub record IsSmallNode (n : LatticeNode) : Type 0 where
  pub total : IsWithin (2 ^ 40) n.total
  pub through : IsSmallIfSome n.through
