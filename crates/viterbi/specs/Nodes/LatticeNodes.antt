-- The lattice of a text: the words that some chain from BOS reaches, with the costs of the chains
-- and paths through each.
use Rattle.std.specs.Prelude.{◌≡◌, ℕ, ℤ, ◌<◌, ◌⊎◌, List, ◌∷◌, Contains, slice_get, map, Some}
use Rattle.mj_model.specs.declared.word.Word.{Word}
use Rattle.mj_model.specs.ReversedChains.{IsChainTo, cost_to}
use Rattle.mj_model.specs.Cost.{path_cost}
use Rattle.mj_model.specs.Order.{IsEarlierIn}
use Rattle.mj_model.specs.Paths.{IsPath}
use Rattle.viterbi.specs.Search.SearchedText.{SearchedText}
use Rattle.viterbi.specs.declared.nodes.lattice_node.LatticeNode.{LatticeNode}
use Rattle.viterbi.specs.Nodes.Least.{IsLeastOf}

-- some chain from BOS ends with the word
abbrev pub IsReached : (ℕ → List Word) → Word → Type 0
IsReached words w = (before : List Word) × IsChainTo words (w ∷ before) w.end

-- v comes before w: at an earlier position, or earlier among the words of the same position
abbrev pub ComesBefore : (ℕ → List Word) → Word → Word → Type 0
ComesBefore words v w = (v.place < w.place) ⊎ ((v.place ≡ w.place) × IsEarlierIn (words v.place) v w)

-- the words are all reachable words of the positions before p and no others, by position and in the
-- order of the words of each, each once
pub record AreReachableBefore (words : ℕ → List Word) (p : ℕ) (ws : List Word) : Type 0 where
  pub each : (i : ℕ) (w : Word) → slice_get ws i ≡ Some w → IsReached words w
  pub below : (i : ℕ) (w : Word) → slice_get ws i ≡ Some w → w.place < p
  pub all : (w : Word) → IsReached words w → w.place < p → Contains ws w
  pub in_order : (i j : ℕ) (v w : Word) → i < j → slice_get ws i ≡ Some v → slice_get ws j ≡ Some w → ComesBefore words v w

-- c is the cost of a chain from BOS up to and including w
abbrev pub CostsUpTo : (ℕ → List Word) → (ℕ → ℕ → ℤ) → Word → ℤ → Type 0
CostsUpTo words conn w c = (before : List Word) × IsChainTo words (w ∷ before) w.end × (c ≡ cost_to conn (w ∷ before))

-- c is the cost of a path that contains w
abbrev pub CostsThrough : (ℕ → List Word) → (ℕ → ℕ → ℤ) → Word → ℤ → Type 0
CostsThrough words conn w c = (path : List Word) × (to : ℕ) × IsPath words path to × Contains path w × (c ≡ path_cost conn path)

-- the words of the nodes are the reachable words of the text
abbrev pub AreWordsOfLattice : SearchedText → List LatticeNode → Type 0
AreWordsOfLattice t nodes = AreReachableBefore t.words t.text_length (map (λ n. n.word) nodes)

-- the total of the node is its forward cost: the least cost of the chains up to and including its
-- word
abbrev pub HasLeastForwardCost : SearchedText → LatticeNode → Type 0
HasLeastForwardCost t n = IsLeastOf (CostsUpTo t.words t.connection n.word) (Some n.total)

-- the node has the least cost of the paths that contain its word, or none if no path does
abbrev pub HasLeastThrough : SearchedText → LatticeNode → Type 0
HasLeastThrough t n = IsLeastOf (CostsThrough t.words t.connection n.word) n.through
