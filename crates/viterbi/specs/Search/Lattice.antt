-- The lattice while the search builds it: words with their predecessors. Positions are processed in
-- rising order, and the words of a position from the last one back. So the lattice is complete
-- before a position p, and at p from the k-th word on.
use Rattle.std.specs.Prelude.{◌≡◌, ℕ, ℤ, ◌+ℤ◌, ◌<◌, ◌≤◌, List, [], ◌∷◌, slice_get, Option, Some, None, Contains, ◌⊎◌}
use Rattle.mj_model.specs.declared.word.Word.{Word}
use Rattle.viterbi.specs.Search.Nodes.{Node, link_of}
use Rattle.viterbi.specs.declared.search.node.Predecessor.{Predecessor}
use Rattle.mj_model.specs.Order.{IsPreferred}
use Rattle.mj_model.specs.ReversedChains.{IsChainTo, cost_with_next, IsBestTo}

-- the words that a backtrace from a link visits, the last word first
abbrev pub IsBacktrace : List Node → Option ℕ → List Word → Type 0
IsBacktrace nodes None [] = Unit {0}
IsBacktrace nodes None (w ∷ ws) = ⊥
IsBacktrace nodes (Some i) [] = ⊥
IsBacktrace nodes (Some i) (w ∷ ws) = (n : Node) × (slice_get nodes i ≡ Some n) × (n.word ≡ w) × IsBacktrace nodes n.before ws

-- the link is to a node below i, or to BOS
abbrev pub IsBelow : Option ℕ → ℕ → Type 0
IsBelow None i = Unit {0}
IsBelow (Some j) i = j < i

-- node i is a word after the best chain to its position
pub record IsBestNode (words : ℕ → List Word) (conn : ℕ → ℕ → ℤ) (nodes : List Node) (i : ℕ) (n : Node) : Type 0 where
  pub chain : List Word
  pub traced : IsBacktrace nodes n.before chain
  pub best : IsBestTo words conn chain n.word.place n.word.left
  pub is_word : Contains (words n.word.place) n.word
  pub total_is : n.total ≡ cost_with_next conn chain n.word.left +ℤ n.word.cost
  pub below : IsBelow n.before i

-- the position of w is before p, or w is one of the words of position p from the k-th on
abbrev pub IsProcessed : (ℕ → List Word) → ℕ → ℕ → Word → Type 0
IsProcessed words p k w = (w.place < p) ⊎ ((w.place ≡ p) × ((i : ℕ) × (k ≤ i) × (slice_get (words p) i ≡ Some w)))

-- the nodes are the reachable words of the positions before p, and of position p from the k-th on;
-- of two nodes the later one is preferred
pub record IsLattice (words : ℕ → List Word) (conn : ℕ → ℕ → ℤ) (nodes : List Node) (p k : ℕ) : Type 0 where
  pub best : (i : ℕ) (n : Node) → slice_get nodes i ≡ Some n → IsBestNode words conn nodes i n
  pub done : (i : ℕ) (n : Node) → slice_get nodes i ≡ Some n → IsProcessed words p k n.word
  pub order : (i j : ℕ) (m n : Node) → i < j → slice_get nodes i ≡ Some m → slice_get nodes j ≡ Some n → IsPreferred words n.word m.word
  pub complete : (w : Word) (ws : List Word) → IsChainTo words (w ∷ ws) w.end → IsProcessed words p k w → (i : ℕ) × (n : Node) × (slice_get nodes i ≡ Some n) × (n.word ≡ w)

-- the predecessor ends the best chain to the position for a word of this left id
pub record IsPredecessor (words : ℕ → List Word) (conn : ℕ → ℕ → ℤ) (nodes : List Node) (p left : ℕ) (j : Predecessor) : Type 0 where
  pub chain : List Word
  pub traced : IsBacktrace nodes (link_of j.before) chain
  pub best : IsBestTo words conn chain p left
  pub cost_is : j.cost ≡ cost_with_next conn chain left

-- no chain reaches the position
abbrev pub NoChain : (ℕ → List Word) → ℕ → Type 0
NoChain words p = (ws : List Word) → IsChainTo words ws p → ⊥

-- the node of a word after its predecessor
abbrev pub node_of : Word → Predecessor → Node
node_of w j = record { word = w; total = j.cost +ℤ w.cost; before = link_of j.before }

-- each node's predecessor has a lower number
abbrev pub LinksGoBack : List Node → Type 0
LinksGoBack nodes = (i : ℕ) (n : Node) → slice_get nodes i ≡ Some n → IsBelow n.before i

-- the greatest end of the nodes, or 0
pub record IsLastEnd (nodes : List Node) (last : ℕ) : Type 0 where
  pub each : (k : ℕ) (m : Node) → slice_get nodes k ≡ Some m → m.word.end ≤ last
  pub reached : (last ≡ 0) ⊎ ((k : ℕ) × (m : Node) × (slice_get nodes k ≡ Some m) × (m.word.end ≡ last))
