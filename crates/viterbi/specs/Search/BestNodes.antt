-- The best path as the numbers of its nodes.
use Rattle.std.specs.Prelude.{◌≡◌, ℕ, ◌<◌, ◌≤◌, List, [], ◌∷◌, length, reverse, slice_get, take, Option, Some, None}
use Rattle.std.specs.List.{filter_map}
use Rattle.mj_model.specs.declared.word.Word.{Word}
use Rattle.mj_model.specs.declared.paths.surface.Surface.{Surface}
use Rattle.viterbi.specs.declared.search.node.Backpointer.{Backpointer}
use Rattle.viterbi.specs.declared.search.node.SurfaceNodes.{SurfaceNodes}
use Rattle.viterbi.specs.declared.search.node.Predecessor.{Predecessor}
use Rattle.viterbi.specs.declared.search.nodes.Nodes.{Nodes}
use Rattle.viterbi.specs.Search.Lattice.{IsBelow, IsBacktrace}
use Rattle.viterbi.specs.Search.Nodes.{AreSurfaceNodes, Node, link_of, node_words}
use Rattle.viterbi.specs.Search.SearchedText.{IsBestIn, SearchedText, cost_of}

-- `j` is the predecessor of EOS: the backtrace from it visits the words of the best path, and its
-- cost is that of the path
pub record BacktracesTo (t : SearchedText) (nodes : List Node) (j : Predecessor) : Type 0 where
  pub chain : List Word
  pub traced : IsBacktrace nodes (link_of j.before) chain
  pub best : IsBestIn t (reverse chain)
  pub cost : j.cost ≡ cost_of t (reverse chain)

-- in the stored backpointers each node's predecessor has a lower number
abbrev pub StoredLinksGoBack : List Backpointer → Type 0
StoredLinksGoBack backpointers = (i : ℕ) (b : Backpointer) → slice_get backpointers i ≡ Some b → IsBelow (link_of b.before) i

-- the numbers are those of the nodes that a backtrace from a link visits, the last node first
abbrev pub AreBacktraceNumbers : List Backpointer → Option ℕ → List ℕ → Type 0
AreBacktraceNumbers backpointers None [] = Unit {0}
AreBacktraceNumbers backpointers None (j ∷ js) = ⊥
AreBacktraceNumbers backpointers (Some i) [] = ⊥
AreBacktraceNumbers backpointers (Some i) (j ∷ js) = (j ≡ i) × ((b : Backpointer) × (slice_get backpointers i ≡ Some b) × AreBacktraceNumbers backpointers (link_of b.before) js)

-- the words of the nodes with these numbers, in the order of the text; the numbers start at the
-- last node
abbrev pub words_of_numbers : List Word → List ℕ → List Word
words_of_numbers words numbers = reverse (filter_map (slice_get words) numbers)

-- the numbers are those of nodes, the last node first, and none belongs to a group before this one
pub record AreNodesFrom (words_of : Surface → List Word) (by_surface : List SurfaceNodes) (first : ℕ) (numbers : List ℕ) : Type 0 where
  pub groups_are : AreSurfaceNodes words_of by_surface
  pub falling : (a b i j : ℕ) → a < b → slice_get numbers a ≡ Some i → slice_get numbers b ≡ Some j → j < i
  pub within : (a i : ℕ) → slice_get numbers a ≡ Some i → i < length (node_words words_of by_surface)
  pub from_first : (a i : ℕ) → slice_get numbers a ≡ Some i → length (node_words words_of (take first by_surface)) ≤ i

-- after the backtrace, `heads` holds the numbers of the best path's nodes
abbrev pub HaveBestNodes : SearchedText → Nodes → Type 0
HaveBestNodes t ns = AreNodesFrom t.surface_words ns.by_surface.items 0 ns.heads.items

-- the words of the best path
abbrev pub best_words : SearchedText → Nodes → List Word
best_words t ns = words_of_numbers (node_words t.surface_words ns.by_surface.items) ns.heads.items
