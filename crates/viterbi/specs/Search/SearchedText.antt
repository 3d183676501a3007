-- A text as the search reads it.
use Rattle.std.specs.Prelude.{◌≡◌, ℕ, ℤ, ◌+◌, ◌≤◌, List, length, take, flat_map, slice_get, slice_index_or, true}
use Rattle.std.specs.Option.{option_map_or}
use Rattle.mj_model.specs.declared.word.Word.{Word}
use Rattle.mj_model.specs.Best.{IsBestPath}
use Rattle.mj_model.specs.Cost.{path_cost}
use Rattle.mj_model.specs.Searchable.{IsSearchable}
use Rattle.mj_model.specs.Pruned.{ArePruned}
use Rattle.mj_model.specs.declared.paths.surface.Surface.{Surface}
use Rattle.mj_model.specs.Surfaces.{AreSurfacesOf}
use Rattle.viterbi.specs.declared.search.nodes.Nodes.{Nodes}
use Rattle.viterbi.specs.declared.search.node.SurfaceNodes.{SurfaceNodes}
use Rattle.viterbi.specs.declared.search.node.Backpointer.{Backpointer}
use Rattle.viterbi.specs.Search.Nodes.{AreLinked, AreSurfaceNodes, HaveRights, Node, node_words, nodes_of, reached}
use Rattle.viterbi.specs.Search.Lattice.{IsLattice}

-- a text: its length in bytes, the words of each position in their order, the words of a surface,
-- the connection cost of a right id and the next word's left id, and which positions and id pairs
-- are valid
pub record SearchedText : Type 1 where
  pub text_length : ℕ
  pub words : ℕ → List Word
  pub surface_words : Surface → List Word
  pub connection : ℕ → ℕ → ℤ
  pub is_place : ℕ → Type 0
  pub is_pair : ℕ → ℕ → Type 0

-- the text can be searched: it has at most 2^20 bytes; words are not empty, end at positions within
-- it and are listed once; every word and EOS may follow BOS and every word
abbrev pub CanBeSearched : SearchedText → Type 0
CanBeSearched t = IsSearchable t.is_place t.is_pair t.words t.connection t.text_length

-- the path is the best path of the text
abbrev pub IsBestIn : SearchedText → List Word → Type 0
IsBestIn t path = IsBestPath t.words t.connection path

-- the cost of a path of the text
abbrev pub cost_of : SearchedText → List Word → ℤ
cost_of t path = path_cost t.connection path

-- the nodes of these groups and backpointers
abbrev pub nodes_in : SearchedText → List SurfaceNodes → List Backpointer → List Node
nodes_in t by_surface backpointers = nodes_of (node_words t.surface_words by_surface) backpointers

-- the nodes are the reachable words of the positions before p, and of position p from the k-th on
abbrev pub IsLatticeOf : SearchedText → List Node → ℕ → ℕ → Type 0
IsLatticeOf t nodes p k = IsLattice t.words t.connection nodes p k

-- a text with other words
abbrev pub with_words : SearchedText → (ℕ → List Word) → SearchedText
with_words t words = record t { words = words }

-- `kept` are the words of a text after pruning: they can be searched instead, and from position p
-- on all words are kept
pub record IsPrunedTo (t : SearchedText) (p : ℕ) (kept : ℕ → List Word) : Type 0 where
  pub searched : CanBeSearched (with_words t kept)
  pub pruned : ArePruned t.words kept t.connection
  pub later : (q : ℕ) → p ≤ q → kept q ≡ t.words q

-- the nodes are the kept words of the positions before p that some chain reaches
pub record IsLatticeTo (t : SearchedText) (nodes : List Node) (p : ℕ) : Type 0 where
  pub kept : ℕ → List Word
  pub pruned : IsPrunedTo t p kept
  pub lattice : IsLatticeOf (with_words t kept) nodes p (length (kept p))

-- each node of the groups has a backpointer
abbrev pub AreAllStored : SearchedText → List SurfaceNodes → List Backpointer → Type 0
AreAllStored t by_surface backpointers = length backpointers ≡ length (node_words t.surface_words by_surface)

-- the right id in each backpointer is that of the node's word
abbrev pub AreRightsStored : SearchedText → List SurfaceNodes → List Backpointer → Type 0
AreRightsStored t by_surface backpointers = HaveRights (node_words t.surface_words by_surface) backpointers

-- the groups have surfaces of the text, are linked by their ends and by the heads of the positions,
-- and each of their nodes has a backpointer
pub record AreStored (t : SearchedText) (by_surface : List SurfaceNodes) (backpointers : List Backpointer) (heads : List ℕ) : Type 0 where
  pub groups_are : AreSurfaceNodes t.surface_words by_surface
  pub all : AreAllStored t by_surface backpointers
  pub rights : HaveRights (node_words t.surface_words by_surface) backpointers
  pub linked : AreLinked by_surface heads
  pub places : length heads ≡ t.text_length + 1

-- the groups, backpointers and heads in `ns` are those of nodes of the text
abbrev pub AreStoredIn : SearchedText → Nodes → Type 0
AreStoredIn t ns = AreStored t ns.by_surface.items ns.backpointers.items ns.heads.items

-- the nodes that `ns` stores
abbrev pub stored_nodes : SearchedText → Nodes → List Node
stored_nodes t ns = nodes_in t ns.by_surface.items ns.backpointers.items

-- some chain reaches the position, according to its head
abbrev pub IsReachedIn : Nodes → ℕ → Type 0
IsReachedIn ns place = reached place (slice_index_or ns.heads.items place 0) ≡ true

-- the surfaces are those of the words of a position
abbrev pub AreSurfacesAt : SearchedText → ℕ → List Surface → Type 0
AreSurfacesAt t place surfaces = AreSurfacesOf t.surface_words (t.words place) surfaces

-- the number of words of a position that come before word i of surface `number`
abbrev pub words_before : SearchedText → List Surface → ℕ → ℕ → ℕ
words_before t surfaces number i = length (flat_map t.surface_words (take number surfaces)) + i

-- the number of words of surface `number`
abbrev pub word_count : List Surface → ℕ → ℕ
word_count surfaces number = option_map_or (λ (s : Surface). s.count) (slice_get surfaces number) 0
