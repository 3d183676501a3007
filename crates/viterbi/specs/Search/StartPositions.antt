-- A position whose words are being added to the lattice.
use Rattle.std.specs.Prelude.{◌≡◌, ℕ, ◌+◌, ◌<◌, List, length}
use Rattle.viterbi.specs.declared.search.node.Backpointer.{Backpointer}
use Rattle.viterbi.specs.declared.search.node.SurfaceNodes.{SurfaceNodes}
use Rattle.viterbi.specs.declared.search.nodes.Nodes.{Nodes}
use Rattle.viterbi.specs.declared.search.start_position.StartPosition.{StartPosition}
use Rattle.viterbi.specs.Search.Nodes.{node_words}
use Rattle.mj_model.specs.declared.word.Word.{Word}
use Rattle.viterbi.specs.Search.SearchedText.{AreRightsStored, AreSurfacesAt, CanBeSearched, IsLatticeOf, IsPrunedTo, SearchedText, nodes_in, with_words, words_before}
use Rattle.viterbi.specs.Search.PrunedEndNodes.{AreBestEndNodes}

-- a position before the end of a text, with the surfaces of its words, that some chain reaches
pub record IsPlaceOf (t : SearchedText) (p : StartPosition) : Type 0 where
  pub source : CanBeSearched t
  pub within : p.start < t.text_length
  pub surfaces : AreSurfacesAt t p.start p.surfaces.now
  pub some : 0 < length p.ends.now

-- the nodes are the reachable words of earlier positions, and those of this one from word i of
-- surface `number` on. i nodes of the groups have no backpointer yet. The end nodes are still the
-- best ones
pub record AreAddedFrom (t : SearchedText) (p : StartPosition) (number i : ℕ) (by_surface : List SurfaceNodes) (backpointers : List Backpointer) : Type 0 where
  pub left : length backpointers + i ≡ length (node_words t.surface_words by_surface)
  pub rights : AreRightsStored t by_surface backpointers
  pub lattice : IsLatticeOf t (nodes_in t by_surface backpointers) p.start (words_before t p.surfaces.now number i)
  pub ends : AreBestEndNodes (nodes_in t by_surface backpointers) p.start p.ends.now

-- the nodes are added over the words that are kept of the text after pruning
pub record AreKeptFrom (t : SearchedText) (p : StartPosition) (number i : ℕ) (by_surface : List SurfaceNodes) (backpointers : List Backpointer) : Type 0 where
  pub kept : ℕ → List Word
  pub pruned : IsPrunedTo t (p.start + 1) kept
  pub place : IsPlaceOf (with_words t kept) p
  pub added : AreAddedFrom (with_words t kept) p number i by_surface backpointers

-- the surfaces from `number` on are added, with the nodes as one value
abbrev pub AreAddedIn : SearchedText → StartPosition → ℕ → Nodes → Type 0
AreAddedIn t p number ns = AreKeptFrom t p number 0 ns.by_surface.items ns.backpointers.items
