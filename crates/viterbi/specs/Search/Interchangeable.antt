-- Words that are interchangeable: they have the same context ids and word cost. So at one position
-- they have the same predecessor and forward cost.
use Rattle.std.specs.Prelude.{◌≡◌, ℕ, ◌+◌, ◌++◌, ◌<◌, List, length, reverse, slice_get, Some}
use Rattle.mj_model.specs.declared.word.Word.{Word}
use Rattle.mj_model.specs.declared.paths.surface.Surface.{Surface}
use Rattle.viterbi.specs.declared.search.node.SurfaceNodes.{SurfaceNodes}
use Rattle.viterbi.specs.Search.Nodes.{node_words}
use Rattle.viterbi.specs.Search.SearchedText.{SearchedText}

-- two words have the same ids and the same word cost
pub record IsInterchangeable (v w : Word) : Type 0 where
  pub left : v.left ≡ w.left
  pub right : v.right ≡ w.right
  pub cost : v.cost ≡ w.cost

-- the words of two lists are interchangeable pairwise
abbrev pub AreInterchangeable : List Word → List Word → Type 0
AreInterchangeable vs ws = (i : ℕ) (v w : Word) → slice_get vs i ≡ Some v → slice_get ws i ≡ Some w → IsInterchangeable v w

-- surface `number` has as many words as the next surface, and their words are interchangeable
pub record MatchesNext (t : SearchedText) (surfaces : List Surface) (number : ℕ) : Type 0 where
  pub next : Surface
  pub surface : Surface
  pub there : slice_get surfaces (number + 1) ≡ Some next
  pub here : slice_get surfaces number ≡ Some surface
  pub count : next.count ≡ surface.count
  pub words : AreInterchangeable (t.surface_words next) (t.surface_words surface)

-- the last nodes are those of surface `number`
pub record EndsWith (t : SearchedText) (surfaces : List Surface) (number : ℕ) (by_surface : List SurfaceNodes) : Type 0 where
  pub surface : Surface
  pub here : slice_get surfaces number ≡ Some surface
  pub before : List Word
  pub words : node_words t.surface_words by_surface ≡ before ++ reverse (t.surface_words surface)

-- the last nodes are those of surface `number`, if there is one
abbrev pub EndsWithAny : SearchedText → List Surface → ℕ → List SurfaceNodes → Type 0
EndsWithAny t surfaces number by_surface = number < length surfaces → EndsWith t surfaces number by_surface

-- the nodes of surface `number` directly follow those of the next surface, if there is one
abbrev pub FollowsNext : SearchedText → List Surface → ℕ → List SurfaceNodes → Type 0
FollowsNext t surfaces number by_surface = (next surface : Surface) → slice_get surfaces (number + 1) ≡ Some next → slice_get surfaces number ≡ Some surface
    → (before : List Word) × (node_words t.surface_words by_surface ≡ (before ++ reverse (t.surface_words next)) ++ reverse (t.surface_words surface))
