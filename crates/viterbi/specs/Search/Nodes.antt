-- Nodes as they are stored: one group for each surface of a position, linked to the latest earlier
-- group that ends at the same position.
use Rattle.std.specs.Prelude.{◌≡◌, ℕ, zero, suc, ℤ, ◌+◌, ◌<◌, ◌≤◌, ◌⊎◌, List, [], ◌∷◌, slice_get, Option, Some, None, Bool, true, length, nat_eq, take, reverse, flat_map}
use Rattle.mj_model.specs.declared.word.Word.{Word}
use Rattle.mj_model.specs.declared.paths.surface.Surface.{Surface}
use Rattle.mj_model.specs.Surfaces.{IsWhole}
use Rattle.viterbi.specs.declared.search.node.SurfaceNodes.{SurfaceNodes}
use Rattle.viterbi.specs.declared.search.node.Backpointer.{Backpointer}

-- a node: a word, the cost of the best chain up to and including it, and its predecessor on that
-- chain
pub record Node : Type 0 where
  pub word : Word
  pub total : ℤ
  pub before : Option ℕ

-- a number counted from 1 as one counted from 0; 0 means none
abbrev pub link_of : ℕ → Option ℕ
link_of zero = None
link_of (suc i) = Some i

-- a node from its word and its backpointer
abbrev pub stored_node : Word → Backpointer → Node
stored_node w b = record { word = w; total = b.total; before = link_of b.before }

-- the nodes of these words and backpointers, pairwise
abbrev pub nodes_of : List Word → List Backpointer → List Node
nodes_of ws [] = []
nodes_of [] (b ∷ bs) = []
nodes_of (w ∷ ws) (b ∷ bs) = stored_node w b ∷ nodes_of ws bs

-- the right id in each backpointer is that of the word
abbrev pub HaveRights : List Word → List Backpointer → Type 0
HaveRights ws bs = (i : ℕ) (w : Word) (b : Backpointer) → slice_get ws i ≡ Some w → slice_get bs i ≡ Some b → b.right ≡ w.right

-- the words of a group of nodes, the last word of its surface first
abbrev pub words_of_surface_nodes : (Surface → List Word) → SurfaceNodes → List Word
words_of_surface_nodes words_of surface_nodes = reverse (words_of surface_nodes.surface)

-- the words of all groups, one group after another
abbrev pub node_words : (Surface → List Word) → List SurfaceNodes → List Word
node_words words_of by_surface = flat_map (words_of_surface_nodes words_of) by_surface

-- each surface has `count` words, and the nodes of each group follow those of the groups before it
pub record AreSurfaceNodes (words_of : Surface → List Word) (by_surface : List SurfaceNodes) : Type 0 where
  pub whole : (number : ℕ) (surface_nodes : SurfaceNodes) → slice_get by_surface number ≡ Some surface_nodes → IsWhole words_of surface_nodes.surface
  pub from : (number : ℕ) (surface_nodes : SurfaceNodes) → slice_get by_surface number ≡ Some surface_nodes → surface_nodes.from ≡ length (node_words words_of (take number by_surface))

-- group `number` contains the node
pub record HasNode (by_surface : List SurfaceNodes) (number node : ℕ) : Type 0 where
  pub surface_nodes : SurfaceNodes
  pub here : slice_get by_surface number ≡ Some surface_nodes
  pub from : surface_nodes.from ≤ node
  pub within : node < surface_nodes.from + surface_nodes.surface.count

-- the link is to the latest group before number `before` that ends at the position, or to none
abbrev pub IsLatest : List SurfaceNodes → ℕ → ℕ → Option ℕ → Type 0
IsLatest by_surface place before None = (k : ℕ) (m : SurfaceNodes) → k < before → slice_get by_surface k ≡ Some m → m.surface.end ≡ place → ⊥
IsLatest by_surface place before (Some i) =
    (i < before)
    × ((n : SurfaceNodes) × (slice_get by_surface i ≡ Some n) × (n.surface.end ≡ place))
    × ((k : ℕ) (m : SurfaceNodes) → i < k → k < before → slice_get by_surface k ≡ Some m → m.surface.end ≡ place → ⊥)

-- each group links to the latest earlier group with the same end
abbrev pub LinksAreLatest : List SurfaceNodes → Type 0
LinksAreLatest by_surface = (i : ℕ) (n : SurfaceNodes) → slice_get by_surface i ≡ Some n → IsLatest by_surface n.surface.end i (link_of n.next)

-- the link of each group and the head of each position are to the latest group that ends there
pub record AreLinked (by_surface : List SurfaceNodes) (heads : List ℕ) : Type 0 where
  pub links : LinksAreLatest by_surface
  pub heads_latest : (place head : ℕ) → slice_get heads place ≡ Some head → IsLatest by_surface place (length by_surface) (link_of head)

-- some chain reaches the position with this head
abbrev pub reached : ℕ → ℕ → Bool
reached place zero = nat_eq place 0
reached place (suc i) = true

-- no position from this one on has a head
abbrev pub HaveNoHead : List ℕ → ℕ → Type 0
HaveNoHead heads from = (place head : ℕ) → from ≤ place → slice_get heads place ≡ Some head → head ≡ 0

-- the greatest position that has a head, or 0
pub record IsLastHead (heads : List ℕ) (last : ℕ) : Type 0 where
  pub none_later : HaveNoHead heads (last + 1)
  pub reached : (last ≡ 0) ⊎ ((i : ℕ) × (slice_get heads last ≡ Some (suc i)))
