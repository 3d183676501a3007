-- Pruning the words of a position: of the words of a surface with one right id, only the first of
-- least forward cost is needed.
use Rattle.std.specs.Prelude.{◌≡◌, ℕ, ℤ, ◌+ℤ◌, ◌<ℤ◌, ◌*◌, ◌<◌, ◌≤◌, ◌^◌, ◌⊎◌, List, All, Contains, length, flat_map, slice_get, Some}
use Rattle.std.specs.List.{AllByRecursion}
use Rattle.mj_model.specs.declared.word.Word.{Word}
use Rattle.mj_model.specs.Bounds.{IsWithin}
use Rattle.mj_model.specs.declared.paths.surface.Surface.{Surface}
use Rattle.mj_model.specs.Order.{IsEarlierIn}
use Rattle.mj_model.specs.Pruned.{ArePartOf}
use Rattle.mj_model.specs.Surfaces.{IsWhole, IsWordOf}
use Rattle.viterbi.specs.declared.search.node.EndNode.{EndNode}
use Rattle.viterbi.specs.declared.search.node.Predecessor.{Predecessor}
use Rattle.viterbi.specs.Search.EndNodes.{HasSmallTotal, IsFollowedBy, IsLeast}
use Rattle.viterbi.specs.Search.SearchedText.{SearchedText}

-- the forward cost of a word after the end nodes of its position
pub record HasForwardCost (conn : ℕ → ℕ → ℤ) (ends : List EndNode) (w : Word) (total : ℤ) : Type 0 where
  pub predecessor : Predecessor
  pub best_predecessor : IsLeast conn ends w.left predecessor
  pub total_is : total ≡ predecessor.cost +ℤ w.cost

-- a kept word replaces w: it has the same end and right id, and its forward cost is less, or equal
-- and it comes earlier
pub record IsReplaced (conn : ℕ → ℕ → ℤ) (ends : List EndNode) (all some : List Word) (w : Word) : Type 0 where
  pub word : Word
  pub there : Contains some word
  pub end : word.end ≡ w.end
  pub right : word.right ≡ w.right
  pub cost : ℤ
  pub own : ℤ
  pub has_cost : HasForwardCost conn ends word cost
  pub has_own : HasForwardCost conn ends w own
  pub no_more : (cost <ℤ own) ⊎ ((cost ≡ own) × IsEarlierIn all word w)

-- some words of a position are kept, and each other word is replaced by one of them
pub record ArePrunedWords (conn : ℕ → ℕ → ℤ) (ends : List EndNode) (all some : List Word) : Type 0 where
  pub part : ArePartOf all some
  pub served : (w : Word) → Contains all w → Contains some w ⊎ IsReplaced conn ends all some w

-- no two words have the same right id
abbrev pub HaveRightIdsOnce : List Word → Type 0
HaveRightIdsOnce ws = (i j : ℕ) (v w : Word) → slice_get ws i ≡ Some v → slice_get ws j ≡ Some w → v.right ≡ w.right → i ≡ j

-- up to this many words of a surface may all be kept: pruning need not start before
abbrev pub few_words : ℕ
few_words = 64

-- few words are kept, or at most four for each of the right ids
abbrev pub AreBounded : List Word → List Word → Type 0
AreBounded all some = (length some ≤ few_words) ⊎ ((apart : List Word) × ArePartOf all apart × HaveRightIdsOnce apart × (length some ≤ 4 * length apart))

-- the surfaces have the words of one surface that are kept
pub record ArePrunedOf (t : SearchedText) (ends : List EndNode) (all : List Word) (surfaces : List Surface) : Type 0 where
  pub whole : AllByRecursion (IsWhole t.surface_words) surfaces
  pub words : ArePrunedWords t.connection ends all (flat_map t.surface_words surfaces)
  pub bounded : AreBounded all (flat_map t.surface_words surfaces)

-- the surfaces have the words that are kept of all surfaces of a position
pub record ArePrunedSurfaces (t : SearchedText) (ends : List EndNode) (old new : List Surface) : Type 0 where
  pub whole : AllByRecursion (IsWhole t.surface_words) new
  pub words : ArePrunedWords t.connection ends (flat_map t.surface_words old) (flat_map t.surface_words new)

-- each word may follow each end node, and forward costs are far from overflow
pub record CanBePruned (t : SearchedText) (ends : List EndNode) (ws : List Word) : Type 0 where
  pub some : 0 < length ends
  pub forward_costs : All HasSmallTotal ends
  pub connections : (right left : ℕ) → IsWithin (2 ^ 15) (t.connection right left)
  pub pairs : (w : Word) → Contains ws w → All (IsFollowedBy t.is_pair w.left) ends

-- the words of all surfaces of a position can be pruned
pub record CanBePrunedAll (t : SearchedText) (ends : List EndNode) (surfaces : List Surface) : Type 0 where
  pub whole : AllByRecursion (IsWhole t.surface_words) surfaces
  pub words : CanBePruned t ends (flat_map t.surface_words surfaces)

-- ---- how the pruned words are found

-- the end node is word `number` with its forward cost
pub record IsForwardCost (conn : ℕ → ℕ → ℤ) (ends : List EndNode) (ws : List Word) (number : ℕ) (e : EndNode) : Type 0 where
  pub word : Word
  pub here : slice_get ws number ≡ Some word
  pub cost : HasForwardCost conn ends word e.total
  pub right : e.right ≡ word.right
  pub before : e.before ≡ number

-- the end nodes are the first `count` words with their forward costs
pub record AreForwardCosts (conn : ℕ → ℕ → ℤ) (ends : List EndNode) (ws : List Word) (count : ℕ) (words : List EndNode) : Type 0 where
  pub long : length words ≡ count
  pub each : (i : ℕ) (e : EndNode) → slice_get words i ≡ Some e → IsForwardCost conn ends ws i e

-- each end node has a number below `count`
abbrev pub HaveNumbersBelow : ℕ → List EndNode → Type 0
HaveNumbersBelow count words = (r : ℕ) (e : EndNode) → slice_get words r ≡ Some e → e.before < count

-- each added surface has one word of s: the one whose number the end node of its rank has
pub record AreAlone (words_of : Surface → List Word) (s : Surface) (words : List EndNode) (count : ℕ) (added : List Surface) : Type 0 where
  pub long : length added ≡ count
  pub each : (r : ℕ) (one : Surface) → slice_get added r ≡ Some one → (e : EndNode) × (slice_get words r ≡ Some e) × IsWordOf words_of s e.before one
