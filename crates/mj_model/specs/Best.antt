-- The best path, and the requirements on the words of a text under which there is exactly one.
use Rattle.std.specs.Prelude.{◌≡◌, ℕ, ℤ, ◌<◌, ◌≤◌, ◌^◌, ◌⊎◌, ◌++◌, ◌∷◌, [], ◌↔◌, List, Contains, slice_get, Some}
use Rattle.mj_model.specs.declared.word.Word.{Word}
use Rattle.mj_model.specs.Paths.{IsPath}
use Rattle.mj_model.specs.Order.{IsBefore}
use Rattle.mj_model.specs.Bounds.{IsWithin}

-- the best path: the one that precedes every other path in the order of paths
pub record IsBestPath (words : ℕ → List Word) (conn : ℕ → ℕ → ℤ) (ws : List Word) : Type 0 where
  pub to : ℕ
  pub path : IsPath words ws to
  pub before_others : (vs : List Word) (end : ℕ) → IsPath words vs end → (vs ≡ ws) ⊎ IsBefore words conn ws vs

-- the words of a text: each is listed at its position, is not empty and ends within the text, and
-- no position lists a word twice
pub record AreWords (words : ℕ → List Word) (len : ℕ) : Type 0 where
  pub places : (p : ℕ) (w : Word) → Contains (words p) w → w.place ≡ p
  pub go_on : (p : ℕ) (w : Word) → Contains (words p) w → p < w.end
  pub within : (p : ℕ) (w : Word) → Contains (words p) w → w.end ≤ len
  pub distinct : (p i j : ℕ) (w : Word) → slice_get (words p) i ≡ Some w → slice_get (words p) j ≡ Some w → i ≡ j

-- The words of a text of `len` bytes and the connection costs, with all costs of 16 bits.
-- `connections` holds for all numbers, not only for pairs of ids: the connection cost of a
-- dictionary (`image_cost` of image_format) is 0 outside of the table, and `fitting_tables` of
-- dict_image proves the bound from this definition.
pub record IsSource (words : ℕ → List Word) (conn : ℕ → ℕ → ℤ) (len : ℕ) : Type 0 where
  pub are : AreWords words len
  pub costs : (p : ℕ) (w : Word) → Contains (words p) w → IsWithin (2 ^ 15) w.cost
  pub connections : (right left : ℕ) → IsWithin (2 ^ 15) (conn right left)

-- there is exactly one best path
abbrev pub HasOneBest : Type 0
HasOneBest = (words : ℕ → List Word) (conn : ℕ → ℕ → ℤ) (len : ℕ) → AreWords words len
    → (best : List Word) × IsBestPath words conn best × ((other : List Word) → IsBestPath words conn other → other ≡ best)

-- appending the same words to two chains that end in the same word keeps their order
abbrev pub KeepsOrder : Type 0
KeepsOrder = (words : ℕ → List Word) (conn : ℕ → ℕ → ℤ) (len : ℕ) → AreWords words len → (ps qs rs : List Word) (w : Word)
    → IsBefore words conn (ps ++ w ∷ []) (qs ++ w ∷ []) ↔ IsBefore words conn ((ps ++ w ∷ []) ++ rs) ((qs ++ w ∷ []) ++ rs)
