-- The cells of a double array, and the map that they hold. (Aoe 1989)
use Rattle.std.specs.Prelude.{◌≡◌, ℕ, suc, ℤ, pos, negsuc, ◌+ℤ◌, List, [], ◌∷◌, ◌++◌, map, Option, Some, None, option_and_then, option_map, if◌then◌else◌, ◌==◌, slice_index_or, length, take}
use Rattle.std.specs.List.{filter_map}
use Rattle.mj_model.specs.Lists.{up_to}

-- a cell: its base and its check
abbrev pub Cell : Type 0
Cell = ℤ × ℤ

abbrev pub free_cell : Cell
free_cell = (pos 0, negsuc 0)

-- cell i; past the end it is a free cell
abbrev pub cell_at : List Cell → ℕ → Cell
cell_at cells i = slice_index_or cells i free_cell

abbrev pub base : List Cell → ℕ → ℤ
base cells i = (cell_at cells i).0

abbrev pub check : List Cell → ℕ → ℤ
check cells i = (cell_at cells i).1

-- the cell t, if its check is the state s
abbrev pub if_named : ℤ → ℕ → ℕ → Option ℕ
if_named (pos k) s t = if k == s then Some t else None
if_named (negsuc k) s t = None

abbrev pub step_to : List Cell → ℕ → ℤ → Option ℕ
step_to cells s (pos t) = if_named (check cells t) s t
step_to cells s (negsuc k) = None

-- the state after the state s on the code c: the cell BASE[s] + c, if its check is s
unfoldable pub step : List Cell → ℕ → ℕ → Option ℕ
step cells s c = step_to cells s (base cells s +ℤ pos c)

-- the state after the state s on some codes, one after another
unfoldable pub walk : List Cell → ℕ → List ℕ → Option ℕ
walk cells s [] = Some s
walk cells s (c ∷ cs) = option_and_then (λ t. walk cells t cs) (step cells s c)

-- the codes of a key: b + 1 for each byte b, and 0 for the end of the key
unfoldable pub codes_of : List ℕ → List ℕ
codes_of key = map suc key ++ 0 ∷ []

-- the value v that is stored as the base -(v + 1)
abbrev pub value_in : ℤ → Option ℕ
value_in (negsuc v) = Some v
value_in (pos b) = None

-- the value of a key of at least one byte, which is stored in the cell of its last code
unfoldable pub value_of : List Cell → List ℕ → Option ℕ
value_of cells [] = None
value_of cells (byte ∷ bytes) = option_and_then (λ t. value_in (base cells t)) (walk cells 0 (codes_of (byte ∷ bytes)))

-- two lists of cells hold the same map
abbrev pub HasSameMap : List Cell → List Cell → Type 0
HasSameMap old new = (key : List ℕ) → value_of new key ≡ value_of old key

-- the new map is the old one with a key set to a value
pub record IsMapWith (old new : List Cell) (key : List ℕ) (value : ℕ) : Type 0 where
  pub there : value_of new key ≡ Some value
  pub others : (other : List ℕ) → (other ≡ key → ⊥) → value_of new other ≡ value_of old other

-- the keys that are prefixes of a text, shortest first: their lengths and values
unfoldable pub prefixes_of : List Cell → List ℕ → List (ℕ × ℕ)
prefixes_of cells text = filter_map (λ n. option_map (λ v. (n, v)) (value_of cells (take n text))) (up_to (length text))
