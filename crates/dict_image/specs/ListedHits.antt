-- The listed keys that are prefixes of a text.
use Rattle.std.specs.Prelude.{◌≡◌, ℕ, ◌+◌, ◌-◌, ◌<◌, ◌≤◌, List, ◌++◌, length, take, slice_index, filter_map}
use Rattle.std.specs.List.{range_with_len}
use Rattle.mj_model.specs.CellMap.{codes_of}
use Rattle.image_format.specs.OlderSections.{listed_key, listed_number}
use Rattle.dict_image.specs.declared.key_range.KeyRange.{KeyRange}
use Rattle.dict_image.specs.Groups.{hit_in}
use Rattle.dict_image.specs.KeyLists.{KeyList}

-- the listed keys longer than `n` bytes that are prefixes of a text, the shortest first: their
-- lengths in bytes, and their numbers
abbrev pub listed_hits_after : KeyList → List ℕ → ℕ → List (ℕ × ℕ)
listed_hits_after list text n = filter_map (hit_in (listed_number list.count list.bytes) text) (range_with_len (n + 1) (length text - n))

-- the iterator as contracts describe it: the remaining hits, the text, and the number of bytes that
-- were walked
pub record ListedHitsView : Type 0 where
  pub hits : List (ℕ × ℕ)
  pub text : List ℕ
  pub walked : ℕ

-- a key starts with some bytes
abbrev pub StartsWith : List ℕ → List ℕ → Type 0
StartsWith key prefix = (rest : List ℕ) × (key ≡ prefix ++ rest)

-- the keys that start with `prefix` are those from `low` to before `high`
pub record IsRangeOf (list : KeyList) (prefix : List ℕ) (low high : ℕ) : Type 0 where
  pub order : low ≤ high
  pub within : high ≤ list.count
  pub inside : (i : ℕ) → low ≤ i → i < high → StartsWith (listed_key list.bytes i) prefix
  pub all : (i : ℕ) → i < list.count → StartsWith (listed_key list.bytes i) prefix → (low ≤ i) × (i < high)

-- the keys that start with the first bytes of a text
pub record IsKeyRange (list : KeyList) (text : List ℕ) (started : KeyRange) : Type 0 where
  pub short : started.length ≤ length text
  pub are : IsRangeOf list (take started.length text) started.low started.high

-- the code of a key at a byte offset: the byte plus 1, or 0 at the key's end
abbrev pub code_at : KeyList → ℕ → ℕ → ℕ
code_at list place i = slice_index (codes_of (listed_key list.bytes i)) place

-- the codes of the keys from `low` to before `high` do not decrease
abbrev pub CodesRise : KeyList → ℕ → ℕ → ℕ → Type 0
CodesRise list place low high = (i j : ℕ) → low ≤ i → i < j → j < high → code_at list place i ≤ code_at list place j

-- the first of the keys from `low` to before `high` whose code at `place` is at least `code`
pub record IsFirstFrom (list : KeyList) (place code low high found : ℕ) : Type 0 where
  pub above : low ≤ found
  pub within : found ≤ high
  pub below : (i : ℕ) → low ≤ i → i < found → code_at list place i < code
  pub others : (i : ℕ) → found ≤ i → i < high → code ≤ code_at list place i
