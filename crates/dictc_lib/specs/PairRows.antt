-- The ids and costs of the entries with a given part of speech, with a row for each pair of ids.
use Rattle.std.specs.Prelude.{◌≡◌, ◌⊎◌, ℕ, ℤ, Bool, ◌*◌, ◌-◌, ◌/◌, ◌<◌, List, [], ◌∷◌, ◌++◌, length, slice_get, Some}
use Rattle.std.specs.List.Sorted.{IsPermutation, IsSortedBy}
use Rattle.std.specs.Ordering.{int_cmp, is_lt, nat_cmp, ordering_then}
use Rattle.dict_image.specs.declared.entry_ref.EntryRef.{EntryRef}
use Rattle.dict_image.specs.declared.ids_and_cost.IdsAndCost.{IdsAndCost}
use Rattle.dictc_lib.specs.Templates.{Fits, fields_of}
use Rattle.dictc_lib.specs.declared.ids.pair_row.PairRow.{PairRow}
use Rattle.dictc_lib.specs.declared.ids.template.Template.{Template}

-- ---- entries that fit

abbrev pub ids_of : EntryRef → IdsAndCost
ids_of entry = record { left = entry.left; right = entry.right; cost = entry.cost }

-- the ids and costs of the entries that fit a template, in the order of the entries
abbrev pub AreFitting : List (List ℕ) → List EntryRef → List IdsAndCost → Type 0
AreFitting template [] fitting = fitting ≡ []
AreFitting template (entry ∷ entries) fitting =
    (Fits template entry.feature.now × (rest : List IdsAndCost) × (fitting ≡ ids_of entry ∷ rest) × AreFitting template entries rest)
    ⊎ ((Fits template entry.feature.now → ⊥) × AreFitting template entries fitting)

-- the ids and costs that the search by a template finds
abbrev pub AreFoundBy : Template → List EntryRef → List IdsAndCost → Type 0
AreFoundBy template entries found = AreFitting (fields_of template) entries found

-- the entry is appended if it fits the template
abbrev pub AddsFitting : List (List ℕ) → EntryRef → List IdsAndCost → List IdsAndCost → Type 0
AddsFitting template entry old new =
    (Fits template entry.feature.now × (new ≡ old ++ ids_of entry ∷ [])) ⊎ ((Fits template entry.feature.now → ⊥) × (new ≡ old))

-- ---- the row of a pair

-- the entry has these ids
abbrev pub HasPair : ℕ → ℕ → IdsAndCost → Type 0
HasPair left right entry = (entry.left ≡ left) × (entry.right ≡ right)

-- the two entries have the same ids
abbrev pub AreSamePair : IdsAndCost → IdsAndCost → Type 0
AreSamePair a b = HasPair b.left b.right a

-- all entries have the same ids
abbrev pub AreOfPair : List IdsAndCost → Type 0
AreOfPair entries = (i j : ℕ) (a b : IdsAndCost) → slice_get entries i ≡ Some a → slice_get entries j ≡ Some b → AreSamePair a b

-- the entry at index `i` has this cost
abbrev pub HasCostAt : List IdsAndCost → ℕ → ℤ → Type 0
HasCostAt entries i cost = (entry : IdsAndCost) × (slice_get entries i ≡ Some entry) × (entry.cost ≡ cost)

-- the row of entries that have one pair of ids and are sorted by cost. The quartiles and the median
-- are the costs at n/4, n/2 and 3n/4 of n entries, counted from 0 and rounded down
pub record IsRowOf (entries : List IdsAndCost) (row : PairRow) : Type 0 where
  pub pair : (i : ℕ) (entry : IdsAndCost) → slice_get entries i ≡ Some entry → HasPair row.left row.right entry
  pub count : row.entries ≡ length entries
  pub least : HasCostAt entries 0 row.least
  pub lower_quartile : HasCostAt entries (length entries / 4) row.lower_quartile
  pub median : HasCostAt entries (length entries / 2) row.median
  pub upper_quartile : HasCostAt entries (3 * length entries / 4) row.upper_quartile
  pub greatest : HasCostAt entries (length entries - 1) row.greatest

-- ---- all rows

-- the first entry of `rest`, if there is one, has other ids than the first of `entries`
abbrev pub StartsOtherPair : List IdsAndCost → List IdsAndCost → Type 0
StartsOtherPair entries rest = (a b : IdsAndCost) → slice_get entries 0 ≡ Some a → slice_get rest 0 ≡ Some b → AreSamePair a b → ⊥

-- the entries are those of one pair of ids, which have this row, and then `rest`, which begins with
-- another pair
abbrev pub IsFirstRow : List IdsAndCost → PairRow → List IdsAndCost → Type 0
IsFirstRow entries row rest =
    (of_pair : List IdsAndCost) × (entries ≡ of_pair ++ rest) × (0 < length of_pair) × IsRowOf of_pair row × StartsOtherPair entries rest

-- the rows of entries that are sorted by ids: one for each pair
abbrev pub AreRows : List IdsAndCost → List PairRow → Type 0
AreRows entries [] = entries ≡ []
AreRows entries (row ∷ rows) = (rest : List IdsAndCost) × IsFirstRow entries row rest × AreRows rest rows

-- the order of entries: by left id, then right id, then cost
abbrev pub is_sorted_before : IdsAndCost → IdsAndCost → Bool
is_sorted_before a b = is_lt (ordering_then (ordering_then (nat_cmp a.left b.left) (nat_cmp a.right b.right)) (int_cmp a.cost b.cost))

-- the order of rows: more entries first, then by left id, then by right id
abbrev pub is_listed_before : PairRow → PairRow → Bool
is_listed_before a b = is_lt (ordering_then (ordering_then (nat_cmp b.entries a.entries) (nat_cmp a.left b.left)) (nat_cmp a.right b.right))

-- the rows of the entries that fit a template
pub record AreRowsOf (template : List (List ℕ)) (entries : List EntryRef) (rows : List PairRow) : Type 0 where
  pub fitting : List IdsAndCost
  pub are_fitting : AreFitting template entries fitting
  pub ordered : List IdsAndCost
  pub same_entries : IsPermutation fitting ordered
  pub in_order : IsSortedBy is_sorted_before ordered
  pub by_pair : List PairRow
  pub are_rows : AreRows ordered by_pair
  pub same_rows : IsPermutation by_pair rows
  pub most_first : IsSortedBy is_listed_before rows
