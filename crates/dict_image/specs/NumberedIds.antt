-- Context ids, numbered in the order in which they are added.
use Rattle.std.specs.Prelude.{◌≡◌, ℕ, ◌<◌, ◌≤◌, ◌⊎◌, ◌++◌, ◌∷◌, [], Some, Contains, List, length, slice_get}
use Rattle.dict_image.specs.declared.numbered_ids.TheConstants.{NUMBERED_MAX}

-- the ids that were added, all below `size`
pub record IdList : Type 0 where
  pub ids : List ℕ
  pub size : ℕ

-- each number that an id has leads back to the id, each added id has its number, and there are at
-- most `NUMBERED_MAX`
pub record AreNumbered (ids numbers : List ℕ) : Type 0 where
  pub given : (id number : ℕ) → slice_get numbers id ≡ Some number → number < NUMBERED_MAX → slice_get ids number ≡ Some id
  pub there : (id number : ℕ) → slice_get ids number ≡ Some id → slice_get numbers id ≡ Some number
  pub most : length ids ≤ NUMBERED_MAX

-- a number below the number of ids leads back to its id
abbrev pub AreNumbersOf : List ℕ → List ℕ → Type 0
AreNumbersOf ids numbers = (id number : ℕ) → slice_get numbers id ≡ Some number → number < length ids → slice_get ids number ≡ Some id

-- all ids are below `size`
abbrev pub AreBelow : ℕ → List ℕ → Type 0
AreBelow size ids = (number id : ℕ) → slice_get ids number ≡ Some id → id < size

-- an id that gets no number: all numbers are used, it is out of range, or it has a number
abbrev pub IsSkipped : IdList → ℕ → Type 0
IsSkipped list id = (length list.ids ≡ NUMBERED_MAX) ⊎ (list.size ≤ id) ⊎ Contains list.ids id

-- the id got the next number, unless it is skipped
abbrev pub IsAdded : IdList → ℕ → IdList → Type 0
IsAdded old id new = (IsSkipped old id × (new.ids ≡ old.ids)) ⊎ (new.ids ≡ old.ids ++ id ∷ [])
