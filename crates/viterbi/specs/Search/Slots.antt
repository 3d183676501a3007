-- Tables of numbers indexed by context id.
use Rattle.std.specs.Prelude.{◌≡◌, ℕ, List, slice_get, Some}

-- each slot keeps its number
abbrev pub KeepsSlots : List ℕ → List ℕ → Type 0
KeepsSlots old new = (id number : ℕ) → slice_get old id ≡ Some number → slice_get new id ≡ Some number
