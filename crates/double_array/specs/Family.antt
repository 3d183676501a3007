-- Families: the sets of the codes of a state's children.
use Rattle.std.specs.Prelude.{◌≡◌, ℕ, ◌+◌, true, Bool, List, slice_get, Some}
use Rattle.mj_model.specs.CellMap.{Cell, free_cell, cell_at}

-- the code is in the family
abbrev pub HasCode : List Bool → ℕ → Type 0
HasCode family code = slice_get family code ≡ Some true

-- the cell of each code is free, from the base on
abbrev pub FitsAt : List Cell → List Bool → ℕ → Type 0
FitsAt cells family base = (code : ℕ) → HasCode family code → cell_at cells (base + code) ≡ free_cell
