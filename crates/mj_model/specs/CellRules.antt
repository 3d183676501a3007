-- The invariants of a double array's cells.
use Rattle.std.specs.Prelude.{◌≡◌, ℕ, zero, suc, ◌+◌, ◌<◌, ◌≤◌, ℤ, pos, negsuc, ◌⊎◌, List, ◌++◌, Some, length}
use Rattle.mj_model.specs.CellMap.{Cell, free_cell, cell_at, base, check, walk, codes_of, value_of}

-- the base of a used cell, by its code: -(v + 1) for a value v at the end of a key, otherwise at
-- least 1
abbrev pub IsBaseAfter : ℕ → ℕ → ℤ → Type 0
IsBaseAfter values zero z = (v : ℕ) × (v < values) × (z ≡ negsuc v)
IsBaseAfter values (suc c) z = (b : ℕ) × (1 ≤ b) × (z ≡ pos b)

-- a used cell: its check is a state with a base of at least 1, and the cell lies 0 to 256 cells
-- after that base
pub record IsUsed (values : ℕ) (cells : List Cell) (t : ℕ) : Type 0 where
  pub state : ℕ
  pub from : ℕ
  pub code : ℕ
  pub named : check cells t ≡ pos state
  pub within : state < length cells
  pub based : base cells state ≡ pos from
  pub positive : 1 ≤ from
  pub near : code ≤ 256
  pub place : t ≡ from + code
  pub holds : IsBaseAfter values code (base cells t)

-- cell 0 has check -2 and a base of at least 0; every other cell is free or used; all values are
-- below `values`
pub record MeetsRules (values : ℕ) (cells : List Cell) : Type 0 where
  pub root_check : check cells 0 ≡ negsuc 1
  pub root_base : (b : ℕ) × (base cells 0 ≡ pos b)
  pub others : (t : ℕ) → 0 < t → t < length cells → (cell_at cells t ≡ free_cell) ⊎ IsUsed values cells t

-- the invariants, for some bound of the values
abbrev pub AreCells : List Cell → Type 0
AreCells cells = (values : ℕ) × MeetsRules values cells

-- the checks lead from a cell back to cell 0
pub data LeadsToRoot (cells : List Cell) : ℕ → Type 0 where
  at_root : LeadsToRoot cells 0
  by_check : {s t : ℕ} → check cells t ≡ pos s → LeadsToRoot cells s → LeadsToRoot cells t

-- a cell lies on the walk of a key of the map: a prefix of the key's codes leads to it
pub record IsOnKey (cells : List Cell) (t : ℕ) : Type 0 where
  pub key : List ℕ
  pub value : ℕ
  pub there : value_of cells key ≡ Some value
  pub front : List ℕ
  pub back : List ℕ
  pub codes : front ++ back ≡ codes_of key
  pub led : walk cells 0 front ≡ Some t
  pub back_to_root : LeadsToRoot cells t

-- every used cell lies on the walk of a key
abbrev pub AreOnKeys : List Cell → Type 0
AreOnKeys cells = (t s : ℕ) → check cells t ≡ pos s → IsOnKey cells t
