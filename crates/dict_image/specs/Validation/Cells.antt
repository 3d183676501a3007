-- A cell as it is read, and its role.
use Rattle.std.specs.Prelude.{◌≡◌, ◌⊎◌, ℕ, ◌+◌, ◌<◌, ◌≤◌, ℤ, pos, negsuc, List, length}
use Rattle.mj_model.specs.CellMap.{Cell as CellOf, free_cell, cell_at, base, check}
use Rattle.mj_model.specs.CellRules.{IsUsed}
use Rattle.dict_image.specs.declared.validation.cell.Signed.{Signed}
use Rattle.dict_image.specs.declared.validation.cell.Signed.TheVariants.{Natural, Negative}
use Rattle.dict_image.specs.declared.validation.cell.Cell.{Cell}
use Rattle.dict_image.specs.declared.validation.cell.Role.{Role}
use Rattle.dict_image.specs.declared.validation.cell.Role.TheVariants.{Value, Other}

-- the number as an integer
abbrev pub number : Signed → ℤ
number (Natural n) = pos n
number (Negative n) = negsuc n

-- BASE and CHECK of a cell as integers
abbrev pub cell_of : Cell → CellOf
cell_of cell = (number cell.base, number cell.check)

-- the distance of cell `t` from BASE `start`, as a code of 0 to 256
pub record IsDistance (start t code : ℕ) : Type 0 where
  pub positive : 1 ≤ start
  pub near : code ≤ 256
  pub place : t ≡ start + code

-- cell `t` is one step of this code away from the state in its CHECK
pub record IsChildAt (cells : List CellOf) (t code : ℕ) : Type 0 where
  pub state : ℕ
  pub from : ℕ
  pub named : check cells t ≡ pos state
  pub within : state < length cells
  pub based : base cells state ≡ pos from
  pub distance : IsDistance from t code

-- a cell other than 0 is free or used
abbrev pub IsAllowed : ℕ → List CellOf → ℕ → Type 0
IsAllowed groups cells t = (cell_at cells t ≡ free_cell) ⊎ IsUsed groups cells t

-- the BASE of a cell with this role
abbrev pub IsBaseRole : ℕ → ℤ → Role → Type 0
IsBaseRole groups z (Value v) = (v < groups) × (z ≡ negsuc v)
IsBaseRole groups z Other = (b : ℕ) × (z ≡ pos b)

-- a cell that follows the rules and has this role
abbrev pub IsRole : ℕ → List CellOf → ℕ → Role → Type 0
IsRole groups cells t role = IsAllowed groups cells t × IsBaseRole groups (base cells t) role
