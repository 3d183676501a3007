-- Cells with the values of groups.
use Rattle.std.specs.Prelude.{◌≡◌, ◌⊎◌, ℕ, ◌<◌, pos, negsuc, List, length, slice_index}
use Rattle.mj_model.specs.CellMap.{Cell, base, check}
use Rattle.mj_model.specs.CellRules.{MeetsRules}
use Rattle.image_format.specs.ImageSections.{OccursOnce}
use Rattle.dict_image.specs.Validation.Cells.{IsAllowed}

-- cell 0 has CHECK -2 and a BASE of at least 0
pub record IsRoot (cells : List Cell) : Type 0 where
  pub root_check : check cells 0 ≡ negsuc 1
  pub root_base : (b : ℕ) × (base cells 0 ≡ pos b)

-- the cells follow the rules, and hold each group once
pub record HoldEach (groups : ℕ) (cells : List Cell) : Type 0 where
  pub rules : MeetsRules groups cells
  pub once : (group : ℕ) → group < groups → OccursOnce cells group

-- `places` are the cells of the groups' values
pub record ArePlaces (groups : ℕ) (cells : List Cell) (places : List ℕ) : Type 0 where
  pub many : length places ≡ groups
  pub hold : (group : ℕ) → group < groups → base cells (slice_index places group) ≡ negsuc group

-- `place` is the only cell before `t` with the value of `group`, or 0 if there is none
pub record IsPlaceUpTo (cells : List Cell) (t group place : ℕ) : Type 0 where
  pub held : (place ≡ 0) ⊎ ((place < t) × (base cells place ≡ negsuc group))
  pub only : (j : ℕ) → j < t → base cells j ≡ negsuc group → j ≡ place

-- the cells before `t` follow the rules, and `places` are the cells of the values among them
pub record IsScanned (groups : ℕ) (cells : List Cell) (t : ℕ) (places : List ℕ) : Type 0 where
  pub many : length places ≡ groups
  pub allowed : (j : ℕ) → 0 < j → j < t → IsAllowed groups cells j
  pub placed : (group : ℕ) → group < groups → IsPlaceUpTo cells t group (slice_index places group)
