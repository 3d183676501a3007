-- A pool of cells, with the free ones on a ring.
use Rattle.std.specs.Prelude.{◌≡◌, ℕ, ◌+◌, ◌⊎◌, ◌<◌, ◌≤◌, ◌^◌, pos, negsuc, List, Option, MatchOption, length}
use Rattle.mj_model.specs.CellMap.{Cell, free_cell, cell_at, check}
use Rattle.double_array.specs.Views.{cell_views}
use Rattle.double_array.specs.Ring.{HasLinks, IsRing, AreLinked}

-- the view of a pool: the cells, and the index from which on all are free
pub record Pool : Type 0 where
  pub cells : List Cell
  pub top : ℕ

-- exactly the free cells are on the ring, `start` among them, and there is room for a family at the
-- top
pub record IsPool (cells : List Cell) (top start : ℕ) : Type 0 where
  pub ring : IsRing cells
  pub linked : AreLinked cells (length cells)
  pub start_free : HasLinks cells start
  pub beyond : (i : ℕ) → top ≤ i → cell_at (cell_views cells) i ≡ free_cell
  pub room : top + 257 ≤ length cells
  pub low : 258 ≤ top
  pub few : length cells ≤ 2 ^ 30

-- n cells: the root without children, and free cells on the ring
pub record IsNew (cells : List Cell) (n : ℕ) : Type 0 where
  pub ring : IsRing cells
  pub linked : AreLinked cells n
  pub root : cell_at (cell_views cells) 0 ≡ (pos 2, negsuc 1)
  pub free : (i : ℕ) → 0 < i → cell_at (cell_views cells) i ≡ free_cell
  pub long : length cells ≡ n

-- a used cell, or the root
pub data IsInUse (cells : List Cell) : ℕ → Type 0 where
  is_root : IsInUse cells 0
  is_named : {i s : ℕ} → check cells i ≡ pos s → IsInUse cells i

-- the state that is a cell's check, if there is one
abbrev pub IsParent : List Cell → ℕ → Option ℕ → Type 0
IsParent cells i found = MatchOption found ((s : ℕ) → check cells i ≡ pos s → ⊥) (λ s. check cells i ≡ pos s)

-- more cells, of which the new ones are free
pub record IsGrown (old new : List Cell) (n : ℕ) : Type 0 where
  pub same : (i : ℕ) → cell_at new i ≡ cell_at old i
  pub long : length new ≡ n

-- the cell before the top is used, or the top is the least one
abbrev pub IsLowered : List Cell → ℕ → Type 0
IsLowered cells top = (top ≡ 258) ⊎ ((i : ℕ) × (s : ℕ) × (top ≡ i + 1) × (check cells i ≡ pos s))

-- all cells but the root are free
pub record IsEmpty (pool : Pool) : Type 0 where
  pub root : cell_at pool.cells 0 ≡ (pos 2, negsuc 1)
  pub free : (i : ℕ) → 0 < i → cell_at pool.cells i ≡ free_cell
  pub long : length pool.cells ≡ 515
  pub top_is : pool.top ≡ 258
