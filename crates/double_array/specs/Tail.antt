-- The end of a new key, which is added code by code.
use Rattle.std.specs.Prelude.{◌≡◌, ℕ, ◌+◌, ◌-◌, ◌≤◌, ◌^◌, ◌⊎◌, ◌++◌, max, pos, List, Some, length, take, slice_set, slice_index}
use Rattle.mj_model.specs.CellMap.{Cell, free_cell, cell_at, base, check, walk, codes_of}
use Rattle.mj_model.specs.CellRules.{MeetsRules, IsOnKey}
use Rattle.double_array.specs.Pool.{Pool, IsInUse}
use Rattle.double_array.specs.Built.{values, AreBases}

-- a cell on the walk of some codes
pub record IsOnTail (cells : List Cell) (codes : List ℕ) (t : ℕ) : Type 0 where
  pub front : List ℕ
  pub back : List ℕ
  pub whole : front ++ back ≡ codes
  pub led : walk cells 0 front ≡ Some t

-- each used cell lies on the walk of a key, or on the walk of these codes
abbrev pub AreOnKeysOrTail : List Cell → List ℕ → Type 0
AreOnKeysOrTail cells codes = (t q : ℕ) → check cells t ≡ pos q → IsOnKey cells t ⊎ IsOnTail cells codes t

-- the root and each used cell are unchanged
abbrev pub AreUnchanged : List Cell → List Cell → Type 0
AreUnchanged old new = (i : ℕ) → IsInUse old i → cell_at new i ≡ cell_at old i

-- the first codes of the key lead to the state, and the cell `wanted` of its step on the next code
-- is free
pub record IsReady (pool : Pool) (key : List ℕ) (used state wanted : ℕ) : Type 0 where
  pub rules : MeetsRules values pool.cells
  pub keys : AreOnKeysOrTail pool.cells (codes_of key)
  pub bases : AreBases pool
  pub root : (b : ℕ) × (base pool.cells 0 ≡ pos b) × (2 ≤ b)
  pub some_left : used ≤ length key
  pub led : walk pool.cells 0 (take used (codes_of key)) ≡ Some state
  pub based : (b : ℕ) × (base pool.cells state ≡ pos b) × (2 ≤ b) × (wanted ≡ b + slice_index (codes_of key) used)
  pub free : cell_at pool.cells wanted ≡ free_cell
  -- room for the remainder of the key
  pub room_wanted : wanted + 258 + (length key - used) ≤ length pool.cells
  pub room_top : pool.top + 257 + (length key - used) ≤ length pool.cells
  pub few : length pool.cells ≤ 2 ^ 30

-- the cell `wanted` is a state, from whose base the cell of the next code is free
pub record IsStateAdded (old new : Pool) (state wanted next_code next : ℕ) : Type 0 where
  pub from : ℕ
  pub cells : new.cells ≡ slice_set old.cells wanted (pos from, pos state)
  pub least : 2 ≤ from
  pub next_is : next ≡ from + next_code
  pub low : next ≤ new.top
  pub free : cell_at new.cells next ≡ free_cell
  pub top : new.top ≡ max old.top (wanted + 1)
