-- The cells of a double array between two calls.
use Rattle.std.specs.Prelude.{◌≡◌, ℕ, ◌+◌, ◌-◌, ◌<◌, ◌≤◌, ◌^◌, ◌⊎◌, pos, List, Some, length}
use Rattle.mj_model.specs.CellMap.{Cell, free_cell, cell_at, base, check, walk, HasSameMap}
use Rattle.mj_model.specs.CellRules.{MeetsRules, AreOnKeys}
use Rattle.double_array.specs.Pool.{Pool}

-- the bound of all values
abbrev pub values : ℕ
values = 2 ^ 31 - 1

-- each base of a state is at least 2 and at most the top
abbrev pub AreBases : Pool → Type 0
AreBases pool = (t b : ℕ) → base pool.cells t ≡ pos b → 0 < b → (2 ≤ b) × (b ≤ pool.top)

-- some cell is used
abbrev pub HasUsed : List Cell → Type 0
HasUsed cells = (t : ℕ) × (s : ℕ) × (check cells t ≡ pos s)

-- the cells meet the invariants, each used one lies on the walk of a key, and each step from a
-- state leads to a cell of the array
pub record MeetsInvariants (pool : Pool) : Type 0 where
  pub rules : MeetsRules values pool.cells
  pub on_keys : AreOnKeys pool.cells
  pub bases : AreBases pool
  pub root : (b : ℕ) × (base pool.cells 0 ≡ pos b) × (2 ≤ b)
  pub started : HasUsed pool.cells ⊎ (base pool.cells 0 ≡ pos 2)
  pub room : pool.top + 257 ≤ length pool.cells
  pub few : length pool.cells ≤ 2 ^ 30

-- the state s has base `from`, the code is that of a byte or of the end of a key, and there is room
-- to move a family
pub record CanClear (pool : Pool) (s from code : ℕ) : Type 0 where
  pub built : MeetsInvariants pool
  pub based : base pool.cells s ≡ pos from
  pub least : 2 ≤ from
  pub code_within : code ≤ 256
  pub room : pool.top + 514 ≤ length pool.cells

-- the cell `wanted` of a state's step on a code is free; `now` is the state's number after a move
pub record IsCleared (old new : Pool) (s code now wanted : ℕ) : Type 0 where
  pub built : MeetsInvariants new
  pub map : HasSameMap old.cells new.cells
  pub led : (front : List ℕ) → walk old.cells 0 front ≡ Some s → walk new.cells 0 front ≡ Some now
  pub based : (b : ℕ) × (base new.cells now ≡ pos b) × (2 ≤ b) × (wanted ≡ b + code)
  pub free : cell_at new.cells wanted ≡ free_cell
  pub low : wanted ≤ old.top + 256
  pub top : new.top ≤ old.top + 257
  pub long : length new.cells ≡ length old.cells
