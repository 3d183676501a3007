-- Moves of a state's children to another base.
use Rattle.std.specs.Prelude.{◌≡◌, ℕ, ◌+◌, ◌<◌, ◌≤◌, pos, List, Some, length}
use Rattle.mj_model.specs.CellMap.{Cell, free_cell, cell_at, base, check, step, HasSameMap}
use Rattle.mj_model.specs.CellRules.{MeetsRules, AreOnKeys}

-- a cell that a move of s to base b leaves unchanged: neither s, nor a child, nor a child's new
-- cell, nor a grandchild
pub record IsApart (old : List Cell) (s b i : ℕ) : Type 0 where
  pub no_state : i ≡ s → ⊥
  pub no_child : (c : ℕ) → step old s c ≡ Some i → ⊥
  pub no_new_child : (c t : ℕ) → step old s c ≡ Some t → i ≡ b + c → ⊥
  pub no_grandchild : (c t : ℕ) → step old s c ≡ Some t → check old i ≡ pos t → ⊥

-- the children of the state s move to base b
pub record IsMove (old new : List Cell) (s b : ℕ) : Type 0 where
  -- s has a child, b is at least 1, and b + c is free for the code c of each child
  pub some_child : (c : ℕ) × (t : ℕ) × (step old s c ≡ Some t)
  pub positive : 1 ≤ b
  pub within : (c t : ℕ) → step old s c ≡ Some t → b + c < length old
  pub room : (c t : ℕ) → step old s c ≡ Some t → cell_at old (b + c) ≡ free_cell
  -- each child is now in cell b + c, and its old cell is free
  pub child : (c t : ℕ) → step old s c ≡ Some t → cell_at new (b + c) ≡ cell_at old t
  pub freed : (c t : ℕ) → step old s c ≡ Some t → cell_at new t ≡ free_cell
  -- checks with the old cell's number now have the new one's
  pub renamed : (c t u : ℕ) → step old s c ≡ Some t → check old u ≡ pos t → (u ≡ s → ⊥) → cell_at new u ≡ (base old u, pos (b + c))
  -- BASE[s] is b, and nothing else changes
  pub state : cell_at new s ≡ (pos b, check old s)
  pub apart : (i : ℕ) → IsApart old s b i → cell_at new i ≡ cell_at old i
  pub same_length : length new ≡ length old

-- a move keeps the map, the invariants, and that every used cell lies on the walk of a key
pub record IsKept (values : ℕ) (old new : List Cell) : Type 0 where
  pub map : HasSameMap old new
  pub rules : MeetsRules values new
  pub on_keys : AreOnKeys new

abbrev pub MovesKeepTheMap : Type 0
MovesKeepTheMap = (values : ℕ) (old new : List Cell) (s b : ℕ) → MeetsRules values old → AreOnKeys old → IsMove old new s b → IsKept values old new
