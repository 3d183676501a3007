-- A relocation in progress: some children of a state have moved.
use Rattle.std.specs.Prelude.{◌≡◌, ◌≢◌, ℕ, ◌+◌, ◌<◌, ◌≤◌, ℤ, pos, negsuc, Bool, List, length}
use Rattle.mj_model.specs.CellMap.{Cell, free_cell, cell_at, base, check}
use Rattle.mj_model.specs.CellRules.{MeetsRules, AreOnKeys}
use Rattle.double_array.specs.Family.{HasCode, FitsAt}

-- the family of the children of the state s, whose base is `from`
pub record IsFamilyOf (cells : List Cell) (s from : ℕ) (family : List Bool) : Type 0 where
  pub long : length family ≡ 257
  pub sound : (code : ℕ) → HasCode family code → check cells (from + code) ≡ pos s
  pub complete : (code : ℕ) → code ≤ 256 → check cells (from + code) ≡ pos s → HasCode family code

-- the family of the children of the state s
abbrev pub HasFamily : List Cell → ℕ → List Bool → Type 0
HasFamily cells s family = (b : ℕ) × (base cells s ≡ pos b) × IsFamilyOf cells s b family

-- the family of s, whose base is `from`, may move to the base `to`
pub record IsRelocation (values : ℕ) (cells : List Cell) (s from to : ℕ) (family : List Bool) : Type 0 where
  pub rules : MeetsRules values cells
  pub keys : AreOnKeys cells
  pub based : base cells s ≡ pos from
  pub some : 1 ≤ from
  pub is : IsFamilyOf cells s from family
  pub fits : FitsAt cells family to

-- in the cells from `start` to start + n, the check t becomes u
pub record IsRenamed (old new : List Cell) (start n t u : ℕ) : Type 0 where
  pub renamed : (i : ℕ) → start ≤ i → i < start + n → check old i ≡ pos t → cell_at new i ≡ (base old i, pos u)
  pub outside : (i : ℕ) → (start ≤ i → i < start + n → ⊥) → cell_at new i ≡ cell_at old i
  pub others : (i : ℕ) → (check old i ≡ pos t → ⊥) → cell_at new i ≡ cell_at old i
  pub long : length new ≡ length old

-- the child of s in cell t has moved to cell u
pub record IsChildMoved (old new : List Cell) (s t u : ℕ) : Type 0 where
  pub child : cell_at new u ≡ (base old t, pos s)
  pub freed : cell_at new t ≡ free_cell
  pub renamed : (i : ℕ) → check old i ≡ pos t → cell_at new i ≡ (base old i, pos u)
  pub others : (i : ℕ) → i ≢ t → i ≢ u → (check old i ≡ pos t → ⊥) → cell_at new i ≡ cell_at old i
  pub long : length new ≡ length old

-- the children of s with codes of the family below n have moved from the base `from` to the base
-- `to`
pub record IsMovedUpTo (old new : List Cell) (s from to : ℕ) (family : List Bool) (n : ℕ) : Type 0 where
  pub child : (c : ℕ) → c < n → HasCode family c → cell_at new (to + c) ≡ (base old (from + c), pos s)
  pub freed : (c : ℕ) → c < n → HasCode family c → cell_at new (from + c) ≡ free_cell
  pub renamed : (c i : ℕ) → c < n → HasCode family c → check old i ≡ pos (from + c) → cell_at new i ≡ (base old i, pos (to + c))
  pub others : (i : ℕ) → ((c : ℕ) → c < n → HasCode family c → (i ≢ to + c) × (i ≢ from + c) × (check old i ≡ pos (from + c) → ⊥)) → cell_at new i ≡ cell_at old i
  pub long : length new ≡ length old

-- the checks of a cell's children are changed, if the cell is a state; a value cell has no children
abbrev pub AreChildrenRenamed : ℤ → List Cell → List Cell → ℕ → ℕ → Type 0
AreChildrenRenamed (pos b) old new t u = IsRenamed old new b 257 t u
AreChildrenRenamed (negsuc v) old new t u = IsRenamed old new 0 0 t u

-- the children of a cell lie from its base on
abbrev pub HasChildrenFromBase : List Cell → ℕ → Type 0
HasChildrenFromBase cells t = (i : ℕ) → check cells i ≡ pos t → (b : ℕ) × (base cells t ≡ pos b) × (b ≤ i) × (i ≤ b + 256)
