-- The number of cells that an insertion moves, and the condition under which the array grows.
use Rattle.std.specs.Prelude.{◌≡◌, ℕ, ◌+◌, ◌≤◌, ◌⊎◌, if◌then◌else◌, is_some, Some, List, map, length}
use Rattle.std.specs.List.{range_with_len, sum}
use Rattle.mj_model.specs.CellMap.{Cell, base, check, step, walk, codes_of}
use Rattle.double_array.specs.CellMoves.{IsMove}
use Rattle.double_array.specs.Pool.{IsInUse, IsGrown}
use Rattle.double_array.specs.Tail.{AreUnchanged}

-- 1 for a code on which a step leads from the state s
abbrev pub child_on : List Cell → ℕ → ℕ → ℕ
child_on cells s c = if is_some (step cells s c) then 1 else 0

-- the number of children of a state
unfoldable pub children : List Cell → ℕ → ℕ
children cells s = sum (map (child_on cells s) (range_with_len 0 257))

-- the root and each used cell keep their checks, and their bases, except for the value cell of the
-- key
pub record AreInPlace (old new : List Cell) (key : List ℕ) : Type 0 where
  pub checks : (i : ℕ) → IsInUse old i → check new i ≡ check old i
  pub bases : (i : ℕ) → IsInUse old i → (walk old 0 (codes_of key) ≡ Some i → ⊥) → base new i ≡ base old i

-- all `count` children of one state have moved to another base
pub record IsOneMove (old new : List Cell) (count : ℕ) : Type 0 where
  pub state : ℕ
  pub to : ℕ
  pub move : IsMove old new state to
  pub all : count ≡ children old state

-- nothing has changed, or the children of one state have moved
abbrev pub IsOneMoveOrNone : List Cell → List Cell → ℕ → Type 0
IsOneMoveOrNone old new count = ((count ≡ 0) × (new ≡ old)) ⊎ IsOneMove old new count

-- after the array grew, the children of one state moved, and then the root and each used cell
-- stayed unchanged
pub record IsFamilyMoved (old new : List Cell) (count : ℕ) : Type 0 where
  pub longer : List Cell
  pub moved : List Cell
  pub grown : IsGrown old longer (length new)
  pub move : IsOneMove longer moved count
  pub kept : AreUnchanged moved new

-- the insertion of the key moved `count` cells: none, or the children of one state
abbrev pub HaveMoved : List Cell → List Cell → List ℕ → ℕ → Type 0
HaveMoved old new key count = ((count ≡ 0) × AreInPlace old new key) ⊎ IsFamilyMoved old new count

-- after each used cell there is room for a key of `long` bytes, for three families and for one cell
abbrev pub HasSpaceAfterEachCell : List Cell → ℕ → Type 0
HasSpaceAfterEachCell cells long = (i : ℕ) → IsInUse cells i → i + long + 772 ≤ length cells
