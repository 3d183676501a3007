-- The ring of free cells. The base of a free cell is the index of the next one, and its check is
-- the negated index of the one before.
use Rattle.std.specs.Prelude.{◌≡◌, ℕ, ◌<◌, pos, neg_ℤ, List}
use Rattle.mj_model.specs.CellMap.{Cell, free_cell, cell_at, base, check}
use Rattle.double_array.specs.Views.{cell_views}

-- a cell with links
pub record HasLinks (cells : List Cell) (i : ℕ) : Type 0 where
  pub above : 0 < i
  pub next : ℕ
  pub before : ℕ
  pub next_above : 0 < next
  pub before_above : 0 < before
  pub next_is : base cells i ≡ pos next
  pub before_is : check cells i ≡ neg_ℤ (pos before)

-- the links lead from cell 1 to this cell
pub data IsOnRing (cells : List Cell) : ℕ → Type 0 where
  first : IsOnRing cells 1
  further : {i j : ℕ} → IsOnRing cells i → base cells i ≡ pos j → IsOnRing cells j

-- the cells with links form one ring, and the links to the next cell and to the one before are
-- inverse
pub record IsRing (cells : List Cell) : Type 0 where
  pub first : HasLinks cells 1
  pub next : (i n : ℕ) → HasLinks cells i → base cells i ≡ pos n → HasLinks cells n × (check cells n ≡ neg_ℤ (pos i))
  pub before : (i p : ℕ) → HasLinks cells i → check cells i ≡ neg_ℤ (pos p) → HasLinks cells p × (base cells p ≡ pos i)
  pub reached : (i : ℕ) → HasLinks cells i → IsOnRing cells i

-- every free cell below n has links
abbrev pub AreLinked : List Cell → ℕ → Type 0
AreLinked cells n = (i : ℕ) → 0 < i → i < n → cell_at (cell_views cells) i ≡ free_cell → HasLinks cells i
