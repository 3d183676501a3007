-- Numbers and cells that are written one after another.
use Rattle.std.specs.Prelude.{◌≡◌, ℕ, ◌*◌, ◌<◌, List, length}
use Rattle.mj_model.specs.CellMap.{Cell, cell_at}
use Rattle.image_format.specs.ImageSections.{index_at, stored_cell}

-- the bytes are the first `count` numbers of a sequence, 4 bytes each
pub record HoldsNumbers (sequence : ℕ → ℕ) (count : ℕ) (bytes : List ℕ) : Type 0 where
  pub fill : length bytes ≡ 4 * count
  pub each : (i : ℕ) → i < count → index_at bytes i ≡ sequence i

-- the bytes are the first `count` cells, 8 bytes each
pub record HoldsCells (cells : List Cell) (count : ℕ) (bytes : List ℕ) : Type 0 where
  pub fill : length bytes ≡ 8 * count
  pub each : (i : ℕ) → i < count → stored_cell bytes i ≡ cell_at cells i
