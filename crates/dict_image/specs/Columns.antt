-- The columns of costs in rows of equal width.
use Rattle.std.specs.Prelude.{◌≡◌, ℕ, ℤ, ◌+◌, ◌*◌, ◌<◌, Some, List, length, slice_get}

-- `height` rows, whose columns before `end` hold the costs
pub record AreColumns (cost : ℕ → ℕ → ℤ) (width height end : ℕ) (rows : List ℤ) : Type 0 where
  pub many : length rows ≡ height * width
  pub each : (row column : ℕ) → row < height → column < end → slice_get rows (row * width + column) ≡ Some (cost row column)

-- column `column` holds the costs in the rows before `end`, and all columns before it are unchanged
pub record IsColumnSet (cost : ℕ → ℤ) (width end column : ℕ) (old new : List ℤ) : Type 0 where
  pub many : length new ≡ length old
  pub set : (row : ℕ) → row < end → slice_get new (row * width + column) ≡ Some (cost row)
  pub kept : (row before : ℕ) → before < column → slice_get new (row * width + before) ≡ slice_get old (row * width + before)
