-- Costs in rows of equal width.
use Rattle.std.specs.Prelude.{◌≡◌, ℕ, ℤ, ◌+◌, ◌*◌, ◌<◌, Some, List, length, slice_get}

-- rows before `end`, each with a cost in each column
pub record AreRows (cost : ℕ → ℕ → ℤ) (width end : ℕ) (rows : List ℤ) : Type 0 where
  pub many : length rows ≡ end * width
  pub each : (row column : ℕ) → row < end → column < width → slice_get rows (row * width + column) ≡ Some (cost row column)
