-- Ranges of code points in order.
use Rattle.std.specs.Prelude.{◌≡◌, ℕ, suc, ◌<◌, ◌≤◌, List}
use Rattle.image_format.specs.ImageSections.{FirstsRise, range_at, range_count}

-- the first range starts at code point 0, first code points increase, and the first category of
-- each range fits a byte
pub record AreInOrder (ranges : List ℕ) : Type 0 where
  pub some : 1 ≤ range_count ranges
  pub from_zero : (range_at ranges 0).first ≡ 0
  pub rising : FirstsRise ranges
  pub short : (i : ℕ) → i < range_count ranges → (range_at ranges i).info.head < 256

-- the last range that starts at or before a code point
pub record IsLastUpTo (ranges : List ℕ) (code i : ℕ) : Type 0 where
  pub within : i < range_count ranges
  pub started : (range_at ranges i).first ≤ code
  pub next : suc i < range_count ranges → code < (range_at ranges (suc i)).first
