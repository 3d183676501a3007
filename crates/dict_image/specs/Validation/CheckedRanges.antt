-- A single range of code points.
use Rattle.std.specs.Prelude.{ℕ, ◌≤◌}
use Rattle.mj_model.specs.CharDef.{code_point_max, IsInfoOf}
use Rattle.image_format.specs.ImageSections.{StoredRange}

-- the range starts at a code point, and its categories are below `categories`
pub record IsRangeOf (categories : ℕ) (range : StoredRange) : Type 0 where
  pub within : range.first ≤ code_point_max
  pub info : IsInfoOf categories range.info
