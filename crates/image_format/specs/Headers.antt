-- The ends of the sections of an image.
use Rattle.std.specs.Prelude.{◌≡◌, ℕ, ◌≤◌, List, length, slice_index}
use Rattle.image_format.specs.ImageBytes.{section_end}
use Rattle.image_format.specs.declared.header.Header.{Header}

-- `ends` holds the end of the header at 0, and the end of section k at k
pub record AreEnds (ends : List ℕ) (h : Header) : Type 0 where
  pub nine : length ends ≡ 9
  pub each : (k : ℕ) → k ≤ 8 → slice_index ends k ≡ section_end h k
