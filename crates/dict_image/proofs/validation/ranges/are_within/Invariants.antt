use Rattle.std.proofs.Common.{ℕ, ◌<◌}
use Rattle.image_format.specs.ImageSections.{range_at}
use Rattle.dict_image.specs.Validation.CheckedRanges.{IsRangeOf}
use Rattle.dict_image.proofs.validation.ranges.are_within.Given as goal

abbrev pub invariant-loop-i : goal.invariant-loop-i
invariant-loop-i l = (k : ℕ) → k < l.i → IsRangeOf l.categories (range_at l.ranges k)
