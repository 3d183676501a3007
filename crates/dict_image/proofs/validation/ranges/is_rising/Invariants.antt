use Rattle.std.proofs.Common.{ℕ, suc, ◌<◌}
use Rattle.image_format.specs.ImageSections.{range_at}
use Rattle.dict_image.proofs.validation.ranges.is_rising.Given as goal

abbrev pub invariant-loop-i : goal.invariant-loop-i
invariant-loop-i l = (k : ℕ) → suc k < l.i → (range_at l.ranges k).first < (range_at l.ranges (suc k)).first
