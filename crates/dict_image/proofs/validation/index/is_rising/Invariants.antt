use Rattle.std.proofs.Common.{ℕ, suc, ◌<◌}
use Rattle.image_format.specs.ImageSections.{index_at}
use Rattle.dict_image.proofs.validation.index.is_rising.Given as goal

abbrev pub invariant-loop-i : goal.invariant-loop-i
invariant-loop-i l = (k : ℕ) → k < l.i → index_at l.index k < index_at l.index (suc k)
