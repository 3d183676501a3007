use Rattle.std.proofs.Common.{ℕ, ◌<◌}
use Rattle.image_format.specs.ImageSections.{FitsSizes, stored_token}
use Rattle.dict_image.proofs.validation.tokens.first_misfit.Given as goal

abbrev pub invariant-loop-token : goal.invariant-loop-token
invariant-loop-token l = (k : ℕ) → k < l.token → FitsSizes l.sizes (stored_token l.tokens k)
