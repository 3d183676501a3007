use Rattle.std.proofs.Common.{ℕ, ◌<◌}
use Rattle.image_format.specs.ImageSections.{HasFeature, stored_token}
use Rattle.dict_image.proofs.validation.tokens.without_feature.Given as goal

abbrev pub invariant-loop-token : goal.invariant-loop-token
invariant-loop-token l = (k : ℕ) → k < l.token → HasFeature l.features (stored_token l.tokens k)
