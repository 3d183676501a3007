use Rattle.std.proofs.Common.{ℕ, below_more}
use Rattle.image_format.specs.ImageSections.{HasFeature, stored_token}
use Rattle.dict_image.proofs.validation.tokens.without_feature.Goals as goal

pub loop-token-preserved : goal.loop-token-preserved
loop-token-preserved c =
    below_more (λ (k : ℕ). HasFeature c.args.features.now (stored_token c.args.tokens.now k)) c.loop-token.token c.loop-token.invariant (c.has_feature.ensures.0 c.if-not-has_feature.false)
