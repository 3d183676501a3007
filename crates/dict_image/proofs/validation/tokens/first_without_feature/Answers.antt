use Rattle.std.proofs.Common.{ℕ, List, subst}
use Rattle.image_format.specs.ImageSections.{HasFeature, stored_token}
use Rattle.dict_image.specs.Validation.Checks.{IsLeastOrNone}
use Rattle.dict_image.proofs.validation.tokens.first_without_feature.Goals as goal

pub returns : goal.returns
returns c =
    let same = c.in_ok-features.ensures in
    subst (λ (xs : List ℕ). IsLeastOrNone c.args.count (λ i. HasFeature xs (stored_token c.args.tokens.now i)) c.without_feature.result) same c.without_feature.ensures
