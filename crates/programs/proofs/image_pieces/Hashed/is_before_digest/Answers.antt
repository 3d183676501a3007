use Rattle.std.proofs.Common.{◌≡◌, ℕ, ◌-◌, ◌<◌, false, refl, arith, ap, sym, subst, ◌∙◌, length, take, drop}
use Rattle.std.proofs.lemmas.Bool.Decides.{Decides-eqb}
use Rattle.std.proofs.lemmas.List.{take_all, length-drop}
use Rattle.std.proofs.lemmas.Slice.Eq.{slice_eq-Decides}
use Rattle.programs.specs.HashedImages.{digest_place}
use Rattle.programs.proofs.HashLemmas.{too_short}
use Rattle.programs.proofs.ImageHeadLemmas.{not_both}
use Rattle.programs.proofs.image_pieces.Hashed.is_before_digest.Goals as goal

pub returns-then-image-end : goal.returns-then-image-end
returns-then-image-end c = λ held.
    let image = c.args.image.now in
    let short : length image < digest_place image = subst (λ (n : ℕ). length image < n) held.end_is c.if-image-end.true in
    ((λ t. absurd (not_both false t refl)), (λ same. absurd (too_short (digest_place image) image short same)))

pub returns : goal.returns
returns c = λ held.
    let image = c.args.image.now in
    let end = c.args.self.end in
    let tail = drop end image in
    let place = ap (λ (n : ℕ). drop n image) held.end_is in
    let whole : take (length image - end) tail ≡ tail = take_all (length image - end) tail (omega (arith, length-drop end image)) in
    let same = slice_eq-Decides Decides-eqb _ _ _ c.eq.ensures in
    let digest = c.finalize-digest.ensures (take (digest_place image) image) held.holds in
    ((λ t. sym place ∙ sym whole ∙ same.0 t ∙ digest), (λ e. same.1 (whole ∙ place ∙ e ∙ sym digest)))
