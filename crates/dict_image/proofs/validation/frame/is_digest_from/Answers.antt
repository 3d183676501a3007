use Rattle.std.proofs.Common.{◌≡◌, ◌-◌, arith, sym, ◌∙◌, length, take, drop}
use Rattle.std.proofs.lemmas.Bool.Decides.{Decides-eqb}
use Rattle.std.proofs.lemmas.List.{take_all, length-drop}
use Rattle.std.proofs.lemmas.Slice.Eq.{slice_eq-Decides}
use Rattle.dict_image.proofs.validation.frame.is_digest_from.Goals as goal

pub returns : goal.returns
returns c =
    let tail = drop c.args.end c.args.bytes.now in
    let whole : take (length c.args.bytes.now - c.args.end) tail ≡ tail = take_all (length c.args.bytes.now - c.args.end) tail (omega (arith, length-drop c.args.end c.args.bytes.now)) in
    let same = slice_eq-Decides Decides-eqb _ _ _ c.eq.ensures in
    (λ t. sym whole ∙ same.0 t ∙ c.digest-digest.ensures, λ e. same.1 (whole ∙ e ∙ sym c.digest-digest.ensures))
