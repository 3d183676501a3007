use Rattle.std.proofs.Common.{arith, ◌≡◌, ℕ, [], ◌∷◌, ◌++◌, ap, refl, subst, take, vec_len, length, ◌∙◌}
use Rattle.std.proofs.Math.Seq.{take-append_seam}
use Rattle.std.proofs.lemmas.Result.{err_from_is_err_and}
use Rattle.std.specs.Prelude.{Some}
use Rattle.line_segmenter.specs.Segmenters.{FitOver}
use Rattle.line_segmenter.proofs.OverlayLemmas.{same_fault}
use Rattle.line_segmenter.proofs.owned_dictionaries.add_and_check.Goals as goal

pub returns-in_err-new-clause-rejected : goal.returns-in_err-new-clause-rejected
returns-in_err-new-clause-rejected c =
    let p = err_from_is_err_and c.from_residual-in_err-new.result c.from_residual-in_err-new.ensures.1 in
    let users = c.args.users.now.items ++ c.args.user ∷ [] in
    rw (p.1, p.2) (same_fault c.args.system.now c.args.system.now c.deref.result.now users (Some c.in_err-new.field-0.0) refl (c.deref.ensures.value ∙ c.in_ok-push.ensures.items) c.in_err-new.ensures.rejected)

pub returns-clause-others_unchanged : goal.returns-clause-others_unchanged
returns-clause-others_unchanged c =
    let old = c.args.users.now.items in
    let many : vec_len c.args.users.now ≡ length old = omega (arith, c.args.users.now.ok) in
    ap (take (vec_len c.args.users.now)) c.in_ok-push.ensures.items ∙ ap (λ (n : ℕ). take n (old ++ c.args.user ∷ [])) many ∙ take-append_seam old (c.args.user ∷ [])

pub returns-clause-accepted : goal.returns-clause-accepted
returns-clause-accepted c =
    subst (FitOver c.args.system.now) (c.deref.ensures.value ∙ c.in_ok-push.ensures.items) (record { no_fault = c.in_ok-new.ensures.accepted; fitting = c.in_ok-new.ensures.fitting })
