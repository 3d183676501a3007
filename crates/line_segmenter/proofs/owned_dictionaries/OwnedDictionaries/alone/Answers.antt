use Rattle.std.proofs.Common.{[], refl, subst, ◌∙◌}
use Rattle.std.proofs.lemmas.Result.{err_from_is_err_and}
use Rattle.std.specs.Prelude.{None, Some}
use Rattle.line_segmenter.specs.Segmenters.{FitOver}
use Rattle.line_segmenter.proofs.OverlayLemmas.{same_fault}
use Rattle.line_segmenter.proofs.owned_dictionaries.OwnedDictionaries.alone.Goals as goal

pub returns-in_err-new-clause-rejected : goal.returns-in_err-new-clause-rejected
returns-in_err-new-clause-rejected c =
    let p = err_from_is_err_and c.from_residual.result c.from_residual.ensures.1 in
    rw (p.1, p.2) (same_fault c.args.system c.args.system c.deref.result.now [] (Some c.in_err-new.field-0.0) refl (c.deref.ensures.value ∙ c.new-users.ensures.items) c.in_err-new.ensures.rejected)

pub invariant_of-result : goal.invariant_of-result
invariant_of-result c =
    subst (FitOver c.args.system) c.deref.ensures.value (record { no_fault = c.in_ok-new.ensures.accepted; fitting = c.in_ok-new.ensures.fitting })

pub returns-clause-alone : goal.returns-clause-alone
returns-clause-alone c = λ i. record { system = c.args.system; users = c.new-users.ensures.items i }

pub returns-clause-fits : goal.returns-clause-fits
returns-clause-fits c =
    same_fault c.args.system c.args.system c.deref.result.now [] None refl (c.deref.ensures.value ∙ c.new-users.ensures.items) c.in_ok-new.ensures.accepted
