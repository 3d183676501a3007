use Rattle.std.proofs.Common.{◌≡◌, ◌⊎◌, List, ℕ, inl, refl, subst}
use Rattle.std.proofs.lemmas.Result.{err_from_is_err_and}
use Rattle.mj_model.specs.declared.image_fault.ImageFault.TheVariants.{Memory}
use Rattle.image_format.specs.ImageFaults.{IsAccepted, IsImageFault}
use Rattle.dict_image.specs.Validation.Outlines.{IsOutline}
use Rattle.dict_image.specs.Validation.BeforeMemory.{ReachKeys}
use Rattle.dict_image.proofs.StageLemmas.{to_keys}
use Rattle.dict_image.proofs.loading.load_image_bytes.Goals as goal

pub over-requires : goal.over-requires
over-requires c = subst (λ (bytes : List ℕ). IsOutline bytes c.in_ok-outline.outline) c.as_slice.ensures c.in_ok-outline.ensures.outline

pub returns-clause-accepted : goal.returns-clause-accepted
returns-clause-accepted c = subst (IsAccepted c.args.digest) c.as_slice.ensures c.in_ok-outline.ensures.accepted

pub returns-in_err-outline-clause-rejected : goal.returns-in_err-outline-clause-rejected
returns-in_err-outline-clause-rejected c =
    let p = err_from_is_err_and c.from_residual.result c.from_residual.ensures.1 in
    let fault = c.in_err-outline.field-0.0 in
    rw (p.1, p.2) (subst (λ (bytes : List ℕ). (fault ≡ Memory) ⊎ IsImageFault c.args.digest bytes fault) c.as_slice.ensures c.in_err-outline.ensures.rejected)

pub returns-in_err-over-clause-rejected : goal.returns-in_err-over-clause-rejected
returns-in_err-over-clause-rejected c =
    let p = err_from_is_err_and c.from_residual-in_err-over.result c.from_residual-in_err-over.ensures.1 in
    rw (p.1, p.2) (inl refl)

pub returns-in_err-outline-clause-out_of_memory : goal.returns-in_err-outline-clause-out_of_memory
returns-in_err-outline-clause-out_of_memory c =
    let p = err_from_is_err_and c.from_residual.result c.from_residual.ensures.1 in
    rw (p.1, p.2) (λ memory. subst (ReachKeys c.args.digest) c.as_slice.ensures (c.in_err-outline.ensures.out_of_memory memory))

pub returns-in_err-over-clause-out_of_memory : goal.returns-in_err-over-clause-out_of_memory
returns-in_err-over-clause-out_of_memory c =
    let p = err_from_is_err_and c.from_residual-in_err-over.result c.from_residual-in_err-over.ensures.1 in
    rw (p.1, p.2) (λ memory. to_keys c.args.digest c.args.bytes (subst (IsAccepted c.args.digest) c.as_slice.ensures c.in_ok-outline.ensures.accepted))
