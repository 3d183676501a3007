use Rattle.std.proofs.Common.{ℕ, List, refl, inr, sym, subst}
use Rattle.std.proofs.lemmas.Result.{err_from_is_err_and}
use Rattle.image_format.specs.ImageFaults.{IsAccepted}
use Rattle.programs.proofs.ImageErrors.{load_error, read_error}
use Rattle.programs.proofs.images.dictionary_at.Goals as goal

pub returns-in-Ok-clause-accepted : goal.returns-in-Ok-clause-accepted
returns-in-Ok-clause-accepted g c =
    subst (λ (bytes : List ℕ). IsAccepted c.args.digest bytes) (sym c.in-Ok.ensures.dict) (c.in-Ok.ensures.accepted c.args.digest c.in_ok-path.ensures.digest)

pub returns-in-Err-clause-fault : goal.returns-in-Err-clause-fault
returns-in-Err-clause-fault g c = inr (c.in-Err.fault, inr (c.in_ok-path.field-0.path, refl, c.in_ok-path.ensures.path))

pub returns-in-Err-clause-rejected : goal.returns-in-Err-clause-rejected
returns-in-Err-clause-rejected g c =
    let image = c.in_ok-path.field-0.image in
    load_error g.R.File.Read.remaining c.args.digest image.digest image.bytes.items c.in-Err.fault c.in_ok-path.ensures.bytes c.in_ok-path.ensures.digest
    c.in-Err.ensures.out_of_memory (c.in-Err.ensures.rejected c.args.digest c.in_ok-path.ensures.digest)

pub returns-in_err-path-clause-rejected : goal.returns-in_err-path-clause-rejected
returns-in_err-path-clause-rejected g c =
    let p = err_from_is_err_and c.from_residual.result c.from_residual.ensures.1 in
    rw (p.1, p.2) (read_error g.R.File.Read.remaining c.args.digest c.in_err-path.field-0.0 c.in_err-path.ensures.rejected)
