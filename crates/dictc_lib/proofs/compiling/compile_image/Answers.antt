use Rattle.std.proofs.Common.{ℕ, List, inr, subst}
use Rattle.std.proofs.lemmas.Result.{err_from_is_err_and}
use Rattle.programs.specs.Faults.{Names}
use Rattle.programs.specs.declared.fault.Fault.TheVariants.{File}
use Rattle.dictc_lib.proofs.compiling.compile_image.Goals as goal

pub returns-in_err-write_file-clause-rejected : goal.returns-in_err-write_file-clause-rejected
returns-in_err-write_file-clause-rejected g c =
    let p = err_from_is_err_and c.from_residual.result c.from_residual.ensures.1 in
    let named = subst (λ (path : List ℕ). Names File path c.in_err-write_file.field-0.0) c.as_str.ensures.value c.in_err-write_file.ensures.fault in
    rw (p.1, p.2) (inr named)
