use Rattle.std.proofs.Common.{◌∷◌, [], refl, inr, arith, subst}
use Rattle.std.proofs.lemmas.Result.{err_from_is_err_and}
use Rattle.programs.specs.Faults.{Names, NamesOneOf}
use Rattle.programs.specs.declared.fault.Fault.TheVariants.{File}
use Rattle.dictc_lib.proofs.ReadingErrorLemmas.{NamesOneOf-append_right}
use Rattle.dictc_lib.proofs.compiling.read_sources.Goals as goal

pub returns-in_err-read-clause-fault : goal.returns-in_err-read-clause-fault
returns-in_err-read-clause-fault g c =
    let p = err_from_is_err_and c.from_residual.result c.from_residual.ensures.1 in
    let named = subst (λ bytes. Names File bytes c.in_err-read.field-0.0) c.as_str.ensures.value c.in_err-read.ensures.fault in
    rw (p.1, p.2) (inr (c.args.chars.now, (0, omega arith, refl), named))

pub returns-in_err-read-2-clause-fault : goal.returns-in_err-read-2-clause-fault
returns-in_err-read-2-clause-fault g c =
    let p = err_from_is_err_and c.from_residual-in_err-read-2.result c.from_residual-in_err-read-2.ensures.1 in
    let named = subst (λ bytes. Names File bytes c.in_err-read-2.field-0.0) c.as_str-2.ensures.value c.in_err-read-2.ensures.fault in
    rw (p.1, p.2) (inr (c.args.unk.now, (1, omega arith, refl), named))

pub returns-in_err-read_lexicons-clause-fault : goal.returns-in_err-read_lexicons-clause-fault
returns-in_err-read_lexicons-clause-fault g c =
    let p = err_from_is_err_and c.from_residual-in_err-read_lexicons.result c.from_residual-in_err-read_lexicons.ensures.1 in
    let named = subst (λ paths. NamesOneOf paths c.in_err-read_lexicons.field-0.0) c.deref.ensures.value c.in_err-read_lexicons.ensures.fault in
    rw (p.1, p.2) (NamesOneOf-append_right (c.args.chars.now ∷ c.args.unk.now ∷ []) c.args.options.now.lexicons.items c.in_err-read_lexicons.field-0.0 named)
