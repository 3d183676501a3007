use Rattle.std.proofs.Common.{subst, sym, inl}
use Rattle.std.proofs.lemmas.Result.{err_from_is_err_and}
use Rattle.dict_compile.proofs.FirstFaults.{not_compiled}
use Rattle.segmenter.specs.SourceDicts.{IsDictOf}
use Rattle.segmenter.proofs.dicts.system_dict.Goals as goal

pub returns-in_err-compiled-clause-rejected : goal.returns-in_err-compiled-clause-rejected
returns-in_err-compiled-clause-rejected c =
    let p = err_from_is_err_and c.from_residual.result c.from_residual.ensures.1 in
    rw (p.1, p.2) c.in_err-compiled.ensures.rejected

pub returns-in_err-compiled-clause-first : goal.returns-in_err-compiled-clause-first
returns-in_err-compiled-clause-first c = λ fault h.
    let p = err_from_is_err_and c.from_residual.result c.from_residual.ensures.1 in
    rw (p.1, p.2) (c.in_err-compiled.ensures.first fault h)

pub load_written-requires-clause-intact : goal.load_written-requires-clause-intact
load_written-requires-clause-intact c = c.in_ok-compiled.ensures.compiled.compiled.intact

pub load_written-requires-clause-layout : goal.load_written-requires-clause-layout
load_written-requires-clause-layout c = c.in_ok-compiled.ensures.compiled.compiled.layout

pub returns-in_err-load_written-clause-rejected : goal.returns-in_err-load_written-clause-rejected
returns-in_err-load_written-clause-rejected c =
    let p = err_from_is_err_and c.from_residual-in_err-load_written.result c.from_residual-in_err-load_written.ensures.1 in
    rw p.1 (inl p.2)

pub returns-in_err-load_written-clause-first : goal.returns-in_err-load_written-clause-first
returns-in_err-load_written-clause-first c = λ fault h.
    let compiled = c.in_ok-compiled.compiled in
    absurd (not_compiled c.args.sources.now compiled.image.items compiled.entries compiled.skipped fault c.in_ok-compiled.ensures.compiled h)

pub returns-clause-dict : goal.returns-clause-dict
returns-clause-dict c =
    let compiled = c.in_ok-compiled.compiled in
    subst (IsDictOf c.args.sources.now) (sym c.in_ok-load_written.ensures) (compiled.entries, compiled.skipped, c.in_ok-compiled.ensures.compiled)
