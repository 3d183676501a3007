use Rattle.std.proofs.Common.{ℕ, List, inl, inr, Some}
use Rattle.std.proofs.lemmas.Result.{IfErr-weaker}
use Rattle.std.specs.Borrow.{Bor}
use Rattle.std.specs.Prelude.{Option}
use Rattle.dictc_lib.specs.Rejections.{IsErrorAt, IsRejectionOfFiles, IsRejectionOfSources}
use Rattle.dictc_lib.proofs.system_compilation.compile_sources.Goals as goal

pub returns-in-Ok-clause-compiled : goal.returns-in-Ok-clause-compiled
returns-in-Ok-clause-compiled c = λ matrix read. c.compile_with_costs.ensures.compiled matrix (c.in-Ok.ensures.accepted matrix read)

pub returns-in-Ok-clause-rejected : goal.returns-in-Ok-clause-rejected
returns-in-Ok-clause-rejected c = λ matrix read.
    let files = c.args.files.now in
    IfErr-weaker c.compile_with_costs.result (IsRejectionOfFiles matrix files c.args.all_faults) (IsRejectionOfSources matrix files c.args.all_faults)
    (λ error is. inr is) (c.compile_with_costs.ensures.rejected matrix (c.in-Ok.ensures.accepted matrix read))

pub returns-in-Err-clause-rejected : goal.returns-in-Err-clause-rejected
returns-in-Err-clause-rejected c = λ matrix read.
    let path : Option (Bor (List ℕ)) = Some c.as_str.result in
    let at : IsErrorAt path c.in-Err.fault c.of_source.result = record { with_path = c.of_source.ensures.source; without_path = c.of_source.ensures.together } in
    inl (c.in-Err.fault, c.in-Err.ensures.rejected matrix read, path, c.as_str.ensures.value, at)
