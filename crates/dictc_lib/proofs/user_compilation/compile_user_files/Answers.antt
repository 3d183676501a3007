use Rattle.std.proofs.Common.{Err, ap, inl, inr, subst}
use Rattle.dict_compile.specs.Results.{IsUserRejectedFor}
use Rattle.dict_compile.specs.declared.fault.CompileUserFault.{CompileUserFault}
use Rattle.dictc_lib.proofs.user_compilation.compile_user_files.Goals as goal

pub returns-in-Err-NotSystem-clause-rejected : goal.returns-in-Err-NotSystem-clause-rejected
returns-in-Err-NotSystem-clause-rejected c =
    inl (c.in-Err-NotSystem.ensures.not_system (ap Err c.in-Err-NotSystem.field-0-is), c.of_overlay-fault.ensures)

pub returns-in-Err-Source-clause-rejected : goal.returns-in-Err-Source-clause-rejected
returns-in-Err-Source-clause-rejected c =
    let e = c.in-Err-Source.ensures in
    let is = c.in-Err-Source.field-0-is in
    let fault = c.in-Err-Source.fault in
    inr (
      fault,
      (e.rejected fault (ap Err is), λ first found. subst (λ (reported : CompileUserFault). IsUserRejectedFor first (Err reported)) is (e.first first found)),
      c.rejection.ensures,
    )
