use Rattle.std.proofs.Common.{subst, sym}
use Rattle.std.specs.Prelude.{IfErr, IfOk}
use Rattle.command_lines.specs.declared.dictc.choices.Base.{Base}
use Rattle.dictc_lib.specs.RequestErrors.{IsErrorFrom}
use Rattle.dictc_lib.specs.RequestedImages.{IsImageFrom}
use Rattle.dictc_lib.proofs.compiling.compile_files.Goals as goal

pub returns-in-Definitions : goal.returns-in-Definitions
returns-in-Definitions g c =
    let F = g.F.FileAccess in
    let lexicons = c.args.options.now.lexicons.items in
    let all_faults = c.args.options.now.all_faults in
    let result = c.compile_definitions.result in
    let e = c.compile_definitions.ensures in
    let is = sym c.in-Definitions.is in
    record {
      compiled = subst (λ (base : Base). IfOk result (IsImageFrom F.reads_costs F.reads F.loads base lexicons)) is e.compiled;
      rejected = subst (λ (base : Base). IfErr result (IsErrorFrom F.reads_costs F.reads F.loads base lexicons all_faults)) is e.rejected;
    }

pub returns-in-System : goal.returns-in-System
returns-in-System g c =
    let F = g.F.FileAccess in
    let lexicons = c.args.options.now.lexicons.items in
    let all_faults = c.args.options.now.all_faults in
    let result = c.compile_for_system.result in
    let compiled = rw c.skipped_if-digest.ensures at c.compile_for_system.ensures.compiled in
    let rejected = rw c.skipped_if-digest.ensures at c.compile_for_system.ensures.rejected in
    let is = sym c.in-System.is in
    record {
      compiled = subst (λ (base : Base). IfOk result (IsImageFrom F.reads_costs F.reads F.loads base lexicons)) is compiled;
      rejected = subst (λ (base : Base). IfErr result (IsErrorFrom F.reads_costs F.reads F.loads base lexicons all_faults)) is rejected;
    }
