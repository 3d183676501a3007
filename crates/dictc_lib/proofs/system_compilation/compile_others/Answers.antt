use Rattle.std.proofs.Common.{◌≡◌, ℕ, List, refl, ap, ◌∙◌, inl, inr}
use Rattle.std.proofs.lemmas.Result.{err_from_is_err_and}
use Rattle.std.specs.Borrow.{Bor}
use Rattle.dict_compile.specs.OtherSources.{sources_with}
use Rattle.dict_compile.specs.Outcomes.{IsCompilationError}
use Rattle.dict_compile.specs.Results.{lexicons_of}
use Rattle.dict_compile.specs.declared.other_sources.OtherSources.{OtherSources}
use Rattle.mj_model.specs.declared.source_fault.SourceFault.{SourceFault}
use Rattle.mj_model.specs.declared.sources.Sources.{Sources}
use Rattle.programs.specs.declared.source_files.SourceFiles.{SourceFiles}
use Rattle.dictc_lib.specs.CompiledFiles.{AreOfFiles, IsErrorOfFiles, IsFirstError}
use Rattle.dictc_lib.specs.SourceContents.{contents_of}
use Rattle.dictc_lib.proofs.system_compilation.compile_others.Goals as goal

error_of_files : (matrix : List ℕ) (files : SourceFiles) (sources : Sources) (fault : SourceFault)
    → AreOfFiles matrix files sources → IsCompilationError sources fault → IsFirstError sources fault → IsErrorOfFiles matrix files fault
error_of_files matrix files sources fault are (inl memory) first = inl memory
error_of_files matrix files sources fault are (inr cause) first = inr (sources, are, cause, first)

pub returns-in_err-compiled-clause-rejected : goal.returns-in_err-compiled-clause-rejected
returns-in_err-compiled-clause-rejected c = λ costs table.
    let p = err_from_is_err_and c.from_residual-in_err-compiled.result c.from_residual-in_err-compiled.ensures.1 in
    let shown : Bor (List ℕ) = record { ref_ptr = (0, 0); now = costs } in
    let others : OtherSources = record { chars = c.deref-2.result; unk = c.deref-3.result; lexicons = c.deref-4.result } in
    let sources = sources_with shown others in
    let lexicons : lexicons_of c.deref-4.result.now ≡ contents_of c.args.files.now.lexicons.items =
    ap lexicons_of c.deref-4.ensures.value ∙ c.in_ok-lexicons.ensures ∙ ap contents_of c.deref.ensures.value in
    let are : AreOfFiles costs c.args.files.now sources =
    record { matrix_is = refl; chars_are = c.deref-2.ensures.value; unk_is = c.deref-3.ensures.value; lexicons_are = lexicons } in
    let e = c.in_err-compiled.ensures in
    rw (p.1, p.2) (error_of_files costs c.args.files.now sources c.in_err-compiled.field-0.0 are (e.rejected shown table) (e.first shown table))

pub returns-clause-compiled : goal.returns-clause-compiled
returns-clause-compiled c = λ costs table.
    let shown : Bor (List ℕ) = record { ref_ptr = (0, 0); now = costs } in
    let others : OtherSources = record { chars = c.deref-2.result; unk = c.deref-3.result; lexicons = c.deref-4.result } in
    let sources = sources_with shown others in
    let lexicons : lexicons_of c.deref-4.result.now ≡ contents_of c.args.files.now.lexicons.items =
    ap lexicons_of c.deref-4.ensures.value ∙ c.in_ok-lexicons.ensures ∙ ap contents_of c.deref.ensures.value in
    let are : AreOfFiles costs c.args.files.now sources =
    record { matrix_is = refl; chars_are = c.deref-2.ensures.value; unk_is = c.deref-3.ensures.value; lexicons_are = lexicons } in
    (sources, are, c.in_ok-compiled.ensures.compiled shown table, c.in_ok-compiled.ensures.every_key shown table)
