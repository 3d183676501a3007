use Rattle.std.proofs.Common.{List, [], ◌∷◌, ◌++◌, length, subst, append_assoc}
use Rattle.std.proofs.lemmas.Result.{IfErr-weaker, IfOk-weaker, err_from_is_err_and}
use Rattle.image_format.specs.ImageMeaning.{image_tables}
use Rattle.mj_model.specs.FirstFault.{IsMemoryOr}
use Rattle.dict_compile.specs.Compilation.{IsCompilation, IsCompilationCause}
use Rattle.dict_compile.specs.EveryKey.{FindsKeysOfSources}
use Rattle.dict_compile.specs.Images.{IsImageOf, IsImageError}
use Rattle.dict_compile.specs.OtherSources.{sources_with}
use Rattle.dict_compile.specs.Steps.{AreSteps}
use Rattle.dict_compile.specs.declared.watch.CompileStep.{CompileStep}
use Rattle.dict_compile.specs.declared.watch.CompileStep.TheVariants.{Sorted}
use Rattle.dict_compile.proofs.StepLemmas.{all_steps}
use Rattle.dict_compile.proofs.CompilationLemmas.{is_compilation, compile_error, source_rejected}
use Rattle.dict_compile.proofs.EveryKey.{keys_of_sources}
use Rattle.dict_compile.proofs.FirstFaults.{rejected_for, reported_for}
use Rattle.dict_compile.proofs.other_sources.compile_others_watched.Goals as goal

pub returns-in_err-parts-clause-first : goal.returns-in_err-parts-clause-first
returns-in_err-parts-clause-first g c = λ costs table fault h.
    let p = err_from_is_err_and c.from_residual.result c.from_residual.ensures.1 in
    rw (p.1, p.2)
    (reported_for (sources_with costs c.args.others.now) fault c.in_err-parts.field-0.0 h (source_rejected (sources_with costs c.args.others.now) c.in_err-parts.field-0.0 (c.in_err-parts.ensures.rejected costs table)))

pub returns-in_err-parts-clause-rejected : goal.returns-in_err-parts-clause-rejected
returns-in_err-parts-clause-rejected g c = λ costs table.
    let p = err_from_is_err_and c.from_residual.result c.from_residual.ensures.1 in
    rw (p.1, p.2) (source_rejected (sources_with costs c.args.others.now) c.in_err-parts.field-0.0 (c.in_err-parts.ensures.rejected costs table))

pub returns-clause-compiled : goal.returns-clause-compiled
returns-clause-compiled g c = λ costs table.
    let s = sources_with costs c.args.others.now in
    let parts = c.in_ok-parts.parts in
    IfOk-weaker c.system_image.result (IsImageOf parts) (λ compiled. IsCompilation s compiled.image.items compiled.entries compiled.skipped)
    (λ compiled image. is_compilation s parts compiled (c.in_ok-parts.ensures.accepted costs table) c.in_ok-parts.ensures.fitting image) c.system_image.ensures.image

pub returns-clause-every_key : goal.returns-clause-every_key
returns-clause-every_key g c = λ costs table.
    let s = sources_with costs c.args.others.now in
    let parts = c.in_ok-parts.parts in
    IfOk-weaker c.system_image.result (IsImageOf parts) (λ compiled. FindsKeysOfSources s (image_tables compiled.image.items))
    (λ compiled image. keys_of_sources s (image_tables compiled.image.items) (is_compilation s parts compiled (c.in_ok-parts.ensures.accepted costs table) c.in_ok-parts.ensures.fitting image).have)
    c.system_image.ensures.image

pub returns-clause-rejected : goal.returns-clause-rejected
returns-clause-rejected g c = λ costs table.
    let s = sources_with costs c.args.others.now in
    let parts = c.in_ok-parts.parts in
    IfErr-weaker c.system_image.result (IsImageError parts) (λ fault. IsMemoryOr fault (IsCompilationCause s fault))
    (λ fault h. compile_error s parts fault (c.in_ok-parts.ensures.accepted costs table) c.in_ok-parts.ensures.fitting h) c.system_image.ensures.rejected

pub returns-clause-first : goal.returns-clause-first
returns-clause-first g c = λ costs table fault h.
    rejected_for (sources_with costs c.args.others.now) c.in_ok-parts.parts fault c.system_image.result (c.in_ok-parts.ensures.accepted costs table) c.in_ok-parts.ensures.fitting h
    c.system_image.ensures.image c.system_image.ensures.rejected

pub returns-clause-steps : goal.returns-clause-steps
returns-clause-steps g c = λ costs table before reported.
    let s = sources_with costs c.args.others.now in
    let parts = c.in_ok-parts.parts in
    let sorted : List CompileStep = Sorted (length parts.lexicon.rows) ∷ [] in
    let read = c.in_ok-parts.ensures.steps before reported in
    let W = g.W.Watch.reported c.system_image.new.watch in
    IfOk-weaker c.system_image.result (λ _. W ((before ++ read.0) ++ sorted)) (λ _. (steps : List CompileStep) × AreSteps s steps × W (before ++ steps))
    (λ _ all. (read.0 ++ sorted, all_steps s parts read.0 (c.in_ok-parts.ensures.accepted costs table) read.1, subst W (append_assoc before read.0 sorted) all))
    (c.system_image.ensures.steps (before ++ read.0) read.2)
