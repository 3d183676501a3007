use Rattle.std.proofs.Common.{List, [], ◌∷◌, ◌++◌, length, map, subst, sym, append_assoc}
use Rattle.std.proofs.lemmas.Result.{IfErr-weaker, IfOk-weaker, err_from_is_err_and}
use Rattle.mj_model.specs.Connection.{AreMatrixSizes}
use Rattle.mj_model.specs.FirstFault.{IsMemoryOr}
use Rattle.dict_compile.specs.Compilation.{IsUserCause, IsUserCompilation}
use Rattle.dict_compile.specs.UserImages.{IsUserImageOf, IsUserImageError}
use Rattle.dict_compile.specs.Steps.{AreEntrySteps}
use Rattle.dict_compile.specs.declared.watch.CompileStep.{CompileStep}
use Rattle.dict_compile.specs.declared.watch.CompileStep.TheVariants.{Sorted}
use Rattle.dict_compile.proofs.StepLemmas.{steps_sorted}
use Rattle.dict_compile.proofs.UserLemmas.{lexicons_rejected, user_compilation, user_error, user_rejected_for, user_reported_for}
use Rattle.dict_compile.proofs.user_compilation.compile_lexicons.Goals as goal

pub returns-in_err-read-clause-first : goal.returns-in_err-read-clause-first
returns-in_err-read-clause-first g c = λ system is fault h.
    let lexicons = map (λ lexicon. lexicon.now) c.args.lexicons.now in
    let p = err_from_is_err_and c.from_residual.result c.from_residual.ensures.1 in
    rw (p.1, p.2)
    (user_reported_for system lexicons fault c.in_err-read.field-0.0 h (lexicons_rejected c.args.sizes system is lexicons c.in_err-read.field-0.0 c.in_err-read.ensures.rejected))

pub returns-in_err-read-clause-rejected : goal.returns-in_err-read-clause-rejected
returns-in_err-read-clause-rejected g c = λ system is.
    let lexicons = map (λ lexicon. lexicon.now) c.args.lexicons.now in
    let p = err_from_is_err_and c.from_residual.result c.from_residual.ensures.1 in
    rw (p.1, p.2) (lexicons_rejected c.args.sizes system is lexicons c.in_err-read.field-0.0 c.in_err-read.ensures.rejected)

pub user_image-requires : goal.user_image-requires
user_image-requires g c = subst AreMatrixSizes (sym c.in_ok-read.ensures.sizes) c.requires

pub returns-clause-compiled : goal.returns-clause-compiled
returns-clause-compiled g c = λ system is.
    let lexicons = map (λ lexicon. lexicon.now) c.args.lexicons.now in
    let read = c.in_ok-read.read in
    IfOk-weaker c.user_image.result (IsUserImageOf read) (λ compiled. IsUserCompilation system lexicons compiled.image.items compiled.entries compiled.skipped)
    (λ compiled image. user_compilation c.args.sizes system is lexicons read c.in_ok-read.ensures.sizes c.in_ok-read.ensures.accepted compiled c.in_ok-read.ensures.skipped image)
    c.user_image.ensures.image

pub returns-clause-rejected : goal.returns-clause-rejected
returns-clause-rejected g c = λ system is.
    let lexicons = map (λ lexicon. lexicon.now) c.args.lexicons.now in
    let read = c.in_ok-read.read in
    IfErr-weaker c.user_image.result (IsUserImageError read) (λ fault. IsMemoryOr fault (IsUserCause system lexicons fault))
    (λ fault h. user_error c.args.sizes system is lexicons read c.in_ok-read.ensures.sizes c.in_ok-read.ensures.accepted fault h) c.user_image.ensures.rejected

pub returns-clause-first : goal.returns-clause-first
returns-clause-first g c = λ system is fault h.
    user_rejected_for c.args.sizes system is (map (λ lexicon. lexicon.now) c.args.lexicons.now) c.in_ok-read.read c.in_ok-read.ensures.sizes c.in_ok-read.ensures.accepted
    c.in_ok-read.ensures.skipped fault c.user_image.result h c.user_image.ensures.image c.user_image.ensures.rejected

pub returns-clause-steps : goal.returns-clause-steps
returns-clause-steps g c = λ before reported.
    let lexicons = map (λ lexicon. lexicon.now) c.args.lexicons.now in
    let rows = c.in_ok-read.read.lexicon.rows in
    let sorted : List CompileStep = Sorted (length rows) ∷ [] in
    let read = c.in_ok-read.ensures.steps before reported in
    let W = g.W.Watch.reported c.user_image.new.watch in
    IfOk-weaker c.user_image.result (λ _. W ((before ++ read.0) ++ sorted)) (λ _. (steps : List CompileStep) × AreEntrySteps c.args.sizes lexicons steps × W (before ++ steps))
    (λ _ all. (read.0 ++ sorted, steps_sorted c.args.sizes lexicons read.0 rows read.1 c.in_ok-read.ensures.accepted, subst W (append_assoc before read.0 sorted) all))
    (c.user_image.ensures.steps (before ++ read.0) read.2)
