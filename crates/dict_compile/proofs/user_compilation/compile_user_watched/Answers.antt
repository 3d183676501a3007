use Rattle.std.proofs.Common.{◌∙◌, Err, ap, refl, sym, subst, map}
use Rattle.std.proofs.lemmas.Result.{err_from_is_err_and}
use Rattle.mj_model.specs.declared.matrix_sizes.MatrixSizes.{MatrixSizes}
use Rattle.dict_compile.specs.Steps.{AreEntrySteps}
use Rattle.dict_compile.specs.Compilation.{IsUserCause}
use Rattle.mj_model.specs.FirstFault.{IsMemoryOr}
use Rattle.dict_compile.proofs.EveryKey.{keys_of_lexicons}
use Rattle.dict_compile.proofs.UserLemmas.{is_system_of, same_reported}
use Rattle.image_format.specs.ImageMeaning.{image_tables}
use Rattle.dict_compile.proofs.KindLemmas.{a_user, not_both}
use Rattle.dict_compile.proofs.user_compilation.compile_user_watched.Goals as goal

pub returns-then-is_user-clause-not_system : goal.returns-then-is_user-clause-not_system
returns-then-is_user-clause-not_system g c = (λ h. a_user (image_tables c.args.system.now).kind (sym c.if-is_user.ensures.kind), λ h. refl)

pub returns-then-is_user-clause-first : goal.returns-then-is_user-clause-first
returns-then-is_user-clause-first g c = λ fault h. not_both (image_tables c.args.system.now).kind (a_user (image_tables c.args.system.now).kind (sym c.if-is_user.ensures.kind)) h.0

pub returns-clause-compiled : goal.returns-clause-compiled
returns-clause-compiled g c =
    let system = image_tables c.args.system.now in
    c.in_ok-compile_lexicons.ensures.compiled system
    (is_system_of system c.matrix_sizes-sizes.result c.if-is_user.ensures.kind c.matrix_sizes-sizes.ensures.sizes)

pub returns-clause-every_key : goal.returns-clause-every_key
returns-clause-every_key g c =
    let system = image_tables c.args.system.now in
    keys_of_lexicons system.sizes (map (λ lexicon. lexicon.now) c.args.lexicons.now) (image_tables c.in_ok-compile_lexicons.field-0.image.items)
    (c.in_ok-compile_lexicons.ensures.compiled system
    (is_system_of system c.matrix_sizes-sizes.result c.if-is_user.ensures.kind c.matrix_sizes-sizes.ensures.sizes)).have

pub returns-clause-first : goal.returns-clause-first
returns-clause-first g c =
    let system = image_tables c.args.system.now in
    c.in_ok-compile_lexicons.ensures.first system
    (is_system_of system c.matrix_sizes-sizes.result c.if-is_user.ensures.kind c.matrix_sizes-sizes.ensures.sizes)

pub returns-in_err-compile_lexicons-clause-rejected : goal.returns-in_err-compile_lexicons-clause-rejected
returns-in_err-compile_lexicons-clause-rejected g c = λ fault e.
    let system = image_tables c.args.system.now in
    let p = err_from_is_err_and c.from_residual.result c.from_residual.ensures.1 in
    subst (λ reported. IsMemoryOr reported (IsUserCause system (map (λ lexicon. lexicon.now) c.args.lexicons.now) reported)) (same_reported (sym (p.1 ∙ ap Err p.2) ∙ e))
    (c.in_err-compile_lexicons.ensures.rejected system
    (is_system_of system c.matrix_sizes-sizes.result c.if-is_user.ensures.kind c.matrix_sizes-sizes.ensures.sizes))

pub returns-in_err-compile_lexicons-clause-first : goal.returns-in_err-compile_lexicons-clause-first
returns-in_err-compile_lexicons-clause-first g c =
    let system = image_tables c.args.system.now in
    let p = err_from_is_err_and c.from_residual.result c.from_residual.ensures.1 in
    rw (p.1, p.2)
    (c.in_err-compile_lexicons.ensures.first system
    (is_system_of system c.matrix_sizes-sizes.result c.if-is_user.ensures.kind c.matrix_sizes-sizes.ensures.sizes))

pub returns-clause-steps : goal.returns-clause-steps
returns-clause-steps g c = λ before reported.
    let system = image_tables c.args.system.now in
    let lexicons = map (λ lexicon. lexicon.now) c.args.lexicons.now in
    let read = c.in_ok-compile_lexicons.ensures.steps before reported in
    (read.0, subst (λ (sizes : MatrixSizes). AreEntrySteps sizes lexicons read.0) c.matrix_sizes-sizes.ensures.sizes read.1, read.2)
