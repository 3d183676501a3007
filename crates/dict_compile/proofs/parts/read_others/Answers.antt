use Rattle.std.proofs.Common.{ℕ, [], ◌∷◌, ◌++◌, ap, ◌∙◌, subst}
use Rattle.std.proofs.lemmas.Result.{err_from_is_err_and}
use Rattle.std.specs.Prelude.{Ok}
use Rattle.dict_compile.specs.OtherSources.{sources_with}
use Rattle.mj_model.specs.declared.matrix_sizes.MatrixSizes.{MatrixSizes}
use Rattle.dict_compile.specs.Results.{lexicons_of}
use Rattle.dict_compile.specs.Steps.{AreLexiconSteps, steps_before}
use Rattle.dict_compile.specs.declared.watch.CompileStep.TheVariants.{MatrixRead, CategoriesRead, UnknownRead}
use Rattle.dict_compile.proofs.StepLemmas.{after_three}
use Rattle.dict_compile.proofs.SourceLemmas.{chars_at_fault, unknown_at_fault, unknown_read, lexicons_at_fault, rows_read}
use Rattle.dict_compile.proofs.parts.read_others.Goals as goal

pub returns-in_err-chars-clause-rejected : goal.returns-in_err-chars-clause-rejected
returns-in_err-chars-clause-rejected g c = λ costs table.
    let p = err_from_is_err_and c.from_residual.result c.from_residual.ensures.1 in
    rw (p.1, p.2)
    (chars_at_fault (sources_with costs c.args.others.now) c.args.matrix (c.sizes-sizes.result) c.sizes-sizes.ensures.sizes
    table c.in_err-chars.field-0.0 c.in_err-chars.ensures.rejected)

pub returns-in_err-unknown-clause-rejected : goal.returns-in_err-unknown-clause-rejected
returns-in_err-unknown-clause-rejected g c = λ costs table.
    let p = err_from_is_err_and c.from_residual-in_err-unknown.result c.from_residual-in_err-unknown.ensures.1 in
    rw (p.1, p.2)
    (unknown_at_fault (sources_with costs c.args.others.now) c.args.matrix (c.sizes-sizes.result) c.sizes-sizes.ensures.sizes
    table c.in_ok-chars.chars c.in_ok-chars.ensures.accepted c.in_err-unknown.field-0.0 c.in_err-unknown.ensures.rejected)

pub returns-in_err-lexicons-clause-rejected : goal.returns-in_err-lexicons-clause-rejected
returns-in_err-lexicons-clause-rejected g c = λ costs table.
    let p = err_from_is_err_and c.from_residual-in_err-lexicons.result c.from_residual-in_err-lexicons.ensures.1 in
    rw (p.1, p.2)
    (lexicons_at_fault (sources_with costs c.args.others.now) c.args.matrix (c.sizes-sizes.result) c.sizes-sizes.ensures.sizes
    table c.in_ok-chars.chars c.in_ok-chars.ensures.accepted c.in_ok-unknown.unknown c.in_ok-unknown.ensures.accepted
    c.in_err-lexicons.field-0.0 c.in_err-lexicons.ensures.rejected)

pub returns-clause-accepted : goal.returns-clause-accepted
returns-clause-accepted g c = λ costs table.
    let s = (sources_with costs c.args.others.now) in
    let m = c.args.matrix in
    let sizes = c.sizes-sizes.result in
    let chars = c.in_ok-chars.ensures.accepted in
    record {
      connection = table.0;
      is_connection = table.1;
      matrix = table.2;
      chars = chars.0;
      are_chars = chars.1;
      table = chars.2;
      unknown = unknown_read s m sizes c.sizes-sizes.ensures.sizes table c.in_ok-chars.chars chars (Ok c.in_ok-unknown.unknown) c.in_ok-unknown.ensures.accepted;
      rows = rows_read s m sizes c.sizes-sizes.ensures.sizes table (Ok c.in_ok-lexicons.lexicons.lexicon.rows) c.in_ok-lexicons.ensures.accepted;
      skipped = c.in_ok-lexicons.ensures.skipped;
    }

pub returns-clause-steps : goal.returns-clause-steps
returns-clause-steps g c = λ before reported.
    let sizes = c.sizes-sizes.result in
    let count = c.count.result in
    let first = c.done.ensures before reported in
    let second = c.done-2.ensures (before ++ MatrixRead sizes ∷ []) first in
    let third = c.done-3.ensures ((before ++ MatrixRead sizes ∷ []) ++ CategoriesRead count ∷ []) second in
    let rest = c.in_ok-lexicons.ensures.steps (((before ++ MatrixRead sizes ∷ []) ++ CategoriesRead count ∷ []) ++ UnknownRead ∷ []) third in (
      MatrixRead sizes ∷ CategoriesRead count ∷ UnknownRead ∷ rest.0,
      record {
        reading = rest.0;
        are_reading = subst (λ (s : MatrixSizes). AreLexiconSteps s (lexicons_of c.args.others.now.lexicons.now) rest.0) c.sizes-sizes.ensures.sizes rest.1;
        all =
            ap (λ (s : MatrixSizes). steps_before s count ++ rest.0) c.sizes-sizes.ensures.sizes
            ∙ ap (λ (n : ℕ). steps_before c.args.matrix.sizes n ++ rest.0) c.count.ensures.count;
      },
      subst (g.W.Watch.reported c.read_lexicons.new.watch) (after_three before (MatrixRead sizes) (CategoriesRead count) UnknownRead rest.0) rest.2,
    )
