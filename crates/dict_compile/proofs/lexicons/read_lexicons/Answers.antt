use Rattle.std.proofs.Common.{◌∙◌, ap, subst, sym, ℕ, ◌+◌, List, [], ◌∷◌, ◌++◌, arith, append_assoc}
use Rattle.std.proofs.lemmas.List.{append-nil}
use Rattle.mj_model.specs.Dictionary.{AreLexicons}
use Rattle.mj_model.specs.Lexicon.{SkipLines, Row}
use Rattle.lex_source.specs.Lexicons.{LexiconRows}
use Rattle.mj_model.specs.declared.matrix_sizes.MatrixSizes.{MatrixSizes}
use Rattle.std.proofs.lemmas.Result.{err_from_is_err_and}
use Rattle.dict_compile.specs.Steps.{AreLexiconSteps}
use Rattle.dict_compile.specs.declared.watch.CompileStep.{CompileStep}
use Rattle.dict_compile.specs.declared.watch.CompileStep.TheVariants.{LexiconRead}
use Rattle.dict_compile.proofs.LexiconLemmas.{all_before, lexicons_more, lexicons_fault, lexicons_end, steps_more, added_skips, skips_end}
use Rattle.dict_compile.proofs.SkipLemmas.{bytes_before, skips_none}
use Rattle.dict_compile.proofs.StepLemmas.{steps_none}
use Rattle.dict_compile.proofs.lexicons.read_lexicons.Goals as goal

pub loop-bytes-init : goal.loop-bytes-init
loop-bytes-init g c = (
  ap (λ (l : LexiconRows). l.sizes) c.new-lexicon.ensures,
  λ more read h. subst (λ (rows : List Row). AreLexicons c.args.sizes 3 rows more read) (ap (λ (l : LexiconRows). l.rows) c.new-lexicon.ensures) h,
  skips_none,
  omega arith,
  λ before reported. ([], steps_none c.args.sizes, subst (g.W.Watch.reported c.args.watch.now) (sym (append-nil before)) reported),
)

pub loop-bytes-preserved : goal.loop-bytes-preserved
loop-bytes-preserved g c =
    let adds = c.in_ok-more.ensures.added in
    let sizes : MatrixSizes = c.args.sizes in
    let lexicons = c.args.lexicons.now in
    let i = c.loop-bytes.bytes-index in
    let step : CompileStep = LexiconRead c.len.result in (
      adds.sizes ∙ c.loop-bytes.invariant.0,
      lexicons_more sizes c.loop-bytes.file lexicons i _ c.loop-bytes-test.true c.loop-bytes.lexicon
          c.loop-bytes.invariant.0 c.loop-bytes.invariant.1 c.add.new.self _ c.file_after-file.result c.file_after-file.ensures adds,
      subst (SkipLines (bytes_before lexicons (i + 1))) (sym c.with_more-skipped.ensures.sum) (added_skips c.loop-bytes.file lexicons i _ c.loop-bytes-test.true c.loop-bytes.lexicon c.add.new.self
          c.loop-bytes.skipped _ c.loop-bytes.invariant.2 adds),
      omega (arith, c.loop-bytes.invariant.3, c.with_more-skipped.ensures.bound),
      λ before reported.
          let was = c.loop-bytes.invariant.4 before reported in (
            was.0 ++ step ∷ [],
            subst (λ (n : ℕ). AreLexiconSteps sizes (bytes_before lexicons (i + 1)) (was.0 ++ LexiconRead n ∷ [])) (sym c.len.ensures)
                (steps_more sizes c.loop-bytes.file lexicons i _ c.loop-bytes-test.true c.loop-bytes.lexicon
                c.loop-bytes.invariant.0 c.loop-bytes.invariant.1 c.add.new.self _ c.file_after-file.result c.file_after-file.ensures adds was.0 was.1),
            subst (g.W.Watch.reported c.done.new.self) (append_assoc before was.0 (step ∷ [])) (c.done.ensures (before ++ was.0) was.2),
          ),
    )

pub returns-in_err-more-clause-rejected : goal.returns-in_err-more-clause-rejected
returns-in_err-more-clause-rejected g c =
    let p = err_from_is_err_and c.from_residual.result c.from_residual.ensures.1 in
    rw (p.1, p.2)
    (lexicons_fault c.args.sizes c.loop-bytes.file c.args.lexicons.now c.loop-bytes.bytes-index _ c.loop-bytes-test.true c.loop-bytes.lexicon
    c.loop-bytes.invariant.0 c.loop-bytes.invariant.1 c.in_err-more.field-0.0 c.in_err-more.ensures.rejected)

pub returns-clause-accepted : goal.returns-clause-accepted
returns-clause-accepted g c =
    lexicons_end c.args.sizes c.loop-bytes.file c.args.lexicons.now c.loop-bytes.bytes-index c.loop-bytes.lexicon.rows
    c.loop-bytes-test.false c.loop-bytes.invariant.1

pub returns-clause-skipped : goal.returns-clause-skipped
returns-clause-skipped g c = skips_end c.args.lexicons.now c.loop-bytes.bytes-index c.loop-bytes.skipped c.loop-bytes-test.false c.loop-bytes.invariant.2

pub returns-clause-steps : goal.returns-clause-steps
returns-clause-steps g c = λ before reported.
    let was = c.loop-bytes.invariant.4 before reported in (
      was.0,
      subst (λ ls. AreLexiconSteps c.args.sizes ls was.0) (all_before c.args.lexicons.now c.loop-bytes.bytes-index c.loop-bytes-test.false) was.1,
      was.2,
    )
