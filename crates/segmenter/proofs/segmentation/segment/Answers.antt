use Rattle.std.proofs.lemmas.Result.{err_from_is_err_and}
use Rattle.std.specs.Prelude.{Ok}
use Rattle.mj_model.proofs.CoveredTexts.{is_covered}
use Rattle.word_lookup.specs.Overlays.{overlay_of}
use Rattle.word_lookup.proofs.DictionaryLaws.{covers_all, has_words}
use Rattle.mj_model.specs.declared.limits.TheConstants.{READS_MAX}
use Rattle.line_stream.proofs.GoodRuns.{good_run}
use Rattle.out_format.specs.PrintedLines.{LineResult}
use Rattle.line_stream.proofs.BadLines.{not_good}
use Rattle.segmenter.proofs.SegmentedTexts.{segmented}
use Rattle.segmenter.proofs.segmentation.segment.Goals as goal

pub returns-in_err-run_over-clause-covered : goal.returns-in_err-run_over-clause-covered
returns-in_err-run_over-clause-covered g c = is_covered (overlay_of c.args.dictionaries.now) (has_words c.args.dictionaries.now) (covers_all c.args.dictionaries.now)

pub returns-in_err-run_over-clause-succeeds : goal.returns-in_err-run_over-clause-succeeds
returns-in_err-run_over-clause-succeeds g c = λ good.
    let o = overlay_of c.args.dictionaries.now in let f = c.args.format.now in
    let p = err_from_is_err_and c.from_residual.result c.from_residual.ensures.1 in
    rw (p.1, p.2) (good_run (LineResult o f) not_good (λ line long. long) READS_MAX _ _ _ _ c.in_err-run_over.field-0.0 c.in_err-run_over.ensures.run good)

pub returns-clause-covered : goal.returns-clause-covered
returns-clause-covered g c = is_covered (overlay_of c.args.dictionaries.now) (has_words c.args.dictionaries.now) (covers_all c.args.dictionaries.now)

pub returns-clause-ok : goal.returns-clause-ok
returns-clause-ok g c = segmented (overlay_of c.args.dictionaries.now) c.args.format.now READS_MAX _ _ _ _ (Ok c.in_ok-run_over.field-0) c.in_ok-run_over.ensures.run
