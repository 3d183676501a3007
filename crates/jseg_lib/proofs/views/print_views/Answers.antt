use Rattle.std.proofs.lemmas.Result.{err_from_is_err_and}
use Rattle.mj_model.specs.declared.limits.TheConstants.{READS_MAX}
use Rattle.mj_model.proofs.CoveredTexts.{is_covered}
use Rattle.word_lookup.specs.Overlays.{overlay_of}
use Rattle.word_lookup.proofs.DictionaryLaws.{covers_all, has_words}
use Rattle.line_stream.proofs.BadLines.{not_good}
use Rattle.line_stream.proofs.GoodRuns.{good_run}
use Rattle.lattice_view.specs.LatticePrinter.PrintedLattices.{LatticeLineResult}
use Rattle.lattice_view.specs.WhyPrinter.PrintedWhy.{WhyLineResult}
use Rattle.jseg_lib.proofs.views.print_views.Goals as goal

pub returns-in_err-run_over-in-Lattice-clause-covered : goal.returns-in_err-run_over-in-Lattice-clause-covered
returns-in_err-run_over-in-Lattice-clause-covered g c = is_covered (overlay_of c.args.dictionaries.now) (has_words c.args.dictionaries.now) (covers_all c.args.dictionaries.now)

pub returns-in_err-run_over-in-Lattice-clause-words : goal.returns-in_err-run_over-in-Lattice-clause-words
returns-in_err-run_over-in-Lattice-clause-words g c = has_words c.args.dictionaries.now

pub returns-in_err-run_over-in-Lattice-clause-succeeds : goal.returns-in_err-run_over-in-Lattice-clause-succeeds
returns-in_err-run_over-in-Lattice-clause-succeeds g c = λ good.
    let p = err_from_is_err_and c.from_residual.result c.from_residual.ensures.1 in
    rw (p.1, p.2) (good_run (LatticeLineResult c.in-Lattice.format (overlay_of c.args.dictionaries.now)) not_good (λ line long. long) READS_MAX _ _ _ _ c.in_err-run_over-in-Lattice.field-0.0 c.in_err-run_over-in-Lattice.ensures.run good)

pub returns-in_err-run_over-in-Why-clause-covered : goal.returns-in_err-run_over-in-Why-clause-covered
returns-in_err-run_over-in-Why-clause-covered g c = is_covered (overlay_of c.args.dictionaries.now) (has_words c.args.dictionaries.now) (covers_all c.args.dictionaries.now)

pub returns-in_err-run_over-in-Why-clause-words : goal.returns-in_err-run_over-in-Why-clause-words
returns-in_err-run_over-in-Why-clause-words g c = has_words c.args.dictionaries.now

pub returns-in_err-run_over-in-Why-clause-succeeds : goal.returns-in_err-run_over-in-Why-clause-succeeds
returns-in_err-run_over-in-Why-clause-succeeds g c = λ good.
    let p = err_from_is_err_and c.from_residual-in_err-run_over-in-Why.result c.from_residual-in_err-run_over-in-Why.ensures.1 in
    rw (p.1, p.2) (good_run (WhyLineResult (overlay_of c.args.dictionaries.now)) not_good (λ line long. long) READS_MAX _ _ _ _ c.in_err-run_over-in-Why.field-0.0 c.in_err-run_over-in-Why.ensures.run good)

pub returns-in_ok-run_over-in-Lattice-clause-covered : goal.returns-in_ok-run_over-in-Lattice-clause-covered
returns-in_ok-run_over-in-Lattice-clause-covered g c = is_covered (overlay_of c.args.dictionaries.now) (has_words c.args.dictionaries.now) (covers_all c.args.dictionaries.now)

pub returns-in_ok-run_over-in-Lattice-clause-words : goal.returns-in_ok-run_over-in-Lattice-clause-words
returns-in_ok-run_over-in-Lattice-clause-words g c = has_words c.args.dictionaries.now

pub returns-in_ok-run_over-in-Why-clause-covered : goal.returns-in_ok-run_over-in-Why-clause-covered
returns-in_ok-run_over-in-Why-clause-covered g c = is_covered (overlay_of c.args.dictionaries.now) (has_words c.args.dictionaries.now) (covers_all c.args.dictionaries.now)

pub returns-in_ok-run_over-in-Why-clause-words : goal.returns-in_ok-run_over-in-Why-clause-words
returns-in_ok-run_over-in-Why-clause-words g c = has_words c.args.dictionaries.now
