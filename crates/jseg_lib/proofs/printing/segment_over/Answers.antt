use Rattle.std.proofs.Common.{subst, sym}
use Rattle.line_stream.specs.Runs.{RunOutcome}
use Rattle.mj_model.specs.declared.limits.TheConstants.{READS_MAX}
use Rattle.word_lookup.specs.Overlays.{overlay_of}
use Rattle.jseg_lib.specs.Printing.{OutputLineResult}
use Rattle.jseg_lib.specs.declared.formatting.OutputForm.{OutputForm}
use Rattle.jseg_lib.proofs.printing.segment_over.Goals as goal

pub returns-in-Words-clause-run : goal.returns-in-Words-clause-run
returns-in-Words-clause-run g c =
    subst (λ (printed : OutputForm). RunOutcome (OutputLineResult printed (overlay_of c.args.dictionaries.now)) READS_MAX
    (g.R.TextIn.state c.args.reader.now) (g.R.TextIn.state c.segment.new.reader) (g.W.TextOut.state c.args.writer.now) (g.W.TextOut.state c.segment.new.writer) c.segment.result)
    (sym c.in-Words.is) c.segment.ensures.run

pub returns-in-View-clause-run : goal.returns-in-View-clause-run
returns-in-View-clause-run g c =
    subst (λ (printed : OutputForm). RunOutcome (OutputLineResult printed (overlay_of c.args.dictionaries.now)) READS_MAX
    (g.R.TextIn.state c.args.reader.now) (g.R.TextIn.state c.print_views.new.reader) (g.W.TextOut.state c.args.writer.now) (g.W.TextOut.state c.print_views.new.writer) c.print_views.result)
    (sym c.in-View.is) c.print_views.ensures.run
