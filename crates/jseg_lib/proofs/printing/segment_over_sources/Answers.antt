use Rattle.std.proofs.Common.{◌≡◌, ℕ, [], ◌⊎◌, inl, inr, subst, sym}
use Rattle.std.specs.Prelude.{Result}
use Rattle.line_stream.specs.Runs.{RunOutcome}
use Rattle.mj_model.specs.Counts.{ReaderState, WriterState}
use Rattle.mj_model.specs.declared.limits.TheConstants.{READS_MAX}
use Rattle.mj_model.specs.declared.run_fault.RunFault.{RunFault}
use Rattle.mj_model.specs.declared.sources.Sources.{Sources}
use Rattle.out_format.specs.Formats.{Format}
use Rattle.segmenter.specs.SourceRuns.{EndedBeforeReading, RunOverSources}
use Rattle.jseg_lib.specs.Printing.{OutputLineResult, RunAsRequested}
use Rattle.jseg_lib.specs.declared.formatting.OutputForm.{OutputForm}
use Rattle.jseg_lib.specs.declared.formatting.OutputForm.TheVariants.{Words}
use Rattle.jseg_lib.proofs.NoUsers.{of_nobody}
use Rattle.jseg_lib.proofs.printing.segment_over_sources.Goals as goal

words_run : (s : Sources) (grouping : ℕ) (format : Format) (form : OutputForm) (from to : ReaderState) (before after : WriterState) (result : Result ℕ RunFault)
    → form ≡ Words format → EndedBeforeReading result ⊎ RunOverSources s [] grouping format from to before after result
    → EndedBeforeReading result ⊎ RunAsRequested s grouping form from to before after result
words_run s grouping format form from to before after result is (inl early) = inl early
words_run s grouping format form from to before after result is (inr run) = inr (record {
  overlay = run.overlay;
  have = run.have;
  covered = run.covered;
  ran = subst (λ (f : OutputForm). RunOutcome (OutputLineResult f run.overlay) READS_MAX from to before after result) (sym is) run.ran;
})

pub returns-in-Words-clause-no_user : goal.returns-in-Words-clause-no_user
returns-in-Words-clause-no_user g c = λ i reported e. of_nobody c.args.sources.now i reported (c.run_sources.ensures.user_source i reported e)

pub returns-in-Words-clause-run : goal.returns-in-Words-clause-run
returns-in-Words-clause-run g c =
    let from = g.R.TextIn.state c.args.reader.now in
    let to = g.R.TextIn.state c.run_sources.new.reader in
    let before = g.W.TextOut.state c.args.writer.now in
    let after = g.W.TextOut.state c.run_sources.new.writer in
    subst (λ n. EndedBeforeReading c.run_sources.result ⊎ RunAsRequested c.args.sources.now n c.args.printed.now from to before after c.run_sources.result)
    c.min-grouping.ensures
    (words_run c.args.sources.now c.min-grouping.result c.in-Words.format c.args.printed.now from to before after c.run_sources.result c.in-Words.is c.run_sources.ensures.run)
