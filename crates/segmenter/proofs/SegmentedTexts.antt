-- A run that ends with Ok segmented its whole text.
use Rattle.std.proofs.Common.{ℕ, ◌+◌, ap, ◌∙◌, arith, inl, inr, lt-ltb}
use Rattle.std.specs.Prelude.{List, Result, Ok, Err, IfOk, nat_lt, ◌⊎◌}
use Rattle.mj_model.specs.Counts.{ReaderState, WriterState}
use Rattle.mj_model.specs.Output.{text_lines}
use Rattle.mj_model.specs.Tables.{Overlay}
use Rattle.mj_model.specs.declared.limits.TheConstants.{READS_MAX}
use Rattle.mj_model.specs.declared.run_fault.RunFault.{RunFault}
use Rattle.mj_model.specs.declared.sources.Sources.{Sources}
use Rattle.dict_compile.specs.SourceOverlays.{HaveOverlay}
use Rattle.line_stream.specs.Runs.{RunOutcome}
use Rattle.out_format.specs.Formats.{Format}
use Rattle.out_format.specs.PrintedLines.{LineResult}
use Rattle.out_format.proofs.SegmentationLemmas.{segmentation}
use Rattle.segmenter.specs.Segmentation.{WroteSegmentation}
use Rattle.segmenter.specs.SourceRuns.{EndedBeforeReading, RunOverSources}

pub segmented : (o : Overlay) (format : Format) (bound : ℕ) (from to : ReaderState) (before after : WriterState) (result : Result ℕ RunFault)
    → RunOutcome (LineResult o format) bound from to before after result → IfOk result (WroteSegmentation o format from to before after)
segmented o format bound from to before after (Err fault) ran = tt
segmented o format bound from to before after (Ok lines) ran =
    let done = ran.ends.0 in
    record {
      text = ran.bytes;
      output = ran.written;
      read = ran.read;
      whole = ran.to_the_end (ap (λ n. nat_lt from.ends n) done.ended ∙ lt-ltb from.ends (from.ends + 1) (omega arith));
      counted = done.counted;
      segmented = segmentation o format 1 (text_lines ran.bytes) ran.written done.printed;
      written = ran.wrote;
      one_flush = done.one_flush;
      flushed = done.flushed;
    }

pub segmented_by : (sources : Sources) (users : List (List (List ℕ))) (grouping : ℕ) (format : Format) (from to : ReaderState) (before after : WriterState) (result : Result ℕ RunFault)
    → EndedBeforeReading result ⊎ RunOverSources sources users grouping format from to before after result
    → IfOk result (λ lines. (o : Overlay) × HaveOverlay sources users grouping o × WroteSegmentation o format from to before after lines)
segmented_by sources users grouping format from to before after (Err fault) run = tt
segmented_by sources users grouping format from to before after (Ok lines) (inl early) = absurd early
segmented_by sources users grouping format from to before after (Ok lines) (inr run) =
    (run.overlay, run.have, segmented run.overlay format READS_MAX from to before after (Ok lines) run.ran)
