-- How a run over a text ends if its dictionaries are compiled from sources.
use Rattle.std.specs.Prelude.{◌≡◌, ℕ, List, Result, Ok, Err}
use Rattle.mj_model.specs.Counts.{ReaderState, WriterState}
use Rattle.mj_model.specs.declared.limits.TheConstants.{READS_MAX}
use Rattle.mj_model.specs.declared.run_fault.RunFault.{RunFault}
use Rattle.mj_model.specs.declared.run_fault.RunFault.TheVariants as run
use Rattle.mj_model.specs.declared.sources.Sources.{Sources}
use Rattle.mj_model.specs.Tables.{Overlay}
use Rattle.dict_compile.specs.SourceOverlays.{HaveOverlay}
use Rattle.mj_model.specs.PathLaws.{CoversTexts}
use Rattle.out_format.specs.Formats.{Format}
use Rattle.line_stream.specs.Runs.{RunOutcome}
use Rattle.out_format.specs.PrintedLines.{LineResult}

-- a run with the dictionaries that sources and user lexicons define, which cover every text
pub record RunOverSources (s : Sources) (users : List (List (List ℕ))) (grouping : ℕ) (format : Format) (from to : ReaderState) (before after : WriterState)
    (result : Result ℕ RunFault) : Type 0 where
  pub overlay : Overlay
  pub have : HaveOverlay s users grouping overlay
  pub covered : CoversTexts overlay
  pub ran : RunOutcome (LineResult overlay format) READS_MAX from to before after result

-- the run ended before its first read: the sources or user lexicons are invalid, or memory ran out
abbrev pub EndedBeforeReading : Result ℕ RunFault → Type 0
EndedBeforeReading (Ok lines) = ⊥
EndedBeforeReading (Err (run.Source fault)) = Unit {0}
EndedBeforeReading (Err (run.UserSource i fault)) = Unit {0}
EndedBeforeReading (Err (run.Memory line)) = line ≡ 0
EndedBeforeReading (Err fault) = ⊥
