-- The output of a text in the requested form: the dictionaries used, and what is printed for each
-- line.
use Rattle.std.specs.Prelude.{◌≡◌, ℕ, ◌+◌, List, [], Option, Result, IfSome, length, min, false}
use Rattle.std.specs.Io.KnownBytes.{Appends}
use Rattle.dict_compile.specs.SourceOverlays.{HaveOverlay}
use Rattle.line_stream.specs.Runs.{RunOutcome}
use Rattle.line_stream.specs.StreamState.{AllPrint}
use Rattle.line_stream.specs.declared.line_fault.LineFault.{LineFault}
use Rattle.mj_model.specs.Counts.{ReaderState, WriterState}
use Rattle.mj_model.specs.declared.limits.TheConstants.{GROUPING_MAX, READS_MAX}
use Rattle.mj_model.specs.declared.run_fault.RunFault.{RunFault}
use Rattle.mj_model.specs.declared.sources.Sources.{Sources}
use Rattle.mj_model.specs.Output.{text_lines}
use Rattle.mj_model.specs.Tables.{Overlay}
use Rattle.mj_model.specs.PathLaws.{CoversTexts}
use Rattle.word_lookup.specs.Overlays.{overlay_by_default}
use Rattle.out_format.specs.PrintedLines.{LineResult}
use Rattle.jseg_lib.specs.Views.{ViewLineResult}
use Rattle.jseg_lib.specs.declared.formatting.OutputForm.{OutputForm}
use Rattle.jseg_lib.specs.declared.formatting.OutputForm.TheVariants.{View, Words}

-- what is printed for a line: its words in a format, or a view
abbrev pub OutputLineResult : OutputForm → Overlay → List ℕ → Result (List ℕ) LineFault → Type 0
OutputLineResult (Words format) o = LineResult o format
OutputLineResult (View view) o = ViewLineResult view o

-- the requested grouping, limited to GROUPING_MAX
abbrev pub requested_grouping : ℕ → ℕ
requested_grouping grouping = min grouping GROUPING_MAX

-- a system dictionary and user dictionaries, with the requested grouping
abbrev pub requested_overlay : List ℕ → List (List ℕ) → ℕ → Overlay
requested_overlay system users grouping = record (overlay_by_default system users) { grouping = requested_grouping grouping }

-- a run with the dictionary of the sources, which covers every text, prints each line in the
-- requested form
pub record RunAsRequested (s : Sources) (grouping : ℕ) (printed : OutputForm) (from to : ReaderState) (before after : WriterState)
    (result : Result ℕ RunFault) : Type 0 where
  pub overlay : Overlay
  pub have : HaveOverlay s [] grouping overlay
  pub covered : CoversTexts overlay
  pub ran : RunOutcome (OutputLineResult printed overlay) READS_MAX from to before after result

-- all of a text, of `lines` lines, was printed in the requested form and then flushed once: the
-- output of each line with this overlay, one after another. `remaining` are the bytes of the
-- reader, if they are known
pub record IsPrintedOver (printed : OutputForm) (o : Overlay) (remaining : Option (List ℕ)) (before after : WriterState) (lines : ℕ) : Type 0 where
  pub text : List ℕ
  pub output : List ℕ
  pub whole : IfSome remaining (λ known. text ≡ known)
  pub counted : lines ≡ length (text_lines text)
  pub each_line : AllPrint (OutputLineResult printed o) 1 (text_lines text) output
  pub written : Appends before.held after.held output
  pub one_flush : after.flushes ≡ before.flushes + 1
  pub flushed : after.unflushed ≡ false

-- all of a text was printed with the dictionary that the sources define, without user dictionaries
abbrev pub IsPrintedBySources : Sources → ℕ → OutputForm → Option (List ℕ) → WriterState → WriterState → ℕ → Type 0
IsPrintedBySources sources grouping printed remaining before after lines =
    (o : Overlay) × HaveOverlay sources [] (requested_grouping grouping) o × IsPrintedOver printed o remaining before after lines
