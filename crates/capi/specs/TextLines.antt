-- Texts that a handle's segmenter segments line by line.
use Rattle.std.specs.Prelude.{◌≡◌, ◌≢◌, ℕ, List, length, Option, Some, None, option_map}
use Rattle.std.specs.Option.{IsSomeAnd}
use denote.RawPtr.{Ptr}
use Rattle.line_segmenter.specs.Segmenters.{SegmenterState, overlay_of_state}
use Rattle.line_segmenter.specs.TextLines.{ParsesLines, StopsFor}
use Rattle.mj_model.specs.Output.{text_lines}
use Rattle.out_format.specs.Segmentation.{IsSegmentation}
use Rattle.capi.specs.Handles.{Borrows, CallResult, segmenter_of, borrowed_at}
use Rattle.capi.specs.declared.fault.CallFault.{CallFault}
use Rattle.capi.specs.declared.fault.CallFault.TheVariants as call
use Rattle.capi.specs.declared.session.Session.{Session}
use Rattle.capi.specs.declared.queries.BytesForC.{BytesForC}

-- the handle's segmenter without a last line
abbrev pub clears : Option SegmenterState → Option SegmenterState
clears kept = option_map (λ (h : SegmenterState). record h { segmented = None }) kept

-- the outputs for the lines of a text: the borrowed output, and the number of lines or of the line
-- with an error
pub record LinesReport : Type 0 where
  pub borrowed : BytesForC
  pub lines : ℕ

-- the outputs by address, length and number
abbrev pub lines_report : Ptr → ℕ → ℕ → LinesReport
lines_report at count lines = record { borrowed = borrowed_at at count; lines = lines }

-- all lines printed, and C borrows their output
abbrev pub BorrowsLines : Option SegmenterState → Option Session → List ℕ → LinesReport → Type 0
BorrowsLines old new text reported = IsSomeAnd old (λ h. Borrows (λ _. ParsesLines h text reported.lines) reported.borrowed new)

-- the text has `lines` lines, all valid, and C borrows its segmentation by the handle's segmenter:
-- for each line the formatted words of its best path
pub record BorrowsSegmentation (old : Option SegmenterState) (new : Option Session) (text : List ℕ) (reported : LinesReport) : Type 0 where
  pub h : SegmenterState
  pub segmenter : old ≡ Some h
  pub counted : reported.lines ≡ length (text_lines text)
  pub segmented : Borrows (λ _. IsSegmentation (overlay_of_state h) h.format (text_lines text)) reported.borrowed new

-- why not all lines printed: the handle is empty and nothing is set, or the line with this number
-- has an error and C borrows the output of the lines before it
abbrev pub IsLinesError : Option SegmenterState → Option Session → List ℕ → LinesReport → LinesReport → CallFault → Type 0
IsLinesError None new text before reported fault = (fault ≡ call.EmptySegmenter) × (reported ≡ before)
IsLinesError (Some h) new text before reported (call.Segment fault) = Borrows (λ _. StopsFor h text reported.lines fault) reported.borrowed new
IsLinesError (Some h) new text before reported fault = ⊥

-- the result of segmenting lines: on 0 all printed, otherwise an error and its line; C borrows the
-- output, and the segmenter has no last line
pub record LinesResult (old new : Option Session) (text : List ℕ) (before reported : LinesReport) (code : ℕ) : Type 0 where
  pub printed : code ≡ 0 → BorrowsLines (segmenter_of old) new text reported
  pub rejected : code ≢ 0 → CallResult (IsLinesError (segmenter_of old) new text before reported) code
  pub segmenter : segmenter_of new ≡ clears (segmenter_of old)
