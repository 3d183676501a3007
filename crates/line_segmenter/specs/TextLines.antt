-- Texts that a segmenter segments line by line.
use Rattle.std.specs.Prelude.{◌≡◌, ℕ, List, ◌++◌, length, Result}
use Rattle.line_stream.specs.LinesInMemory.{PrintsLines, StopsAt}
use Rattle.line_stream.specs.declared.line_fault.LineFault.{LineFault}
use Rattle.line_stream.specs.declared.line_fault.LineFault.TheVariants.{TooLong, NotUtf8}
use Rattle.line_stream.specs.declared.line_fault.LineError.TheVariants as line
use Rattle.word_lookup.specs.Overlays.{overlay_of}
use Rattle.out_format.specs.PrintedLines.{LineResult}
use Rattle.out_format.specs.Segmentation.{IsSegmentation}
use Rattle.out_format.specs.declared.words_printer.printer.WordsPrinter.{WordsPrinter}
use Rattle.line_segmenter.specs.declared.fault.SegmentFault.{SegmentFault}
use Rattle.line_segmenter.specs.declared.fault.SegmentFault.TheVariants as segment
use Rattle.line_segmenter.specs.declared.text_lines.LinesFault.{LinesFault}
use Rattle.line_segmenter.specs.Segmenters.{SegmenterState, overlay_of_state}
use Rattle.mj_model.specs.Lists.{GrowsBy}
use Rattle.mj_model.specs.Output.{text_lines}

-- the output of a line with a segmenter's dictionaries and format, or the error of the line
abbrev pub SegmenterLineResult : SegmenterState → List ℕ → Result (List ℕ) LineFault → Type 0
SegmenterLineResult h = LineResult (overlay_of_state h) h.format

-- the output of a line from a printer, or the error of the line
abbrev pub LineResultBy : WordsPrinter → List ℕ → Result (List ℕ) LineFault → Type 0
LineResultBy printer = LineResult (overlay_of printer.dictionaries) printer.format.now

-- `shown` is the output of the lines of the text, and `lines` is their number
abbrev pub ParsesLines : SegmenterState → List ℕ → ℕ → List ℕ → Type 0
ParsesLines h text lines shown = PrintsLines (SegmenterLineResult h) text lines shown

-- the text has `lines` lines, all valid, and its segmentation was appended: for each line the
-- formatted words of its best path
pub record AppendsSegmentation (h : SegmenterState) (text old new : List ℕ) (lines : ℕ) : Type 0 where
  pub output : List ℕ
  pub counted : lines ≡ length (text_lines text)
  pub segmented : IsSegmentation (overlay_of_state h) h.format (text_lines text) output
  pub appended : new ≡ old ++ output

-- the output of the lines of the text is appended, and `lines` is their number
abbrev pub AppendsLines : SegmenterState → List ℕ → List ℕ → List ℕ → ℕ → Type 0
AppendsLines h text old new lines = GrowsBy (ParsesLines h text lines) old new

-- why printing stopped at the line with this number; `shown` is the output of the lines before it
abbrev pub StopsFor : SegmenterState → List ℕ → ℕ → SegmentFault → List ℕ → Type 0
StopsFor h text number segment.TooLong shown = StopsAt (SegmenterLineResult h) text number (line.Bad TooLong) shown
StopsFor h text number segment.NotUtf8 shown = StopsAt (SegmenterLineResult h) text number (line.Bad NotUtf8) shown
StopsFor h text number segment.Memory shown = StopsAt (SegmenterLineResult h) text number line.Memory shown
StopsFor h text number fault shown = ⊥

-- the output of the lines before the one at which printing stopped is appended
abbrev pub AppendsUpTo : SegmenterState → List ℕ → List ℕ → List ℕ → LinesFault → Type 0
AppendsUpTo h text old new stopped = GrowsBy (StopsFor h text stopped.line stopped.fault) old new
