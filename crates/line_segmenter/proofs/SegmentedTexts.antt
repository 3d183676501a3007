-- A text whose lines all print has a segmentation.
use Rattle.std.proofs.Common.{ℕ}
use Rattle.std.specs.Prelude.{List, Result, Ok, Err, IfOk}
use Rattle.mj_model.specs.Output.{text_lines}
use Rattle.out_format.specs.Segmentation.{IsSegmentation}
use Rattle.out_format.proofs.SegmentationLemmas.{segmentation}
use Rattle.line_segmenter.specs.Segmenters.{SegmenterState, overlay_of_state}
use Rattle.line_segmenter.specs.TextLines.{AppendsLines, AppendsSegmentation, ParsesLines}

pub segmented_text : (h : SegmenterState) (text : List ℕ) (lines : ℕ) (output : List ℕ)
    → ParsesLines h text lines output → IsSegmentation (overlay_of_state h) h.format (text_lines text) output
segmented_text h text lines output parsed = segmentation (overlay_of_state h) h.format 1 (text_lines text) output parsed.printed

pub segmented_if_ok : {E : Type 0} (h : SegmenterState) (text old new : List ℕ) (result : Result ℕ E)
    → IfOk result (AppendsLines h text old new) → IfOk result (AppendsSegmentation h text old new)
segmented_if_ok h text old new (Ok lines) (output, parsed, appended) =
    record { output = output; counted = parsed.counted; segmented = segmented_text h text lines output parsed; appended = appended }
segmented_if_ok h text old new (Err stopped) appended = tt
