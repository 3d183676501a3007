-- Lines that all print have a segmentation.
use Rattle.std.proofs.Common.{◌≡◌, ℕ, ◌+◌, inl, inr}
use Rattle.std.specs.Prelude.{List, [], ◌∷◌, Option, Some, None}
use Rattle.mj_model.specs.Output.{BadLine}
use Rattle.mj_model.specs.Tables.{Overlay}
use Rattle.line_stream.specs.declared.line_fault.LineFault.{LineFault}
use Rattle.line_stream.specs.StreamState.{AllPrint}
use Rattle.out_format.specs.Formats.{Format}
use Rattle.out_format.specs.PrintedLines.{LineResult}
use Rattle.out_format.specs.Segmentation.{IsSegmentation}

no_bad_line : (bad : BadLine LineFault) → ◌≡◌ {A = Option (BadLine LineFault)} None (Some bad) → ⊥
no_bad_line bad clash = cc

pub segmentation : (o : Overlay) (format : Format) (number : ℕ) (lines : List (List ℕ)) (output : List ℕ)
    → AllPrint (LineResult o format) number lines output → IsSegmentation o format lines output
segmentation o format number [] output printed = printed.0
segmentation o format number (line ∷ lines) output (inl (fault, reports, empty, bad)) = absurd (no_bad_line _ bad)
segmentation o format number (line ∷ lines) output (inr (text, more, reports, others, joined)) =
    (text, more, reports.0, reports.1, segmentation o format (number + 1) lines more others, joined)
