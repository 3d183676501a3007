-- The segmentation of lines.
use Rattle.std.specs.Prelude.{◌≡◌, ℕ, List, [], ◌∷◌, ◌++◌}
use Rattle.mj_model.specs.Tables.{Overlay}
use Rattle.line_stream.specs.GoodLines.{IsGood}
use Rattle.out_format.specs.Formats.{Format}
use Rattle.out_format.specs.PrintedLines.{IsBestPathText}

-- `output` is the segmentation of the lines: each line is valid and prints the words of its best
-- path in the format, and `output` is these texts one after another
abbrev pub IsSegmentation : Overlay → Format → List (List ℕ) → List ℕ → Type 0
IsSegmentation o format [] output = output ≡ []
IsSegmentation o format (line ∷ lines) output =
    (text : List ℕ) × (more : List ℕ) × IsGood line × IsBestPathText o format line text × IsSegmentation o format lines more × (output ≡ text ++ more)
