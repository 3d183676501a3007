-- The table that a line prints with dictionaries to explain its segmentation, or the error of the
-- line.
use Rattle.std.specs.Prelude.{ℕ, List, Result, Ok, Err}
use Rattle.mj_model.specs.declared.word.Word.{Word}
use Rattle.mj_model.specs.Tables.{Overlay}
use Rattle.mj_model.specs.BestOver.{IsBestPathOver}
use Rattle.line_stream.specs.GoodLines.{IsBad, IsGood}
use Rattle.line_stream.specs.declared.line_fault.LineFault.{LineFault}
use Rattle.lattice_view.specs.WhyPrinter.LineExplanations.{IsLineExplanation}

-- the best path of a line, and the rivals of its words
abbrev pub PrintsWhy : Overlay → List ℕ → List ℕ → Type 0
PrintsWhy o line text = (best : List Word) × IsBestPathOver o line best × IsLineExplanation o line best text

-- a valid line prints its explanation, and an invalid one has an error
abbrev pub WhyLineResult : Overlay → List ℕ → Result (List ℕ) LineFault → Type 0
WhyLineResult o line (Ok text) = IsGood line × PrintsWhy o line text
WhyLineResult o line (Err fault) = IsBad line fault
