-- What a line of a text prints with dictionaries, or the error of the line.
use Rattle.std.specs.Prelude.{ℕ, List, Result, Ok, Err}
use Rattle.mj_model.specs.declared.word.Word.{Word}
use Rattle.mj_model.specs.Best.{IsBestPath}
use Rattle.out_format.specs.Formats.{Format}
use Rattle.out_format.specs.PrintedPaths.{PrintsPath}
use Rattle.mj_model.specs.Tables.{Overlay}
use Rattle.mj_model.specs.Words.{words}
use Rattle.line_stream.specs.GoodLines.{IsBad, IsGood}
use Rattle.line_stream.specs.declared.line_fault.LineFault.{LineFault}

-- `text` is what the one best path of the line's words over the dictionaries prints in a format
abbrev pub IsBestPathText : Overlay → Format → List ℕ → List ℕ → Type 0
IsBestPathText o f line text = (path : List Word) × IsBestPath (words o line) o.system.connection path × PrintsPath o f line path text

-- a valid line prints the text of its best path in a format, and an invalid one has an error
abbrev pub LineResult : Overlay → Format → List ℕ → Result (List ℕ) LineFault → Type 0
LineResult o f line (Ok text) = IsGood line × IsBestPathText o f line text
LineResult o f line (Err fault) = IsBad line fault
