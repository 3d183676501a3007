-- What the lines of a text in memory print, and at which line printing stops.
use Rattle.std.specs.Prelude.{◌≡◌, ℕ, ◌+◌, List, ◌∷◌, ◌++◌, length, Some, Result}
use Rattle.mj_model.specs.Output.{Output, text_lines}
use Rattle.line_stream.specs.declared.line_fault.LineFault.{LineFault}
use Rattle.line_stream.specs.declared.line_fault.LineError.{LineError}
use Rattle.line_stream.specs.declared.line_fault.LineError.TheVariants.{Bad, Memory}
use Rattle.line_stream.specs.GoodLines.{IsGood}
use Rattle.line_stream.specs.StreamState.{AllPrint}

-- all lines of the text printed, and `lines` is their number
pub record PrintsLines (Reports : List ℕ → Result (List ℕ) LineFault → Type 0) (text : List ℕ) (lines : ℕ) (shown : List ℕ) : Type 0 where
  pub printed : AllPrint Reports 1 (text_lines text) shown
  pub counted : lines ≡ length (text_lines text)

-- the text has a valid line with this number, and the lines before it printed
pub record PrintsBefore (Reports : List ℕ → Result (List ℕ) LineFault → Type 0) (text : List ℕ) (number : ℕ) (shown : List ℕ) : Type 0 where
  pub before : List (List ℕ)
  pub line : List ℕ
  pub more : List (List ℕ)
  pub parts : text_lines text ≡ before ++ line ∷ more
  pub printed : AllPrint Reports 1 before shown
  pub good : IsGood line
  pub number_is : number ≡ length before + 1

-- why printing stopped at the line with this number: it is the first invalid line, or memory ran
-- out at a valid one; the lines before it printed
abbrev pub StopsAt : (List ℕ → Result (List ℕ) LineFault → Type 0) → List ℕ → ℕ → LineError → List ℕ → Type 0
StopsAt Reports text number (Bad fault) shown = Output Reports 1 (text_lines text) shown (Some (record { number = number; fault = fault }))
StopsAt Reports text number Memory shown = PrintsBefore Reports text number shown
