-- A text has one output with dictionaries that cover every text.
use Rattle.std.specs.Prelude.{◌≡◌, ℕ, List, Option}
use Rattle.mj_model.specs.Output.{BadLine, Output, text_lines}
use Rattle.mj_model.specs.Tables.{Overlay}
use Rattle.out_format.specs.Formats.{Format}
use Rattle.mj_model.specs.PathLaws.{CoversTexts}
use Rattle.line_stream.specs.declared.line_fault.LineFault.{LineFault}
use Rattle.out_format.specs.PrintedLines.{LineResult}

-- with dictionaries that cover every text, each text has exactly one output in a format: one list
-- of bytes, and one first invalid line or none
abbrev pub HasOneOutput : Type 0
HasOneOutput = (o : Overlay) (format : Format) (text : List ℕ) → CoversTexts o
    → (out : List ℕ) × (bad : Option (BadLine LineFault)) × Output (LineResult o format) 1 (text_lines text) out bad
    × ((other : List ℕ) (also_bad : Option (BadLine LineFault)) → Output (LineResult o format) 1 (text_lines text) other also_bad
    → (other ≡ out) × (also_bad ≡ bad))
