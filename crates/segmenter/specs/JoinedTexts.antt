-- Lines are segmented independently: the output of a text followed by another one.
use Rattle.std.specs.Prelude.{◌≡◌, ℕ, ◌+◌, List, [], ◌++◌, length, Option, Some, None}
use Rattle.mj_model.specs.Output.{BadLine, Output, text_lines}
use Rattle.mj_model.specs.Tables.{Overlay}
use Rattle.mj_model.specs.TextLines.{unfinished_line}
use Rattle.out_format.specs.Formats.{Format}
use Rattle.line_stream.specs.declared.line_fault.LineFault.{LineFault}
use Rattle.out_format.specs.PrintedLines.{LineResult}

-- `out` is the output of the text, and `bad` is its first invalid line, if there is one
abbrev pub OutputOf : Overlay → Format → List ℕ → List ℕ → Option (BadLine LineFault) → Type 0
OutputOf o format text out bad = Output (LineResult o format) 1 (text_lines text) out bad

-- the text is empty or ends with an LF
abbrev pub EndsLine : List ℕ → Type 0
EndsLine text = unfinished_line text ≡ []

-- the invalid line, if there is one, with `lines` added to its number
abbrev pub counted_after : ℕ → Option (BadLine LineFault) → Option (BadLine LineFault)
counted_after lines None = None
counted_after lines (Some bad) = Some (record { number = lines + bad.number; fault = bad.fault })

-- if the first text has no invalid line, the output of both texts is the concatenation of their
-- outputs
abbrev pub OutputsJoin : Type 0
OutputsJoin = (o : Overlay) (format : Format) (first second out more : List ℕ) (bad : Option (BadLine LineFault)) → EndsLine first
    → OutputOf o format first out None → OutputOf o format second more bad
    → OutputOf o format (first ++ second) (out ++ more) (counted_after (length (text_lines first)) bad)

-- if the first text has an invalid line, the output of both texts is the output of the first
abbrev pub OutputStops : Type 0
OutputStops = (o : Overlay) (format : Format) (first second out : List ℕ) (bad : BadLine LineFault) → EndsLine first
    → OutputOf o format first out (Some bad) → OutputOf o format (first ++ second) out (Some bad)
