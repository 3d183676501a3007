-- Valid lines, and the errors of the others.
use Rattle.std.specs.Prelude.{ℕ, ◌<◌, ◌≤◌, List, length, IsUtf8}
use Rattle.mj_model.specs.declared.limits.TheConstants.{SENTENCE_MAX}
use Rattle.line_stream.specs.declared.line_fault.LineFault.{LineFault}
use Rattle.line_stream.specs.declared.line_fault.LineFault.TheVariants.{TooLong, NotUtf8}

-- the line is valid: short enough, and UTF-8
abbrev pub IsGood : List ℕ → Type 0
IsGood line = (length line ≤ SENTENCE_MAX) × IsUtf8 line

-- the error of an invalid line: it is too long, or it is short enough but not UTF-8
abbrev pub IsBad : List ℕ → LineFault → Type 0
IsBad line TooLong = SENTENCE_MAX < length line
IsBad line NotUtf8 = (length line ≤ SENTENCE_MAX) × (IsUtf8 line → ⊥)
