-- Numbered lines, and those that are not blank.
use Rattle.std.specs.Prelude.{ℕ, List, filter, not}
use Rattle.std.specs.Borrow.{Bor}
use Rattle.mj_model.specs.Lines.{is_blank_line}

-- the number and the bytes of a line
abbrev pub line_view : ℕ × Bor (List ℕ) → ℕ × List ℕ
line_view line = (line.0, line.1.now)

abbrev pub nonblank_lines : List (ℕ × List ℕ) → List (ℕ × List ℕ)
nonblank_lines lines = filter (λ line. not (is_blank_line line.1)) lines
