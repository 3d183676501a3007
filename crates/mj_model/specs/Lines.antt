-- Lines of a source file. A line ends at LF, and the last one also at the end of the file. One CR
-- at the end of a line is dropped.
use Rattle.std.specs.Prelude.{ℕ, Bool, ◌==◌, if◌then◌else◌, List, [], ◌∷◌, map, length, take, slice_index, ◌-◌, ◌&&◌, nat_lt}
use Rattle.std.specs.List.{slice_split, enumerate_from, list_all}
use Rattle.mj_model.specs.Bytes.{is_line_feed, is_blank, carriage_return}

-- a list of pieces without its last one, if that is empty
abbrev pub without_last_empty : List (List ℕ) → List (List ℕ)
without_last_empty [] = []
without_last_empty ([] ∷ []) = []
without_last_empty ((c ∷ cs) ∷ []) = (c ∷ cs) ∷ []
without_last_empty (piece ∷ next ∷ more) = piece ∷ without_last_empty (next ∷ more)

-- the pieces between line feeds; no piece follows a final line feed
abbrev pub pieces : List ℕ → List (List ℕ)
pieces bytes = without_last_empty (slice_split is_line_feed bytes)

-- a line without the carriage return at its end
abbrev pub without_return : List ℕ → List ℕ
without_return line =
    if nat_lt 0 (length line) && slice_index line (length line - 1) == carriage_return
    then take (length line - 1) line
    else line

-- the lines of a source file
abbrev pub source_lines : List ℕ → List (List ℕ)
source_lines bytes = map without_return (pieces bytes)

-- the lines with their numbers, counted from 1
abbrev pub numbered_lines : List ℕ → List (ℕ × List ℕ)
numbered_lines bytes = enumerate_from 1 (source_lines bytes)

-- a line of no bytes, or of blanks and tabs only; such lines are skipped
abbrev pub is_blank_line : List ℕ → Bool
is_blank_line line = list_all is_blank line
