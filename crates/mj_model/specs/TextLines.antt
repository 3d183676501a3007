-- The lines of a text that is read piece by piece: the complete lines, and the unfinished one after
-- the last LF.
use Rattle.std.specs.Prelude.{ℕ, List, [], ◌∷◌}
use Rattle.std.specs.List.{slice_split}
use Rattle.mj_model.specs.Bytes.{is_line_feed}

abbrev pub all_but_last : List (List ℕ) → List (List ℕ)
all_but_last [] = []
all_but_last (piece ∷ []) = []
all_but_last (piece ∷ next ∷ more) = piece ∷ all_but_last (next ∷ more)

abbrev pub last_piece : List (List ℕ) → List ℕ
last_piece [] = []
last_piece (piece ∷ []) = piece
last_piece (piece ∷ next ∷ more) = last_piece (next ∷ more)

-- the lines that end at an LF
abbrev pub complete_lines : List ℕ → List (List ℕ)
complete_lines bytes = all_but_last (slice_split is_line_feed bytes)

-- the bytes after the last LF
abbrev pub unfinished_line : List ℕ → List ℕ
unfinished_line bytes = last_piece (slice_split is_line_feed bytes)
