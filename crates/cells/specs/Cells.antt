-- The cells as callers see them: a list of pairs, base and check.
use Rattle.std.specs.Prelude.{ℕ, ℤ, pos, negsuc, List, replicate}

-- a free cell: base 0, check -1
abbrev pub free_cell : ℤ × ℤ
free_cell = (pos 0, negsuc 0)

-- n free cells
abbrev pub free_cells : ℕ → List (ℤ × ℤ)
free_cells n = replicate n free_cell
