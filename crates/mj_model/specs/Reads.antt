-- The number of cells that lookups read.
use Rattle.std.specs.Prelude.{ℕ, ◌+◌, ℤ, pos, negsuc, ◌+ℤ◌, if◌then◌else◌, nat_lt, List, map, length, take, slice_index, Option, Some, None}
use Rattle.std.specs.List.{range_with_len, sum}
use Rattle.mj_model.specs.CellMap.{Cell, base, walk, codes_of}

-- the reads of a cell by its index: one if the cell exists
abbrev pub reads_at : List Cell → ℤ → ℕ
reads_at cells (pos i) = if nat_lt i (length cells) then 1 else 0
reads_at cells (negsuc k) = 0

-- the reads of the step from the state s on the code c, which asks for the cell BASE[s] + c
unfoldable pub step_reads : List Cell → ℕ → ℕ → ℕ
step_reads cells s c = reads_at cells (base cells s +ℤ pos c)

-- the reads of a step on the code c from a state, if there is one
abbrev pub reads_from : List Cell → Option ℕ → ℕ → ℕ
reads_from cells None c = 0
reads_from cells (Some s) c = step_reads cells s c

-- the reads at byte i of a text: of the step on the byte, and then of the step on the end of a key
abbrev pub byte_reads : List Cell → List ℕ → ℕ → ℕ
byte_reads cells text i = reads_from cells (walk cells 0 (take i (codes_of text))) (slice_index text i + 1) + reads_from cells (walk cells 0 (take (i + 1) (codes_of text))) 0

-- the reads of a walk over the first n bytes of a text: the root, and the reads at each byte
unfoldable pub walk_reads : List Cell → List ℕ → ℕ → ℕ
walk_reads cells text n = reads_at cells (pos 0) + sum (map (byte_reads cells text) (range_with_len 0 n))
