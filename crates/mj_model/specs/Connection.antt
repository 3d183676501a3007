-- Connection costs, as `matrix.def` lists them (MeCab). Two sizes come first. Each row then has the
-- right id of a word, the left id of the following word, and the cost of connecting them.
use Rattle.std.specs.Prelude.{ℕ, ◌*◌, ◌<◌, ◌≤◌, ℤ, pos, Bool, not, ◌==◌, ◌&&◌, nat_lt, nat_le, if◌then◌else◌, List, [], ◌∷◌, length, filter, filter_map, find, reverse, Option, Some, None, option_and_then, option_map, Result, Ok, Err}
use Rattle.std.specs.List.{slice_split}
use Rattle.std.specs.Option.{option_map_or}
use Rattle.mj_model.specs.declared.limits.TheConstants.{MATRIX_CELLS_MAX, MATRIX_SIZE_MAX}
use Rattle.mj_model.specs.declared.matrix_sizes.MatrixSizes.{MatrixSizes}
use Rattle.mj_model.specs.declared.source_fault.TheConstants.{MATRIX_FILE}
use Rattle.mj_model.specs.declared.source_fault.SourceFault.{SourceFault}
use Rattle.mj_model.specs.declared.source_fault.SourceKind.{SourceKind}
use Rattle.mj_model.specs.declared.source_fault.SourceKind.TheVariants.{BadHeader, BadRow, PairOutside, TooLarge}
use Rattle.mj_model.specs.Bytes.{is_blank}
use Rattle.mj_model.specs.Lines.{numbered_lines, is_blank_line}
use Rattle.mj_model.specs.Numbers.{natural_in, context_id, cost}
use Rattle.mj_model.specs.FirstFault.{first_fault}

-- the words of a line: its parts between blanks and tabs, without the empty ones
abbrev pub words_of : List ℕ → List (List ℕ)
words_of line = filter (λ word. nat_lt 0 (length word)) (slice_split is_blank line)

pub record Cell : Type 0 where
  pub right : ℕ
  pub left : ℕ
  pub cost : ℤ

-- the sizes, and the rows in their order
pub record Connection : Type 0 where
  pub sizes : MatrixSizes
  pub cells : List Cell

-- the sizes that a connection table may have
pub record AreMatrixSizes (sizes : MatrixSizes) : Type 0 where
  pub right_some : 0 < sizes.right
  pub right_most : sizes.right ≤ MATRIX_SIZE_MAX
  pub left_some : 0 < sizes.left
  pub left_most : sizes.left ≤ MATRIX_SIZE_MAX
  pub few : sizes.right * sizes.left ≤ MATRIX_CELLS_MAX

-- a size: a number from 1 to `MATRIX_SIZE_MAX`
abbrev pub size : List ℕ → Option ℕ
size word = option_and_then (λ n. if nat_lt 0 n then Some n else None) (natural_in MATRIX_SIZE_MAX word)

-- the sizes in a header with these words
abbrev pub sizes_from : List (List ℕ) → Option MatrixSizes
sizes_from (first ∷ second ∷ []) = option_and_then (λ right. option_map (λ left. record { right = right; left = left }) (size second)) (size first)
sizes_from [] = None
sizes_from (first ∷ []) = None
sizes_from (first ∷ second ∷ third ∷ more) = None

-- the row with these words
abbrev pub cell_from : List (List ℕ) → Option Cell
cell_from (first ∷ second ∷ third ∷ []) =
    option_and_then (λ right. option_and_then (λ left. option_map (λ price. record { right = right; left = left; cost = price }) (cost third)) (context_id second)) (context_id first)
cell_from [] = None
cell_from (first ∷ []) = None
cell_from (first ∷ second ∷ []) = None
cell_from (first ∷ second ∷ third ∷ fourth ∷ more) = None

-- a right id and a left id lie within the sizes
abbrev pub is_pair : MatrixSizes → ℕ → ℕ → Bool
is_pair sizes right left = nat_lt right sizes.right && nat_lt left sizes.left

-- the error of a row
abbrev pub cell_fault : MatrixSizes → Option Cell → Option SourceKind
cell_fault sizes None = Some BadRow
cell_fault sizes (Some cell) = if is_pair sizes cell.right cell.left then None else Some PairOutside

abbrev pub row_fault : MatrixSizes → List ℕ → Option SourceKind
row_fault sizes line = cell_fault sizes (cell_from (words_of line))

abbrev pub matrix_fault : ℕ → SourceKind → SourceFault
matrix_fault line kind = record { file = MATRIX_FILE; line = line; kind = kind }

abbrev pub connection_unless : Option SourceFault → MatrixSizes → List (ℕ × List ℕ) → Result Connection SourceFault
connection_unless (Some fault) sizes rows = Err fault
connection_unless None sizes rows = Ok (record { sizes = sizes; cells = filter_map (λ row. cell_from (words_of row.1)) rows })

abbrev pub connection_under : ℕ → Option MatrixSizes → List (ℕ × List ℕ) → Result Connection SourceFault
connection_under line None rows = Err (matrix_fault line BadHeader)
connection_under line (Some sizes) rows =
    if nat_le (sizes.right * sizes.left) MATRIX_CELLS_MAX
    then connection_unless (first_fault MATRIX_FILE (row_fault sizes) rows) sizes rows
    else Err (matrix_fault line TooLarge)

-- the contents of numbered lines, of which the first is the header
abbrev pub connection_from : List (ℕ × List ℕ) → Result Connection SourceFault
connection_from [] = Err (matrix_fault 0 BadHeader)
connection_from (header ∷ rows) = connection_under header.0 (sizes_from (words_of header.1)) rows

-- the contents of the bytes of `matrix.def`, or their first error; blank lines are skipped
abbrev pub connection_of : List ℕ → Result Connection SourceFault
connection_of bytes = connection_from (filter (λ line. not (is_blank_line line.1)) (numbered_lines bytes))

-- the connection cost of a right id and a left id: the cost in the last row with both, or 0
abbrev pub connection_cost : Connection → ℕ → ℕ → ℤ
connection_cost connection right left =
    option_map_or (λ (cell : Cell). cell.cost) (find (λ cell. cell.right == right && cell.left == left) (reverse connection.cells)) (pos 0)
