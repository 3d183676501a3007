-- The rows of `matrix.def`.
use Rattle.std.specs.Prelude.{◌≡◌, ℕ, IsTrue, List, filter_map, Some, None}
use Rattle.mj_model.specs.declared.matrix_sizes.MatrixSizes.{MatrixSizes}
use Rattle.mj_model.specs.declared.source_fault.TheConstants.{MATRIX_FILE}
use Rattle.mj_model.specs.Connection.{Cell, cell_from, words_of, row_fault, is_pair}
use Rattle.mj_model.specs.FirstFault.{first_fault}
use Rattle.matrix_def.specs.declared.rows.MatrixCell.{MatrixCell}
use Rattle.matrix_def.specs.Costs.{CostTable, IsTableOf}

abbrev pub cell_of : MatrixCell → Cell
cell_of cell = record { right = cell.right; left = cell.left; cost = cell.cost }

-- the cells that rows list
abbrev pub cells_of : List (ℕ × List ℕ) → List Cell
cells_of rows = filter_map (λ row. cell_from (words_of row.1)) rows

-- the row lists this cell, which lies within the sizes
pub record IsRow (sizes : MatrixSizes) (line : List ℕ) (cell : Cell) : Type 0 where
  pub listed : cell_from (words_of line) ≡ Some cell
  pub within : IsTrue (is_pair sizes cell.right cell.left)

-- the rows are valid, and the table has their costs
abbrev pub IsFilledBy : MatrixSizes → List (ℕ × List ℕ) → CostTable → Type 0
IsFilledBy sizes rows m =
    (first_fault MATRIX_FILE (row_fault sizes) rows ≡ None) × IsTableOf (record { sizes = sizes; cells = cells_of rows }) m
