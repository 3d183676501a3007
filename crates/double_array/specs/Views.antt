-- Cells without the links of the free ones.
use Rattle.std.specs.Prelude.{ℤ, pos, negsuc, List, [], ◌∷◌, map}
use Rattle.mj_model.specs.CellMap.{Cell, free_cell}

abbrev pub cell_view : ℤ → ℤ → Cell
cell_view base (pos check) = (base, pos check)
cell_view base (negsuc check) = free_cell

-- the cell, or a free one if its check is negative
abbrev pub hide : Cell → Cell
hide x = cell_view x.0 x.1

unfoldable pub cell_views : List Cell → List Cell
cell_views [] = []
cell_views (root ∷ rest) = root ∷ map hide rest
