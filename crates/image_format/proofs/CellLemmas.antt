-- The cells in bytes.
use Rattle.std.proofs.Common.{◌≡◌, ℕ, ◌+◌, ◌*◌, ◌/◌, ◌≤◌, ◌<◌, List, length, ap, ◌∙◌, arith}
use Rattle.std.specs.Prelude.{Some, slice_get}
use Rattle.std.proofs.Math.Nat.{mul-div-le}
use Rattle.std.proofs.lemmas.List.FromFn.{length-map-range_with_len, get_or-map-range_with_len}
use Rattle.std.proofs.lemmas.Option.{slice_get-get_or}
use Rattle.mj_model.specs.CellMap.{free_cell}
use Rattle.image_format.specs.ImageSections.{stored_cell, stored_cells}

pub cell_count : (bytes : List ℕ) → length (stored_cells bytes) ≡ length bytes / 8
cell_count bytes = length-map-range_with_len (stored_cell bytes) 0 (length bytes / 8)

-- a cell lies in the bytes
pub within : (bytes : List ℕ) (i : ℕ) → i < length (stored_cells bytes) → 8 * i + 8 ≤ length bytes
within bytes i less =
    let n = cell_count bytes in
    let m = mul-div-le (length bytes) 8 in
    omega (arith, n, m, less)

pub cell_there : (bytes : List ℕ) (i : ℕ) → i < length (stored_cells bytes) → slice_get (stored_cells bytes) i ≡ Some (stored_cell bytes i)
cell_there bytes i less =
    let n = cell_count bytes in
    slice_get-get_or (stored_cells bytes) i free_cell less
    ∙ ap Some (get_or-map-range_with_len (stored_cell bytes) 0 (length bytes / 8) i i free_cell (omega (arith, n, less)) (omega (arith)))
