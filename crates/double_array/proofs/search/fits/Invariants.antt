use Rattle.std.proofs.Common.{◌≡◌, ℕ, ◌+◌, ◌<◌}
use Rattle.mj_model.specs.CellMap.{free_cell, cell_at}
use Rattle.double_array.specs.Views.{cell_views}
use Rattle.double_array.specs.Family.{HasCode}
use Rattle.double_array.proofs.search.fits.Given as goal

abbrev pub invariant-loop-code : goal.invariant-loop-code
invariant-loop-code l = (k : ℕ) → k < l.code → HasCode l.family k → cell_at (cell_views l.cells) (l.base + k) ≡ free_cell
