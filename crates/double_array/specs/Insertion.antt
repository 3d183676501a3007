-- The steps of an insertion.
use Rattle.std.specs.Prelude.{◌≡◌, ℕ, ◌+◌, ◌<◌, ◌≤◌, pos, List, Some, None, length, take, slice_index}
use Rattle.mj_model.specs.CellMap.{Cell, cell_at, base, step, walk, codes_of}
use Rattle.double_array.specs.declared.insertion.LongestMatch.{LongestMatch}
use Rattle.double_array.specs.Pool.{Pool}
use Rattle.double_array.specs.Built.{MeetsInvariants}

-- the longest prefix of a key that leads to a state
pub record IsLongestMatch (cells : List Cell) (key : List ℕ) (at : LongestMatch) : Type 0 where
  pub within : at.used ≤ length key
  pub led : walk cells 0 (take at.used (codes_of key)) ≡ Some at.state
  pub based : base cells at.state ≡ pos at.from
  pub least : 2 ≤ at.from
  pub stopped : at.used < length key → step cells at.state (slice_index (codes_of key) at.used) ≡ None

-- the same cells, perhaps more free ones, and room for two families and for `left` further codes
pub record HasRoom (old new : Pool) (long left : ℕ) : Type 0 where
  pub built : MeetsInvariants new
  pub same : (i : ℕ) → cell_at new.cells i ≡ cell_at old.cells i
  pub room : new.top + 514 + left ≤ length new.cells
  pub least : length old.cells ≤ length new.cells
  pub most : length new.cells ≤ length old.cells + long + 600
