-- A table of connection costs.
use Rattle.std.specs.Prelude.{◌≡◌, ℕ, ◌+◌, ◌*◌, ℤ, pos, neg_ℤ, ◌≤ℤ◌, IsTrue, if◌then◌else◌, List, length, slice_index_or, Ok}
use Rattle.mj_model.specs.declared.matrix_sizes.MatrixSizes.{MatrixSizes}
use Rattle.mj_model.specs.Connection.{AreMatrixSizes, Connection, connection_cost, connection_of, is_pair}

-- the sizes, and the costs ordered by right id and then by left id
pub record CostTable : Type 0 where
  pub sizes : MatrixSizes
  pub costs : List ℤ

-- the index of the cost of a pair of ids
abbrev pub cell_at : CostTable → ℕ → ℕ → ℕ
cell_at m right left = right * m.sizes.left + left

-- the connection cost of a right id and a left id
abbrev pub matrix_cost : CostTable → ℕ → ℕ → ℤ
matrix_cost m right left = slice_index_or m.costs (cell_at m right left) (pos 0)

-- the connection cost of a right id and a left id, or 0 for a pair outside the sizes
abbrev pub cost_of : CostTable → ℕ → ℕ → ℤ
cost_of m right left = if is_pair m.sizes right left then matrix_cost m right left else pos 0

-- a signed cost of 16 bits
abbrev pub IsCost : ℤ → Type 0
IsCost z = (neg_ℤ (pos 32768) ≤ℤ z) × (z ≤ℤ pos 32767)

-- a table of valid sizes with a cost of 16 bits for each pair
pub record IsMatrix (m : CostTable) : Type 0 where
  pub sizes : AreMatrixSizes m.sizes
  pub cells : length m.costs ≡ m.sizes.right * m.sizes.left
  pub fits : (k : ℕ) → IsCost (slice_index_or m.costs k (pos 0))

-- the table has the sizes and the costs of a connection
pub record IsTableOf (c : Connection) (m : CostTable) : Type 0 where
  pub sizes : m.sizes ≡ c.sizes
  pub costs : (right left : ℕ) → IsTrue (is_pair m.sizes right left) → matrix_cost m right left ≡ connection_cost c right left

-- the table has the contents of the bytes of a `matrix.def`
abbrev pub IsTableIn : List ℕ → CostTable → Type 0
IsTableIn bytes m = (c : Connection) × (connection_of bytes ≡ Ok c) × IsTableOf c m
