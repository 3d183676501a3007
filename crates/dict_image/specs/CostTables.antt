-- The table of connection costs.
use Rattle.std.specs.Prelude.{◌≡◌, ℕ, ℤ, ◌+◌, ◌*◌, ◌&&◌, Bool, List, nat_le, not}
use Rattle.mj_model.specs.declared.matrix_sizes.MatrixSizes.{MatrixSizes}
use Rattle.mj_model.specs.Overlays.{is_user}
use Rattle.mj_model.specs.Tables.{Kind, System, Tables}
use Rattle.image_format.specs.ImageSections.{stored_cost}
use Rattle.dict_image.specs.declared.cost_table.TheConstants.{COPIED_MAX}
use Rattle.dict_image.specs.declared.cost_table.CostTable.{CostTable}
use Rattle.dict_image.specs.declared.cost_table.CostTable.TheVariants as table
use Rattle.dict_image.specs.CostCache.{IsCostCache}
use Rattle.dict_image.specs.Rows.{AreRows}

-- there are at most `COPIED_MAX` pairs of ids
abbrev pub are_few_pairs : MatrixSizes → Bool
are_few_pairs sizes = nat_le (sizes.left * sizes.right) COPIED_MAX

-- a system dictionary with more than `COPIED_MAX` pairs of ids
abbrev pub is_large_matrix : Tables → Bool
is_large_matrix t = not (is_user t.kind) && not (are_few_pairs t.sizes)

-- the cost between a left id and a right id, with the left id first
abbrev pub cost_before : MatrixSizes → List ℕ → ℕ → ℕ → ℤ
cost_before sizes costs left right = stored_cost sizes costs right left

-- the cost between the left id of a row and a right id, if row 0 has left id `first`
abbrev pub cost_from : MatrixSizes → List ℕ → ℕ → ℕ → ℕ → ℤ
cost_from sizes costs first row right = cost_before sizes costs (first + row) right

-- rows for the left ids before `end`, each with the costs of all right ids
abbrev pub AreRowsTo : MatrixSizes → List ℕ → ℕ → List ℤ → Type 0
AreRowsTo sizes costs end rows = AreRows (cost_before sizes costs) sizes.right end rows

-- the table holds the costs of a dictionary: all in rows, or some in a cache. Only the table of a
-- user dictionary holds none
abbrev pub IsCostTable : Kind → MatrixSizes → List ℕ → CostTable → Type 0
IsCostTable kind sizes costs table.OfUser = kind ≡ System → ⊥
IsCostTable kind sizes costs (table.InRows rows) = AreRowsTo sizes costs sizes.left rows.items
IsCostTable kind sizes costs (table.Cache cache) = IsCostCache sizes costs cache
