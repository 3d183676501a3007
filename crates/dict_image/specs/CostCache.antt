-- The cache of connection costs.
use Rattle.std.specs.Prelude.{◌≡◌, ℕ, ℤ, ◌≤◌, Some, List, length, slice_get, slice_index}
use Rattle.mj_model.specs.declared.matrix_sizes.MatrixSizes.{MatrixSizes}
use Rattle.image_format.specs.ImageSections.{stored_cost}
use Rattle.dict_image.specs.declared.costs_before.SectionRow.{SectionRow}
use Rattle.dict_image.specs.declared.cost_cache.CostCache.{CostCache}
use Rattle.dict_image.specs.ContextIds.{AreOfSizes}
use Rattle.dict_image.specs.CostRows.{stored_in}
use Rattle.dict_image.specs.Rows.{AreRows}

-- the cost between the left id of a row and the right id of a column
abbrev pub cost_between : MatrixSizes → List ℕ → List ℕ → List ℕ → ℕ → ℕ → ℤ
cost_between sizes costs lefts rights row column = stored_cost sizes costs (slice_index rights column) (slice_index lefts row)

-- the cost between the right id of a column and the left id of a row
abbrev pub cost_after : MatrixSizes → List ℕ → List ℕ → List ℕ → ℕ → ℕ → ℤ
cost_after sizes costs lefts rights column row = cost_between sizes costs lefts rights row column

-- each cost of a cached row is the one that is stored for the left id and the right id with its
-- number
pub record IsCacheRow (cache : CostCache) (s : SectionRow) (row : List ℤ) : Type 0 where
  pub short : length row ≤ length cache.ids.rights.ids
  pub each : (right number : ℕ) (cost : ℤ) → slice_get cache.ids.rights.ids number ≡ Some right → slice_get row number ≡ Some cost → cost ≡ stored_in s right

-- the cache holds the costs between its ids
pub record IsCostCache (sizes : MatrixSizes) (costs : List ℕ) (cache : CostCache) : Type 0 where
  pub ids : AreOfSizes sizes cache.ids
  pub rows : AreRows (cost_between sizes costs cache.ids.lefts.ids cache.ids.rights.ids) (length cache.ids.rights.ids) (length cache.ids.lefts.ids) cache.costs.items
