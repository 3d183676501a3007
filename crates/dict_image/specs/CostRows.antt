-- The connection costs of one left id, by right id.
use Rattle.std.specs.Prelude.{◌≡◌, ℕ, ℤ, ◌<◌, ◌^◌, List, Some, length, map, slice_get, IsTrue}
use Rattle.std.specs.List.{range_with_len}
use Rattle.mj_model.specs.declared.matrix_sizes.MatrixSizes.{MatrixSizes}
use Rattle.mj_model.specs.Connection.{is_pair}
use Rattle.mj_model.specs.Tables.{Tables}
use Rattle.image_format.specs.ImageSections.{AreCosts, stored_cost}
use Rattle.dict_image.specs.declared.costs_before.CostRow.{CostRow}
use Rattle.dict_image.specs.declared.costs_before.CostRow.TheVariants as row
use Rattle.dict_image.specs.declared.costs_before.CachedRow.{CachedRow}
use Rattle.dict_image.specs.declared.costs_before.SectionRow.{SectionRow}

-- the costs of one left id in section 1, one for each right id
abbrev pub costs_in_section : SectionRow → List ℤ
costs_in_section s = map (λ right. stored_cost s.sizes s.costs.now right s.left) (range_with_len 0 s.sizes.right)

-- the costs of a row
abbrev pub costs_in_row : CostRow → List ℤ
costs_in_row (row.InRow costs) = costs.now
costs_in_row (row.Cached r) = costs_in_section r.section

-- the section has a table of these sizes, the left id lies within them, and right ids fit 32 bits
pub record IsSectionRow (s : SectionRow) : Type 0 where
  pub costs : AreCosts s.sizes s.costs.now
  pub left : s.left < s.sizes.left
  pub rights : s.sizes.right < 2 ^ 32

-- the cost of a right id in section 1
abbrev pub stored_in : SectionRow → ℕ → ℤ
stored_in s right = stored_cost s.sizes s.costs.now right s.left

-- the section can be read, each right id has a number, and each cached cost is the stored one
pub record IsCachedRow (r : CachedRow) : Type 0 where
  pub section : IsSectionRow r.section
  pub numbers : length r.numbers.now ≡ r.section.sizes.right
  pub cached : (right number : ℕ) (cost : ℤ) → slice_get r.numbers.now right ≡ Some number → slice_get r.cached.now number ≡ Some cost → cost ≡ stored_in r.section right

-- the row can be read
abbrev pub IsCostRow : CostRow → Type 0
IsCostRow (row.InRow costs) = Unit {0}
IsCostRow (row.Cached r) = IsCachedRow r

-- the row holds the costs that are stored for left id `left`, by right id
abbrev pub AreStoredBefore : MatrixSizes → List ℕ → ℕ → List ℤ → Type 0
AreStoredBefore sizes costs left row = (right : ℕ) → right < sizes.right → slice_get row right ≡ Some (stored_cost sizes costs right left)

-- the connection costs of a dictionary for left id `left`, by right id
abbrev pub AreCostsBefore : Tables → ℕ → List ℤ → Type 0
AreCostsBefore t left costs = (right : ℕ) → IsTrue (is_pair t.sizes right left) → slice_get costs right ≡ Some (t.connection right left)
