-- Sections that store the tables of the sources.
use Rattle.std.specs.Prelude.{◌≡◌, ℕ, ℤ, ◌+◌, ◌≤◌, IsTrue, List, flat_map, length, take}
use Rattle.std.specs.Int.{w16, cast_unsigned}
use Rattle.std.specs.List.{sum_by}
use Rattle.byteorder.specs.Endian.{little_bytes}
use Rattle.mj_model.specs.CharDef.{code_point_max}
use Rattle.mj_model.specs.Connection.{is_pair}
use Rattle.image_format.specs.ImageSections.{AreCategories, AreCosts, AreRanges, IsIndex, categories_in, index_at, stored_cost, stored_info}
use Rattle.mj_model.specs.Lexicon.{Row}
use Rattle.matrix_def.specs.Costs.{CostTable, matrix_cost}
use Rattle.char_def.specs.Categories.{CharCategories, table_info}
use Rattle.image_writer.specs.Compact.{AreChanging}

-- the 2 bytes of a cost, low byte first
abbrev pub cost_bytes : ℤ → List ℕ
cost_bytes z = little_bytes 2 (cast_unsigned w16 z)

abbrev pub cost_section : List ℤ → List ℕ
cost_section costs = flat_map cost_bytes costs

-- the costs of a matrix
pub record AreCostsOf (m : CostTable) (bytes : List ℕ) : Type 0 where
  pub formed : AreCosts m.sizes bytes
  pub costs : (right left : ℕ) → IsTrue (is_pair m.sizes right left) → stored_cost m.sizes bytes right left ≡ matrix_cost m right left

-- the categories of a table
pub record AreCategoriesOf (t : CharCategories) (bytes : List ℕ) : Type 0 where
  pub formed : AreCategories (length t.categories) bytes
  pub categories : categories_in (length t.categories) bytes ≡ t.categories

-- the categories of each code point, in as few ranges as possible
pub record HoldRangesOf (t : CharCategories) (bytes : List ℕ) : Type 0 where
  pub formed : AreRanges (length t.categories) bytes
  pub changing : AreChanging bytes
  pub infos : (code : ℕ) → code ≤ code_point_max → stored_info bytes code ≡ table_info t code

-- the unknown tokens of each category, which follow `entries` lexicon tokens
pub record AreUnknownOf (entries : ℕ) (unknown : List (List Row)) (bytes : List ℕ) : Type 0 where
  pub formed : IsIndex (length unknown) entries (entries + sum_by length unknown) bytes
  pub each : (i : ℕ) → i ≤ length unknown → index_at bytes i ≡ entries + sum_by length (take i unknown)
