-- Ranges of code points with equal categories.
use Rattle.std.specs.Prelude.{◌≡◌, ◌≢◌, ℕ, suc, ◌-◌, ◌<◌, ◌≤◌, nat_le, List, length, slice_index_or, find, reverse}
use Rattle.std.specs.Option.{option_map_or}
use Rattle.mj_model.specs.declared.category.CharInfo.{CharInfo}
use Rattle.mj_model.specs.CharDef.{code_point_max}
use Rattle.char_def.specs.declared.info_range.CategoryRange.{CategoryRange}
use Rattle.char_def.specs.Categories.{CharCategories, table_info}

abbrev pub no_range : CategoryRange
no_range = record { first = 0; info = record { bits = 0; head = 0 } }

-- range number i
abbrev pub range_by : List CategoryRange → ℕ → CategoryRange
range_by ranges i = slice_index_or ranges i no_range

-- the categories of the last range
abbrev pub last_info : List CategoryRange → CharInfo
last_info ranges = (range_by ranges (length ranges - 1)).info

-- the categories of a code point: those of the last range that starts at or before it
abbrev pub info_in : List CategoryRange → ℕ → CharInfo
info_in ranges code =
    option_map_or (λ (range : CategoryRange). range.info) (find (λ (range : CategoryRange). nat_le range.first code) (reverse ranges)) no_range.info

-- the ranges of a table: the first starts at code point 0, and each further one starts after the
-- one before and has other categories
pub record AreRangesOf (table : CharCategories) (ranges : List CategoryRange) : Type 0 where
  pub some : 1 ≤ length ranges
  pub from_zero : (range_by ranges 0).first ≡ 0
  pub rising : (i : ℕ) → suc i < length ranges → (range_by ranges i).first < (range_by ranges (suc i)).first
  pub changing : (i : ℕ) → suc i < length ranges → (range_by ranges i).info ≢ (range_by ranges (suc i)).info
  pub within : (i : ℕ) → i < length ranges → (range_by ranges i).first ≤ code_point_max
  pub starts : (i : ℕ) → i < length ranges → (range_by ranges i).info ≡ table_info table (range_by ranges i).first
  pub infos : (code : ℕ) → code ≤ code_point_max → info_in ranges code ≡ table_info table code
