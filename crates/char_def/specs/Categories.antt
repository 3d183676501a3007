-- The contents of a table of categories.
use Rattle.std.specs.Prelude.{◌≡◌, ℕ, ◌≤◌, false, All, List, [], length, slice_index_or, Option}
use Rattle.std.specs.Option.{option_map_or}
use Rattle.mj_model.specs.declared.category.CharInfo.{CharInfo}
use Rattle.mj_model.specs.declared.limits.TheConstants.{CATEGORIES_MAX}
use Rattle.mj_model.specs.CharDef.{NamedCategory, CharSource, IsInfoOf, IsStorable, char_info, info_of_names, default_name}
use Rattle.char_def.specs.declared.overlay.CategoryStep.{CategoryStep}
use Rattle.char_def.specs.Steps.{info_by}

-- the categories in their order, and the steps of the mapped code points
pub record CharCategories : Type 0 where
  pub categories : List NamedCategory
  pub steps : List CategoryStep

-- the categories of a code point without a mapping: only DEFAULT
abbrev pub default_info : List NamedCategory → CharInfo
default_info categories = info_of_names categories default_name []

abbrev pub info_or : CharInfo → Option CharInfo → CharInfo
info_or otherwise found = option_map_or (λ info. info) found otherwise

-- the categories of a code point
abbrev pub table_info : CharCategories → ℕ → CharInfo
table_info table code = info_or (default_info table.categories) (info_by table.steps code)

-- the invariants of a table: it has 1 to `CATEGORIES_MAX` categories, an image can hold each of
-- them, and the categories of each code point are among them
pub record IsCategoryTable (table : CharCategories) : Type 0 where
  pub some : 1 ≤ length table.categories
  pub few : length table.categories ≤ CATEGORIES_MAX
  pub storable : All IsStorable table.categories
  pub infos : (code : ℕ) → IsInfoOf (length table.categories) (table_info table code)

-- category number i
abbrev pub category_at : CharCategories → ℕ → NamedCategory
category_at table i = slice_index_or table.categories i (record { name = []; category = record { invoke = false; group = false; length = 0 } })

-- the table has the contents of `char.def`
pub record IsTableOf (source : CharSource) (table : CharCategories) : Type 0 where
  pub categories : table.categories ≡ source.categories
  pub infos : (code : ℕ) → table_info table code ≡ char_info source code
