-- The invariants of a dictionary and its iterators.
use Rattle.std.specs.Prelude.{◌≡◌, ℕ, ◌*◌, ◌<◌, ◌≤◌, List, length}
use Rattle.image_format.specs.ImageBytes.{header_of, kind_of, section}
use Rattle.image_format.specs.Layouts.{info_form}
use Rattle.dict_image.specs.Categories.{listed_categories}
use Rattle.dict_image.specs.declared.cost_table.CostTable.{CostTable}
use Rattle.dict_image.specs.declared.info_table.InfoTable.{InfoTable}
use Rattle.dict_image.specs.declared.lookup_tables.LookupTables.{LookupTables}
use Rattle.dict_image.specs.CostTables.{IsCostTable}
use Rattle.dict_image.specs.InfoTables.{IsInfoTable}
use Rattle.image_format.specs.ImageSections.{HasFeature, stored_token}

-- the table of connection costs of an image
abbrev pub IsCostTableIn : List ℕ → CostTable → Type 0
IsCostTableIn bytes table = IsCostTable (kind_of (header_of bytes)) (header_of bytes).sizes (section bytes 1) table

-- the table of the categories of code points of an image
abbrev pub IsInfoTableIn : List ℕ → InfoTable → Type 0
IsInfoTableIn bytes table = IsInfoTable (kind_of (header_of bytes)) (info_form (header_of bytes).layout) (section bytes 3) table

-- the tables that are built for an image: connection costs, categories of code points, and
-- categories
pub record AreLookupTables (bytes : List ℕ) (tables : LookupTables) : Type 0 where
  pub costs_are : IsCostTableIn bytes tables.costs
  pub infos_are : IsInfoTableIn bytes tables.infos
  pub categories_are : tables.categories.items ≡ listed_categories (header_of bytes).categories (section bytes 2)

-- a section has at least `count` tokens, and another one their features
pub record HoldTokens (tokens features : List ℕ) (count : ℕ) : Type 0 where
  pub room : 16 * count ≤ length tokens
  pub each : (i : ℕ) → i < count → HasFeature features (stored_token tokens i)
