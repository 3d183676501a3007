-- The image of a system dictionary.
use Rattle.std.specs.Prelude.{◌≡◌, ℕ, ◌<◌, pos, List, length, map, if◌then◌else◌}
use Rattle.mj_model.specs.CharDef.{NamedCategory}
use Rattle.image_format.specs.ImageBounds.{feature_bytes, feature_bytes_end}
use Rattle.mj_model.specs.Connection.{is_pair}
use Rattle.image_format.specs.declared.layout.TheConstants.{LAYOUT}
use Rattle.image_format.specs.ImageBytes.{header_of, section}
use Rattle.image_format.specs.ImageFaults.{IsIntact}
use Rattle.image_format.specs.ImageMeaning.{image_categories, image_tables}
use Rattle.mj_model.specs.Lexicon.{Row}
use Rattle.mj_model.specs.SourceTables.{HaveSameMeaning}
use Rattle.mj_model.specs.Tables.{Tables, System}
use Rattle.mj_model.specs.UnkDef.{unknown_tokens}
use Rattle.matrix_def.specs.Costs.{CostTable, matrix_cost}
use Rattle.char_def.specs.Categories.{CharCategories, table_info}
use Rattle.image_writer.specs.Entries.{all_rows, lexemes_of, tokens_of}
use Rattle.image_writer.specs.Compact.{AreCellsFor, AreChanging, features_once}

-- the tables of a system dictionary from its sources
abbrev pub tables_with : CostTable → CharCategories → List (List Row) → List Row → Tables
tables_with matrix chars unknown rows = record {
  kind = System;
  sizes = matrix.sizes;
  connection = λ right left. if is_pair matrix.sizes right left then matrix_cost matrix right left else pos 0;
  categories = map (λ (named : NamedCategory). named.category) chars.categories;
  info = table_info chars;
  unknown = unknown_tokens (length rows) unknown;
  lexicon = lexemes_of rows;
}

-- an intact image of the newest layout with these tables
pub record IsSystemImage (matrix : CostTable) (chars : CharCategories) (unknown : List (List Row)) (rows : List Row) (image : List ℕ) : Type 0 where
  pub intact : IsIntact image
  pub layout : (header_of image).layout ≡ LAYOUT
  pub tables : HaveSameMeaning (image_tables image) (tables_with matrix chars unknown rows)
  pub categories : image_categories image ≡ chars.categories
  pub ranges : AreChanging (section image 3)
  pub cells : AreCellsFor (lexemes_of rows) (section image 5)
  pub features : section image 8 ≡ features_once (tokens_of (all_rows rows unknown))
  pub few_features : feature_bytes (tokens_of (all_rows rows unknown)) < feature_bytes_end
