-- The image of a user dictionary.
use Rattle.std.specs.Prelude.{◌≡◌, ℕ, ◌<◌, List}
use Rattle.image_format.specs.ImageBounds.{feature_bytes, feature_bytes_end}
use Rattle.mj_model.specs.declared.matrix_sizes.MatrixSizes.{MatrixSizes}
use Rattle.image_format.specs.declared.layout.TheConstants.{LAYOUT}
use Rattle.image_format.specs.ImageBytes.{header_of, section}
use Rattle.image_format.specs.ImageFaults.{IsIntact}
use Rattle.image_format.specs.ImageMeaning.{image_lexicon, image_tables}
use Rattle.mj_model.specs.Lexicon.{Row}
use Rattle.mj_model.specs.Tables.{User}
use Rattle.image_writer.specs.Entries.{lexemes_of, tokens_of}
use Rattle.image_writer.specs.Compact.{AreCellsFor, features_once}

-- an intact image of the newest layout of a user dictionary with these sizes and entries
pub record IsUserImage (sizes : MatrixSizes) (rows : List Row) (image : List ℕ) : Type 0 where
  pub intact : IsIntact image
  pub layout : (header_of image).layout ≡ LAYOUT
  pub kind : (image_tables image).kind ≡ User
  pub sizes_kept : (image_tables image).sizes ≡ sizes
  pub lexicon : image_lexicon image ≡ lexemes_of rows
  pub cells : AreCellsFor (lexemes_of rows) (section image 5)
  pub features : section image 8 ≡ features_once (tokens_of rows)
  pub few_features : feature_bytes (tokens_of rows) < feature_bytes_end
