-- User images of parsed lexicons.
use Rattle.std.specs.Prelude.{◌≡◌, List, length}
use Rattle.mj_model.specs.declared.source_fault.SourceFault.{SourceFault}
use Rattle.mj_model.specs.declared.matrix_sizes.MatrixSizes.{MatrixSizes}
use Rattle.mj_model.specs.Dictionary.{IsInOrder}
use Rattle.mj_model.specs.FirstFault.{IsMemoryOr}
use Rattle.mj_model.specs.Lexicon.{Row}
use Rattle.mj_model.specs.Tables.{Tables, System}
use Rattle.dict_compile.specs.declared.lexicons.LexiconsRead.{LexiconsRead}
use Rattle.image_writer.specs.Sections.{IsTooLarge}
use Rattle.image_writer.specs.UserImages.{IsUserImage}
use Rattle.dict_compile.specs.Images.{IsImageCause, MayLackCells}
use Rattle.dict_compile.specs.declared.compiled.Compiled.{Compiled}

-- a system dictionary of these sizes
pub record IsSystemOf (sizes : MatrixSizes) (system : Tables) : Type 0 where
  pub kind : system.kind ≡ System
  pub sizes_are : system.sizes ≡ sizes

-- a user image of the entries, with their statistics
pub record IsUserImageOf (read : LexiconsRead) (compiled : Compiled) : Type 0 where
  pub ordered : List Row
  pub in_order : IsInOrder read.lexicon.rows ordered
  pub image : IsUserImage read.lexicon.sizes ordered compiled.image.items
  pub entries : compiled.entries ≡ length read.lexicon.rows
  pub skipped : compiled.skipped ≡ read.skipped

-- the features of the rows exceed the limit of an image
abbrev pub HasTooLarge : List Row → Type 0
HasTooLarge rows = (ordered : List Row) × IsInOrder rows ordered × IsTooLarge ordered

-- the errors of the user image of these entries
abbrev pub IsUserImageError : LexiconsRead → SourceFault → Type 0
IsUserImageError read fault = IsMemoryOr fault (IsImageCause (HasTooLarge read.lexicon.rows) (MayLackCells read.lexicon.rows) fault)
