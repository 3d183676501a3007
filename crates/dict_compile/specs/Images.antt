-- Images of parsed sources.
use Rattle.std.specs.Prelude.{◌≡◌, ◌<◌, ◌⊎◌, List, length}
use Rattle.image_format.specs.ImageBounds.{cells_max, most_cells}
use Rattle.mj_model.specs.Dictionary.{IsInOrder}
use Rattle.mj_model.specs.FirstFault.{IsMemoryOr}
use Rattle.mj_model.specs.Lexicon.{Row}
use Rattle.mj_model.specs.declared.source_fault.SourceFault.{SourceFault}
use Rattle.mj_model.specs.declared.source_fault.SourceKind.TheVariants.{ArrayFull, FeaturesTooLarge}
use Rattle.dict_compile.specs.Faults.{fault_of_image}
use Rattle.dict_compile.specs.declared.parts.SourceParts.{SourceParts}
use Rattle.image_writer.specs.Entries.{all_rows, lexemes_of}
use Rattle.image_writer.specs.Sections.{IsTooLarge}
use Rattle.image_writer.specs.SystemImages.{IsSystemImage}
use Rattle.dict_compile.specs.declared.compiled.Compiled.{Compiled}

-- an image of the parts, with their statistics
pub record IsImageOf (parts : SourceParts) (compiled : Compiled) : Type 0 where
  pub ordered : List Row
  pub in_order : IsInOrder parts.lexicon.rows ordered
  pub image : IsSystemImage parts.matrix parts.chars parts.unknown ordered compiled.image.items
  pub entries : compiled.entries ≡ length parts.lexicon.rows
  pub skipped : compiled.skipped ≡ parts.skipped

-- the features of the parts exceed the limit of an image
abbrev pub HaveTooLarge : SourceParts → Type 0
HaveTooLarge parts = (ordered : List Row) × IsInOrder parts.lexicon.rows ordered × IsTooLarge (all_rows ordered parts.unknown)

-- the surfaces of these rows may need more cells than an image has
abbrev pub MayLackCells : List Row → Type 0
MayLackCells rows = (ordered : List Row) × IsInOrder rows ordered × (cells_max < most_cells (lexemes_of ordered))

-- the errors of an image except allocation failures: its features are too large, or its surfaces
-- may need too many cells
abbrev pub IsImageCause : Type 0 → Type 0 → SourceFault → Type 0
IsImageCause TooLarge MayLack fault = (TooLarge × (fault ≡ fault_of_image FeaturesTooLarge)) ⊎ (MayLack × (fault ≡ fault_of_image ArrayFull))

-- the errors of the image of these parts
abbrev pub IsImageError : SourceParts → SourceFault → Type 0
IsImageError parts fault = IsMemoryOr fault (IsImageCause (HaveTooLarge parts) (MayLackCells parts.lexicon.rows) fault)
