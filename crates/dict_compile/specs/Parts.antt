-- The parsed sources of a system dictionary.
use Rattle.std.specs.Prelude.{◌≡◌, [], length, Ok}
use Rattle.mj_model.specs.declared.source_fault.SourceFault.{SourceFault}
use Rattle.mj_model.specs.declared.sources.Sources.{Sources}
use Rattle.mj_model.specs.CharDef.{CharSource}
use Rattle.mj_model.specs.FirstFault.{IsMemoryOr}
use Rattle.mj_model.specs.Lexicon.{SkipLines}
use Rattle.mj_model.specs.Connection.{Connection}
use Rattle.mj_model.specs.SourceTables.{AreChars, AreRows, AreUnknown, IsConnection, IsSourcesFault, lexicon_bytes}
use Rattle.matrix_def.specs.Costs.{IsTableOf as IsCostTableOf}
use Rattle.char_def.specs.Categories.{IsTableOf}
use Rattle.char_def.specs.Outside.{all_lines_outside}
use Rattle.dict_compile.specs.declared.parts.SourceParts.{SourceParts}

-- the sources are valid, and these are their contents
pub record AreParts (s : Sources) (parts : SourceParts) : Type 0 where
  pub connection : Connection
  pub is_connection : IsConnection s connection
  pub matrix : IsCostTableOf connection parts.matrix
  pub chars : CharSource
  pub are_chars : AreChars s chars
  pub table : IsTableOf chars parts.chars
  pub unknown : AreUnknown s connection chars parts.unknown
  pub rows : AreRows s connection (Ok parts.lexicon.rows)
  pub skipped : SkipLines (lexicon_bytes s) parts.skipped

-- the parts fit together: all ids are within the sizes of the matrix, and each category has a list
-- of unknown entries
pub record FitTogether (parts : SourceParts) : Type 0 where
  pub sizes : parts.lexicon.sizes ≡ parts.matrix.sizes
  pub categories : length parts.unknown ≡ length parts.chars.categories
  pub ids : all_lines_outside parts.matrix.sizes parts.unknown ≡ []

-- the errors of reading the sources: their first error, or out of memory
abbrev pub IsReadingError : Sources → SourceFault → Type 0
IsReadingError s fault = IsMemoryOr fault (IsSourcesFault s fault)
