-- The errors of writing the parts of an image.
use Rattle.std.specs.Prelude.{◌≡◌, ℕ, ◌+◌, ◌<◌, ◌≤◌, ◌⊎◌, List, length, sum_by}
use Rattle.mj_model.specs.CellMap.{Cell}
use Rattle.double_array.specs.declared.fault.DaFault.{DaFault}
use Rattle.double_array.specs.declared.fault.DaFault.TheVariants.{Full, Memory as NoMemory}
use Rattle.mj_model.specs.declared.source_fault.SourceKind.{SourceKind}
use Rattle.mj_model.specs.declared.source_fault.SourceKind.TheVariants.{ArrayFull, FeaturesTooLarge, Memory}
use Rattle.mj_model.specs.Lexicon.{Row}
use Rattle.image_format.specs.ImageBounds.{cells_max, each_once, feature_bytes_end, most_cells}
use Rattle.image_writer.specs.Entries.{lexemes_of}
use Rattle.image_writer.specs.Sections.{IsTooLarge}

-- an error of an image's writer: out of memory, or too many cells or bytes of features
abbrev pub IsWriterFault : SourceKind → Type 0
IsWriterFault fault = (fault ≡ Memory) ⊎ (fault ≡ ArrayFull) ⊎ (fault ≡ FeaturesTooLarge)

-- an error of tokens and features: out of memory, or too many bytes of features
abbrev pub IsTokenFault : SourceKind → Type 0
IsTokenFault fault = (fault ≡ Memory) ⊎ (fault ≡ FeaturesTooLarge)

-- an error of the double array, as an error of the sources
abbrev pub kind_of : DaFault → SourceKind
kind_of Full = ArrayFull
kind_of NoMemory = Memory

-- the array is reported as full only if the surfaces of these rows may need more cells than an
-- image has
abbrev pub FullOnlyFor : List Row → SourceKind → Type 0
FullOnlyFor rows fault = fault ≡ ArrayFull → cells_max < most_cells (lexemes_of rows)

-- the array is reported as full only if too few cells may be left for a surface
abbrev pub FullOnlyNear : List Cell → List ℕ → SourceKind → Type 0
FullOnlyNear cells surface fault = fault ≡ ArrayFull → cells_max < length cells + length surface + 600

-- the features are reported as too large only if those of these rows are
abbrev pub LargeOnlyFor : List Row → SourceKind → Type 0
LargeOnlyFor rows fault = fault ≡ FeaturesTooLarge → IsTooLarge rows

-- the features are reported as too large only if the distinct texts are
abbrev pub LargeOnlyOf : List (List ℕ) → SourceKind → Type 0
LargeOnlyOf texts fault = fault ≡ FeaturesTooLarge → feature_bytes_end ≤ sum_by length (each_once texts)

-- the features are reported as too large only if a text exceeds the limit after these bytes
abbrev pub LargeOnlyWith : List ℕ → List ℕ → SourceKind → Type 0
LargeOnlyWith bytes text fault = fault ≡ FeaturesTooLarge → feature_bytes_end ≤ length bytes + length text
