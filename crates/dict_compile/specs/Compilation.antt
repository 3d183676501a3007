-- The result of a compilation: an image with the tables of its sources and statistics of their
-- lines, or the first error of the sources.
use Rattle.std.specs.Prelude.{◌≡◌, ℕ, ◌<◌, ◌≤◌, ◌⊎◌, List, [], length, Ok, Err}
use Rattle.mj_model.specs.declared.source_fault.TheConstants.{FIRST_LEXICON_FILE}
use Rattle.mj_model.specs.declared.source_fault.SourceFault.{SourceFault}
use Rattle.mj_model.specs.declared.source_fault.SourceKind.TheVariants.{ArrayFull, FeaturesTooLarge}
use Rattle.dict_compile.specs.Faults.{fault_of_image}
use Rattle.mj_model.specs.declared.sources.Sources.{Sources}
use Rattle.mj_model.specs.CharDef.{CharSource}
use Rattle.mj_model.specs.declared.matrix_sizes.MatrixSizes.{MatrixSizes}
use Rattle.mj_model.specs.Dictionary.{AreLexicons, IsLexiconOf}
use Rattle.image_format.specs.ImageBounds.{cells_max, feature_bytes, feature_bytes_end, lexicon_tokens, most_cells, system_tokens}
use Rattle.image_format.specs.ImageBytes.{header_of, section}
use Rattle.image_format.specs.ImageFaults.{IsIntact}
use Rattle.image_format.specs.ImageMeaning.{image_tables, image_lexicon, image_categories}
use Rattle.mj_model.specs.Lexicon.{Row, SkipLines}
use Rattle.mj_model.specs.SourceTables.{HaveTables, AreChars, IsSourcesFault, lexicon_bytes}
use Rattle.mj_model.specs.Tables.{Tables, Token, Lexeme, System, User}
use Rattle.image_writer.specs.Compact.{AreCellsFor, AreChanging, features_once}

-- ---- system and user dictionaries

-- An intact image of layout 3 with these tokens, each distinct feature once, and no unneeded cells.
-- `entries` is the number of lexicon entries, `skipped` the number of skipped lines.
pub record IsCompiled (tokens : List Token) (lexicons : List (List ℕ)) (image : List ℕ) (entries skipped : ℕ) : Type 0 where
  pub intact : IsIntact image
  pub layout : (header_of image).layout ≡ 3
  pub few_features : feature_bytes tokens < feature_bytes_end
  pub cells : AreCellsFor (image_lexicon image) (section image 5)
  pub features : section image 8 ≡ features_once tokens
  pub all_entries : entries ≡ length (image_lexicon image)
  pub all_skipped : SkipLines lexicons skipped

-- the features of the tokens are too large
abbrev pub IsFeaturesFault : List Token → SourceFault → Type 0
IsFeaturesFault tokens fault = (feature_bytes_end ≤ feature_bytes tokens) × (fault ≡ fault_of_image FeaturesTooLarge)

-- the surfaces may need more cells than an image has; the specification does not decide whether
-- they do
abbrev pub MayBeFull : List Lexeme → SourceFault → Type 0
MayBeFull lexicon fault = (cells_max < most_cells lexicon) × (fault ≡ fault_of_image ArrayFull)

-- ---- system dictionaries

-- the image has the categories of `char.def` with their names
abbrev pub HasSourceCategories : Sources → List ℕ → Type 0
HasSourceCategories s image = (chars : CharSource) × AreChars s chars × (image_categories image ≡ chars.categories)

-- an image with the tables of the sources, as few ranges of code points as possible, and the
-- statistics of the lines
pub record IsCompilation (s : Sources) (image : List ℕ) (entries skipped : ℕ) : Type 0 where
  pub have : HaveTables s (image_tables image)
  pub compiled : IsCompiled (system_tokens (image_tables image)) (lexicon_bytes s) image entries skipped
  pub categories : HasSourceCategories s image
  pub ranges : AreChanging (section image 3)

-- the first error of a compilation: that of the sources, otherwise that of the features
abbrev pub IsCompilationFault : Sources → SourceFault → Type 0
IsCompilationFault s fault =
    IsSourcesFault s fault ⊎ ((t : Tables) × HaveTables s t × IsFeaturesFault (system_tokens t) fault)

-- the errors of a compilation except allocation failures
abbrev pub IsCompilationCause : Sources → SourceFault → Type 0
IsCompilationCause s fault =
    IsCompilationFault s fault ⊎ ((t : Tables) × HaveTables s t × MayBeFull t.lexicon fault)

-- ---- user dictionaries, for the sizes of a system dictionary

-- the lexicons are valid, and a user dictionary with their entries has these tables
pub record HaveUserTables (sizes : MatrixSizes) (lexicons : List (List ℕ)) (t : Tables) : Type 0 where
  pub kind : t.kind ≡ User
  pub sizes_kept : t.sizes ≡ sizes
  pub rows : List Row
  pub are_rows : AreLexicons sizes FIRST_LEXICON_FILE [] lexicons (Ok rows)
  pub is_lexicon : IsLexiconOf rows t.lexicon

-- the image of a user dictionary with the entries of the lexicons, for a system dictionary, with
-- the statistics of the lines
pub record IsUserCompilation (system : Tables) (lexicons : List (List ℕ)) (image : List ℕ) (entries skipped : ℕ) : Type 0 where
  pub is_system : system.kind ≡ System
  pub have : HaveUserTables system.sizes lexicons (image_tables image)
  pub compiled : IsCompiled (lexicon_tokens (image_lexicon image)) lexicons image entries skipped

-- the first error of lexicons for a system dictionary: their own, otherwise that of the features
abbrev pub IsUserFault : Tables → List (List ℕ) → SourceFault → Type 0
IsUserFault system lexicons fault =
    (system.kind ≡ System)
    × (AreLexicons system.sizes FIRST_LEXICON_FILE [] lexicons (Err fault)
    ⊎ ((t : Tables) × HaveUserTables system.sizes lexicons t × IsFeaturesFault (lexicon_tokens t.lexicon) fault))

-- the errors of a user dictionary's compilation except allocation failures
abbrev pub IsUserCause : Tables → List (List ℕ) → SourceFault → Type 0
IsUserCause system lexicons fault =
    IsUserFault system lexicons fault
    ⊎ ((system.kind ≡ System) × (t : Tables) × HaveUserTables system.sizes lexicons t × MayBeFull t.lexicon fault)
