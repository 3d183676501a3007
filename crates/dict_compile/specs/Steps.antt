-- The steps of a compilation, as a `Watch` receives them.
use Rattle.std.specs.Prelude.{◌≡◌, ℕ, ◌+◌, List, [], ◌∷◌, ◌++◌, length, take, slice_get, Some, Result, Ok, IfOk}
use Rattle.mj_model.specs.declared.matrix_sizes.MatrixSizes.{MatrixSizes}
use Rattle.mj_model.specs.declared.source_fault.TheConstants.{FIRST_LEXICON_FILE}
use Rattle.mj_model.specs.declared.sources.Sources.{Sources}
use Rattle.mj_model.specs.CharDef.{CharSource}
use Rattle.mj_model.specs.Connection.{Connection}
use Rattle.mj_model.specs.Dictionary.{AreLexicons}
use Rattle.mj_model.specs.Lexicon.{Row}
use Rattle.mj_model.specs.SourceTables.{AreChars, IsConnection, lexicon_bytes}
use Rattle.dict_compile.specs.declared.parts.SourceParts.{SourceParts}
use Rattle.dict_compile.specs.declared.watch.CompileStep.{CompileStep}
use Rattle.dict_compile.specs.declared.watch.CompileStep.TheVariants.{MatrixRead, CategoriesRead, UnknownRead, LexiconRead, Sorted}

-- ---- lexicons

-- the step after lexicon `k`, counted from 0: it has the number of entries in the lexicons so far
pub record IsLexiconStep (sizes : MatrixSizes) (lexicons : List (List ℕ)) (k : ℕ) (step : CompileStep) : Type 0 where
  pub rows : List Row
  pub are_rows : AreLexicons sizes FIRST_LEXICON_FILE [] (take (k + 1) lexicons) (Ok rows)
  pub reported : step ≡ LexiconRead (length rows)

-- a step for each lexicon, in order
pub record AreLexiconSteps (sizes : MatrixSizes) (lexicons : List (List ℕ)) (steps : List CompileStep) : Type 0 where
  pub one_each : length steps ≡ length lexicons
  pub in_order : (k : ℕ) (step : CompileStep) → slice_get steps k ≡ Some step → IsLexiconStep sizes lexicons k step

-- the steps of reading the lexicons in order and then sorting all entries
pub record AreEntrySteps (sizes : MatrixSizes) (lexicons : List (List ℕ)) (steps : List CompileStep) : Type 0 where
  pub reading : List CompileStep
  pub are_reading : AreLexiconSteps sizes lexicons reading
  pub rows : List Row
  pub are_rows : AreLexicons sizes FIRST_LEXICON_FILE [] lexicons (Ok rows)
  pub all : steps ≡ reading ++ Sorted (length rows) ∷ []

-- ---- all sources

-- the steps before the first lexicon: `matrix.def`, `char.def` with its number of categories, and
-- `unk.def`
abbrev pub steps_before : MatrixSizes → ℕ → List CompileStep
steps_before sizes categories = MatrixRead sizes ∷ CategoriesRead categories ∷ UnknownRead ∷ []

-- the steps of a system dictionary's compilation
pub record AreSteps (s : Sources) (steps : List CompileStep) : Type 0 where
  pub connection : Connection
  pub is_connection : IsConnection s connection
  pub chars : CharSource
  pub are_chars : AreChars s chars
  pub entries : List CompileStep
  pub are_entries : AreEntrySteps connection.sizes (lexicon_bytes s) entries
  pub all : steps ≡ steps_before connection.sizes (length chars.categories) ++ entries

-- the steps of reading sources with these parts
pub record AreReadingSteps (lexicons : List (List ℕ)) (parts : SourceParts) (steps : List CompileStep) : Type 0 where
  pub reading : List CompileStep
  pub are_reading : AreLexiconSteps parts.matrix.sizes lexicons reading
  pub all : steps ≡ steps_before parts.matrix.sizes (length parts.chars.categories) ++ reading

-- ---- the receiver

-- If the result is Ok, the receiver got further steps after those before. `AreFor` relates these
-- steps to the value of the result.
abbrev pub ReportsSteps : {T E : Type 0} → (List CompileStep → Type 0) → (List CompileStep → Type 0) → (T → List CompileStep → Type 0) → Result T E → Type 0
ReportsSteps Old New AreFor result =
    (before : List CompileStep) → Old before → IfOk result (λ made. (steps : List CompileStep) × AreFor made steps × New (before ++ steps))
