-- The log messages for the steps of a compilation.
use Rattle.std.specs.Prelude.{◌≡◌, ℕ, ◌+◌, ◌-◌, ◌^◌, min, Bool, true, false, List, [], count_by, slice_get, string_bytes}
use Rattle.std.specs.Borrow.{Bor}
use Rattle.std.specs.Option.{option_map_or}
use Rattle.dict_compile.specs.declared.watch.CompileStep.{CompileStep}
use Rattle.dict_compile.specs.declared.watch.CompileStep.TheVariants as step
use Rattle.programs.specs.declared.stage.Stage.{Stage}
use Rattle.programs.specs.declared.stage.Stage.TheVariants as stage
use Rattle.programs.specs.declared.whole_file.WholeFile.{WholeFile}
use Rattle.dictc_lib.specs.declared.progress_reporter.ProgressReporter.{ProgressReporter}

-- the step is that a lexicon was read
abbrev pub is_lexicon : CompileStep → Bool
is_lexicon (step.MatrixRead sizes) = false
is_lexicon (step.CategoriesRead n) = false
is_lexicon step.UnknownRead = false
is_lexicon (step.LexiconRead n) = true
is_lexicon (step.Sorted n) = false

-- after these steps the reporter has counted the lexicons that were read, up to `usize::MAX`
abbrev pub HasReported : List CompileStep → ProgressReporter → Type 0
HasReported steps progress = progress.read ≡ min (count_by is_lexicon steps) (2 ^ 64 - 1)

-- the number of lexicons read after a step
abbrev pub read_after : CompileStep → ℕ → ℕ
read_after (step.MatrixRead sizes) read = read
read_after (step.CategoriesRead n) read = read
read_after step.UnknownRead read = read
read_after (step.LexiconRead n) read = min (read + 1) (2 ^ 64 - 1)
read_after (step.Sorted n) read = read

-- the path of the lexicon with index `k`, or an empty one if there is none
abbrev pub path_of : List WholeFile → ℕ → List ℕ
path_of lexicons k = option_map_or (λ (file : WholeFile). string_bytes file.path) (slice_get lexicons k) []

-- the log message for a step: its counts, and the path of a lexicon that was read
abbrev pub IsStageOf : List WholeFile → ℕ → CompileStep → Stage → Type 0
IsStageOf lexicons read (step.MatrixRead sizes) reported = reported ≡ stage.CostsRead sizes.right sizes.left
IsStageOf lexicons read (step.CategoriesRead n) reported = reported ≡ stage.CategoriesRead n
IsStageOf lexicons read step.UnknownRead reported = reported ≡ stage.UnknownRead
IsStageOf lexicons read (step.LexiconRead n) reported = (path : Bor (List ℕ)) × (reported ≡ stage.LexiconRead path n) × (path.now ≡ path_of lexicons read)
IsStageOf lexicons read (step.Sorted n) reported = reported ≡ stage.Sorted n
