-- The outcomes of compiling a user dictionary for the image of a system dictionary, independent of
-- the `Watch`.
use Rattle.std.specs.Prelude.{◌≡◌, ℕ, List, Result, Err}
use Rattle.mj_model.specs.declared.source_fault.SourceFault.{SourceFault}
use Rattle.mj_model.specs.FirstFault.{IsMemoryOr}
use Rattle.image_format.specs.ImageMeaning.{image_tables}
use Rattle.dict_compile.specs.declared.compiled.Compiled.{Compiled}
use Rattle.dict_compile.specs.declared.fault.CompileUserFault.{CompileUserFault}
use Rattle.dict_compile.specs.declared.fault.CompileUserFault.TheVariants.{Source}
use Rattle.dict_compile.specs.Results.{IsUserRejectedFor}
use Rattle.dict_compile.specs.Compilation.{IsUserCause, IsUserCompilation, IsUserFault}
use Rattle.dict_compile.specs.EveryKey.{FindsKeysOf}

-- the image has the entries of the lexicons, and the statistics are those of their lines
abbrev pub IsUserCompiledFrom : List ℕ → List (List ℕ) → Compiled → Type 0
IsUserCompiledFrom system lexicons compiled =
    IsUserCompilation (image_tables system) lexicons compiled.image.items compiled.entries compiled.skipped

-- the image has the rows of the lexicons under every key
abbrev pub FindsUserKeysFrom : List ℕ → List (List ℕ) → Compiled → Type 0
FindsUserKeysFrom system lexicons compiled = FindsKeysOf (image_tables system).sizes lexicons (image_tables compiled.image.items)

-- a reported error of the lexicons is one of theirs, or out of memory
abbrev pub IsUserError : List ℕ → List (List ℕ) → Result Compiled CompileUserFault → Type 0
IsUserError system lexicons result =
    (fault : SourceFault) → result ≡ Err (Source fault) → IsMemoryOr fault (IsUserCause (image_tables system) lexicons fault)

-- invalid lexicons are rejected with their first error, unless an allocation fails or the double
-- array is full
abbrev pub IsUserRejectedAtFault : List ℕ → List (List ℕ) → Result Compiled CompileUserFault → Type 0
IsUserRejectedAtFault system lexicons result =
    (fault : SourceFault) → IsUserFault (image_tables system) lexicons fault → IsUserRejectedFor fault result
