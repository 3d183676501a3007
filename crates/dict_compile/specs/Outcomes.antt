-- The outcomes of compiling a system dictionary, independent of the `Watch`.
use Rattle.std.specs.Prelude.{Result}
use Rattle.mj_model.specs.declared.source_fault.SourceFault.{SourceFault}
use Rattle.mj_model.specs.declared.sources.Sources.{Sources}
use Rattle.mj_model.specs.FirstFault.{IsMemoryOr}
use Rattle.image_format.specs.ImageMeaning.{image_tables}
use Rattle.dict_compile.specs.declared.compiled.Compiled.{Compiled}
use Rattle.dict_compile.specs.Results.{IsRejectedFor}
use Rattle.dict_compile.specs.Compilation.{IsCompilation, IsCompilationCause, IsCompilationFault}
use Rattle.dict_compile.specs.EveryKey.{FindsKeysOfSources}

-- the image has the tables of the sources, and the statistics are those of their lines
abbrev pub IsCompiledFrom : Sources → Compiled → Type 0
IsCompiledFrom s compiled = IsCompilation s compiled.image.items compiled.entries compiled.skipped

-- the image has the rows of the sources under every key
abbrev pub FindsKeysFrom : Sources → Compiled → Type 0
FindsKeysFrom s compiled = FindsKeysOfSources s (image_tables compiled.image.items)

-- the errors of a compilation
abbrev pub IsCompilationError : Sources → SourceFault → Type 0
IsCompilationError s fault = IsMemoryOr fault (IsCompilationCause s fault)

-- invalid sources are rejected with their first error, unless an allocation fails or the double
-- array is full
abbrev pub IsRejectedAtFault : Sources → Result Compiled SourceFault → Type 0
IsRejectedAtFault s result = (fault : SourceFault) → IsCompilationFault s fault → IsRejectedFor fault result
