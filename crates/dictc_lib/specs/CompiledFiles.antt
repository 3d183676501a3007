-- What the files of a dictionary compile to.
use Rattle.std.specs.Prelude.{◌≡◌, ℕ, List, Err}
use Rattle.dict_compile.specs.Compilation.{IsCompilationCause, IsCompilationFault, IsUserCause, IsUserFault}
use Rattle.dict_compile.specs.Outcomes.{FindsKeysFrom, IsCompiledFrom}
use Rattle.dict_compile.specs.Results.{IsReportedFor}
use Rattle.dict_compile.specs.declared.compiled.Compiled.{Compiled}
use Rattle.image_format.specs.ImageMeaning.{image_tables}
use Rattle.matrix_def.specs.Reading.{reported_connection}
use Rattle.mj_model.specs.FirstFault.{IsMemoryOr}
use Rattle.mj_model.specs.declared.source_fault.SourceFault.{SourceFault}
use Rattle.mj_model.specs.declared.sources.Sources.{Sources}
use Rattle.programs.specs.declared.source_files.SourceFiles.{SourceFiles}
use Rattle.dictc_lib.specs.SourceContents.{AreSourcesOf, contents_of}

-- the sources are the bytes of `matrix.def` and the contents of the other files
abbrev pub AreOfFiles : List ℕ → SourceFiles → Sources → Type 0
AreOfFiles matrix files = AreSourcesOf matrix files.chars.bytes.items files.unk.bytes.items (contents_of files.lexicons.items)

-- the image and the statistics are those of these files, and lookup finds every entry
abbrev pub IsCompiledFromFiles : List ℕ → SourceFiles → Compiled → Type 0
IsCompiledFromFiles matrix files compiled =
    (sources : Sources) × AreOfFiles matrix files sources × IsCompiledFrom sources compiled × FindsKeysFrom sources compiled

-- no other error of these files comes first, unless an allocation failed or the double array is
-- full
abbrev pub IsFirstError : Sources → SourceFault → Type 0
IsFirstError sources fault = (first : SourceFault) → IsCompilationFault sources first → IsReportedFor first fault

-- the error of these files, or out of memory
abbrev pub IsErrorOfFiles : List ℕ → SourceFiles → SourceFault → Type 0
IsErrorOfFiles matrix files fault =
    IsMemoryOr fault ((sources : Sources) × AreOfFiles matrix files sources × IsCompilationCause sources fault × IsFirstError sources fault)

-- the first error of `matrix.def`, with the line number that a reader counts, or out of memory
abbrev pub IsErrorOfMatrix : List ℕ → SourceFault → Type 0
IsErrorOfMatrix matrix fault = IsMemoryOr fault (reported_connection matrix ≡ Err fault)

-- the error of lexicons that are compiled for a system dictionary
abbrev pub IsErrorOfLexicons : List ℕ → List (List ℕ) → SourceFault → Type 0
IsErrorOfLexicons system lexicons fault =
    IsMemoryOr fault (IsUserCause (image_tables system) lexicons fault)
    × ((first : SourceFault) → IsUserFault (image_tables system) lexicons first → IsReportedFor first fault)
