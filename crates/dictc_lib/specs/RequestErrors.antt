-- Why the image that a command line requests is not compiled.
use Rattle.std.specs.Prelude.{◌≡◌, ◌⊎◌, ℕ, Bool, List, ◌∷◌, Result, String, string_bytes}
use Rattle.std.specs.declared.alloc.Global.{Global}
use Rattle.command_lines.specs.declared.dictc.choices.Base.{Base}
use Rattle.command_lines.specs.declared.dictc.choices.Base.TheVariants.{Definitions, System}
use Rattle.command_lines.specs.declared.dictc.choices.Command.{Command}
use Rattle.command_lines.specs.declared.dictc.choices.Command.TheVariants.{Ids, Image}
use Rattle.command_lines.specs.declared.dictc.choices.Options.{Options}
use Rattle.image_format.specs.DigestTests.{test_by}
use Rattle.image_format.specs.declared.digest_test.DigestTest.{DigestTest}
use Rattle.programs.specs.Faults.{Names, NamesFileOrImage, NamesOneOf}
use Rattle.programs.specs.declared.fault.Fault.{Fault}
use Rattle.programs.specs.declared.fault.Fault.TheVariants.{File, Output}
use Rattle.programs.specs.declared.source_files.SourceFiles.{SourceFiles}
use Rattle.programs.specs.declared.whole_file.WholeFile.{WholeFile}
use Rattle.dictc_lib.specs.HostFiles.{host_loads, host_reads, host_reads_costs}
use Rattle.dictc_lib.specs.Rejections.{IsForFault, IsRejectionOfLexicons, IsRejectionOfSources}
use Rattle.dictc_lib.specs.RequestedImages.{AreSystemFilesReadFrom, AreUserFilesReadFrom}
use Rattle.dictc_lib.specs.declared.compile_error.CompileError.{CompileError}
use Rattle.dictc_lib.specs.declared.compile_error.CompileError.TheVariants.{Fault as ForFault}
use Rattle.dictc_lib.specs.declared.matrix_file.MatrixFile.{MatrixFile}

-- a file at one of these paths can't be read, or an allocation failed
abbrev pub IsReadingError : List (String Global) → CompileError → Type 0
IsReadingError paths = IsForFault (NamesOneOf paths)

-- the image at this path can't be read or is rejected, or an allocation failed
abbrev pub IsLoadingError : String Global → CompileError → Type 0
IsLoadingError dic = IsForFault (NamesFileOrImage (string_bytes dic))

-- why no system dictionary is compiled: a source at one of these paths can't be read, or they were
-- read and the sources are rejected
abbrev pub IsSystemError : (List ℕ → Result MatrixFile Fault → Type 0) → (List ℕ → Result WholeFile Fault → Type 0)
    → String Global → String Global → String Global → List (String Global) → Bool → CompileError → Type 0
IsSystemError reads_costs reads matrix chars unk lexicons all_faults error =
    IsReadingError (matrix ∷ chars ∷ unk ∷ lexicons) error
    ⊎ ((bytes : List ℕ) × (files : SourceFiles)
    × AreSystemFilesReadFrom reads_costs reads matrix chars unk lexicons bytes files × IsRejectionOfSources bytes files all_faults error)

-- why no user dictionary is compiled: the image at the path `dic` can't be loaded, a lexicon at one
-- of these paths can't be read, or they were read and the lexicons are rejected
abbrev pub IsUserDictionaryError : (List ℕ → Result WholeFile Fault → Type 0) → (List ℕ → DigestTest → Result (List ℕ) Fault → Type 0)
    → String Global → DigestTest → List (String Global) → Bool → CompileError → Type 0
IsUserDictionaryError reads loads dic digest lexicons all_faults error =
    IsLoadingError dic error ⊎ IsReadingError lexicons error
    ⊎ ((system : List ℕ) × (files : List WholeFile)
    × AreUserFilesReadFrom reads loads dic digest lexicons system files × IsRejectionOfLexicons (string_bytes dic) system files all_faults error)

-- why lexicons do not compile with this base
abbrev pub IsErrorFrom : (List ℕ → Result MatrixFile Fault → Type 0) → (List ℕ → Result WholeFile Fault → Type 0) → (List ℕ → DigestTest → Result (List ℕ) Fault → Type 0)
    → Base → List (String Global) → Bool → CompileError → Type 0
IsErrorFrom reads_costs reads loads (Definitions matrix chars unk) = IsSystemError reads_costs reads matrix chars unk
IsErrorFrom reads_costs reads loads (System dic skip_digest) = IsUserDictionaryError reads loads dic (test_by skip_digest)

-- why the files that the options name do not compile
abbrev pub IsRequestError : (List ℕ → Result MatrixFile Fault → Type 0) → (List ℕ → Result WholeFile Fault → Type 0) → (List ℕ → DigestTest → Result (List ℕ) Fault → Type 0)
    → Options → CompileError → Type 0
IsRequestError reads_costs reads loads options = IsErrorFrom reads_costs reads loads options.base options.lexicons.items options.all_faults

-- why there is no image: the files that the options name do not compile, or it can't be written
abbrev pub IsImageError : (List ℕ → Result MatrixFile Fault → Type 0) → (List ℕ → Result WholeFile Fault → Type 0) → (List ℕ → DigestTest → Result (List ℕ) Fault → Type 0)
    → Options → CompileError → Type 0
IsImageError reads_costs reads loads options error =
    IsRequestError reads_costs reads loads options error ⊎ IsForFault (Names File (string_bytes options.out)) error

-- why compiling the host's files fails: there is no image, or standard output fails
abbrev pub IsReportError : Options → CompileError → Type 0
IsReportError options error = IsImageError host_reads_costs host_reads host_loads options error ⊎ (error ≡ ForFault Output)

-- why a command fails; listing ids fails only with an error that has not been reported yet
abbrev pub IsCommandError : Command → CompileError → Type 0
IsCommandError (Image options) error = IsReportError options error
IsCommandError (Ids options) error = (fault : Fault) × (error ≡ ForFault fault)
