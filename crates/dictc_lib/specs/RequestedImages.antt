-- The image that a command line requests: what the files that it names compile to.
use Rattle.std.specs.Prelude.{◌≡◌, ℕ, List, Result, Ok, String, string_bytes}
use Rattle.std.specs.List.{AllZip}
use Rattle.std.specs.declared.alloc.Global.{Global}
use Rattle.command_lines.specs.declared.dictc.choices.Base.{Base}
use Rattle.command_lines.specs.declared.dictc.choices.Base.TheVariants.{Definitions, System}
use Rattle.command_lines.specs.declared.dictc.choices.Options.{Options}
use Rattle.dict_compile.specs.UserOutcomes.{FindsUserKeysFrom, IsUserCompiledFrom}
use Rattle.dict_compile.specs.declared.compiled.Compiled.{Compiled}
use Rattle.image_format.specs.DigestTests.{test_by}
use Rattle.image_format.specs.declared.digest_test.DigestTest.{DigestTest}
use Rattle.programs.specs.declared.fault.Fault.{Fault}
use Rattle.programs.specs.declared.source_files.SourceFiles.{SourceFiles}
use Rattle.programs.specs.declared.whole_file.WholeFile.{WholeFile}
use Rattle.dictc_lib.specs.CompiledFiles.{IsCompiledFromFiles}
use Rattle.dictc_lib.specs.MatrixFiles.{HasReadEnough}
use Rattle.dictc_lib.specs.SourceContents.{contents_of}
use Rattle.dictc_lib.specs.declared.matrix_file.MatrixFile.{MatrixFile}

-- each file is the result of reading its path, in the order of the paths
abbrev pub AreReadFrom : (List ℕ → Result WholeFile Fault → Type 0) → List (String Global) → List WholeFile → Type 0
AreReadFrom reads paths files = AllZip (λ path file. reads (string_bytes path) (Ok file)) paths files

-- the sources of a system dictionary other than `matrix.def` are the results of reading their paths
pub record AreSourcesReadFrom (reads : List ℕ → Result WholeFile Fault → Type 0) (chars unk : String Global) (lexicons : List (String Global))
    (files : SourceFiles) : Type 0 where
  pub chars_read : reads (string_bytes chars) (Ok files.chars)
  pub unk_read : reads (string_bytes unk) (Ok files.unk)
  pub lexicons_read : AreReadFrom reads lexicons files.lexicons.items

-- the sources at these paths were read, with `matrix.def` as `bytes` and the others as `files`
pub record AreSystemFilesReadFrom (reads_costs : List ℕ → Result MatrixFile Fault → Type 0) (reads : List ℕ → Result WholeFile Fault → Type 0)
    (matrix chars unk : String Global) (lexicons : List (String Global)) (bytes : List ℕ) (files : SourceFiles) : Type 0 where
  pub costs : MatrixFile
  pub costs_read : reads_costs (string_bytes matrix) (Ok costs)
  pub enough_read : HasReadEnough bytes costs
  pub matrix_path : string_bytes files.matrix ≡ string_bytes matrix
  pub others_read : AreSourcesReadFrom reads chars unk lexicons files

-- the image at the path `dic` was loaded as `system`, and the lexicons at these paths were read
pub record AreUserFilesReadFrom (reads : List ℕ → Result WholeFile Fault → Type 0) (loads : List ℕ → DigestTest → Result (List ℕ) Fault → Type 0)
    (dic : String Global) (digest : DigestTest) (lexicons : List (String Global)) (system : List ℕ) (files : List WholeFile) : Type 0 where
  pub system_loaded : loads (string_bytes dic) digest (Ok system)
  pub lexicons_read : AreReadFrom reads lexicons files

-- the image is what the sources at these paths compile to
abbrev pub IsSystemImageFrom : (List ℕ → Result MatrixFile Fault → Type 0) → (List ℕ → Result WholeFile Fault → Type 0)
    → String Global → String Global → String Global → List (String Global) → Compiled → Type 0
IsSystemImageFrom reads_costs reads matrix chars unk lexicons compiled =
    (bytes : List ℕ) × (files : SourceFiles)
    × AreSystemFilesReadFrom reads_costs reads matrix chars unk lexicons bytes files × IsCompiledFromFiles bytes files compiled

-- the image is what the lexicons at these paths compile to, for the system dictionary of the image
-- at the path `dic`
abbrev pub IsUserImageFrom : (List ℕ → Result WholeFile Fault → Type 0) → (List ℕ → DigestTest → Result (List ℕ) Fault → Type 0)
    → String Global → DigestTest → List (String Global) → Compiled → Type 0
IsUserImageFrom reads loads dic digest lexicons compiled =
    (system : List ℕ) × (files : List WholeFile) × AreUserFilesReadFrom reads loads dic digest lexicons system files
    × IsUserCompiledFrom system (contents_of files) compiled × FindsUserKeysFrom system (contents_of files) compiled

-- the image is what lexicons compile to with this base
abbrev pub IsImageFrom : (List ℕ → Result MatrixFile Fault → Type 0) → (List ℕ → Result WholeFile Fault → Type 0) → (List ℕ → DigestTest → Result (List ℕ) Fault → Type 0)
    → Base → List (String Global) → Compiled → Type 0
IsImageFrom reads_costs reads loads (Definitions matrix chars unk) = IsSystemImageFrom reads_costs reads matrix chars unk
IsImageFrom reads_costs reads loads (System dic skip_digest) = IsUserImageFrom reads loads dic (test_by skip_digest)

-- the image is the one that the options request
abbrev pub IsRequestedImage : (List ℕ → Result MatrixFile Fault → Type 0) → (List ℕ → Result WholeFile Fault → Type 0) → (List ℕ → DigestTest → Result (List ℕ) Fault → Type 0)
    → Options → Compiled → Type 0
IsRequestedImage reads_costs reads loads options = IsImageFrom reads_costs reads loads options.base options.lexicons.items
