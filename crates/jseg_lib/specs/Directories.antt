-- The files of a source directory.
use Rattle.std.specs.Prelude.{◌≡◌, ◌≢◌, ◌⊎◌, ℕ, All, List, ◌++◌, Option, map, string_bytes, codes}
use Rattle.std.specs.Path.{slash}
use Rattle.programs.specs.Faults.{Names}
use Rattle.programs.specs.declared.fault.Fault.{Fault}
use Rattle.programs.specs.declared.fault.Fault.TheVariants.{File}
use Rattle.programs.specs.Reading.{AreOfAFile}
use Rattle.jseg_lib.specs.declared.source_directory.Directory.{Directory}
use Rattle.programs.specs.declared.whole_file.WholeFile.{WholeFile}

-- the path of the file `name` in a directory
abbrev pub path_in : List ℕ → List ℕ → List ℕ
path_in dir name = dir ++ codes "/" ++ name

abbrev pub matrix_path : List ℕ → List ℕ
matrix_path dir = path_in dir (codes "matrix.def")

abbrev pub chars_path : List ℕ → List ℕ
chars_path dir = path_in dir (codes "char.def")

abbrev pub unk_path : List ℕ → List ℕ
unk_path dir = path_in dir (codes "unk.def")

-- the path of a lexicon: a file directly in the directory whose name ends with `.csv`
abbrev pub IsLexiconIn : List ℕ → List ℕ → Type 0
IsLexiconIn dir path = (front : List ℕ) × All (λ byte. byte ≢ slash) front × (path ≡ path_in dir (front ++ codes ".csv"))

-- the paths of files
abbrev pub paths_of : List WholeFile → List (List ℕ)
paths_of files = map (λ file. string_bytes file.path) files

-- the path of the directory, or of a source in it
abbrev pub IsReadIn : List ℕ → List ℕ → Type 0
IsReadIn dir path = (path ≡ dir) ⊎ (path ≡ matrix_path dir) ⊎ (path ≡ chars_path dir) ⊎ (path ≡ unk_path dir) ⊎ IsLexiconIn dir path

-- the error names the directory or a source in it, unless it is an allocation failure
abbrev pub NamesReadIn : List ℕ → Fault → Type 0
NamesReadIn dir reported = (path : List ℕ) × IsReadIn dir path × Names File path reported

-- the sources have the bytes of some opened files; the contract doesn't fix which files
pub record HasFilesBytes {F : Type 0} (remaining : F → Option (List ℕ)) (read : Directory) : Type 0 where
  pub matrix : AreOfAFile remaining read.matrix.items
  pub chars : AreOfAFile remaining read.files.chars.bytes.items
  pub unk : AreOfAFile remaining read.files.unk.bytes.items
  pub lexicons : All (λ file. AreOfAFile remaining file.bytes.items) read.files.lexicons.items
