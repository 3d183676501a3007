-- The sources that the contents of files are.
use Rattle.std.specs.Prelude.{◌≡◌, ℕ, List, map}
use Rattle.dict_compile.specs.Results.{lexicons_of}
use Rattle.mj_model.specs.declared.sources.Sources.{Sources}
use Rattle.programs.specs.declared.whole_file.WholeFile.{WholeFile}

-- the contents of files, in order
abbrev pub contents_of : List WholeFile → List (List ℕ)
contents_of files = map (λ (file : WholeFile). file.bytes.items) files

-- the sources have these bytes, file by file, with the lexicons in this order
pub record AreSourcesOf (matrix chars unk : List ℕ) (lexicons : List (List ℕ)) (sources : Sources) : Type 0 where
  pub matrix_is : sources.matrix.now ≡ matrix
  pub chars_are : sources.chars.now ≡ chars
  pub unk_is : sources.unk.now ≡ unk
  pub lexicons_are : lexicons_of sources.lexicons.now ≡ lexicons
