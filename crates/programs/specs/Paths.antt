-- Paths of files that were read.
use Rattle.std.specs.Prelude.{◌≡◌, ℕ, List, Option, Some, None, MatchOption, slice_get, string_bytes}
use Rattle.std.specs.Borrow.{Bor}
use Rattle.programs.specs.declared.whole_file.WholeFile.{WholeFile}

-- the search found this path
abbrev pub IsFound : List ℕ → Option (Bor (List ℕ)) → Type 0
IsFound path None = ⊥
IsFound path (Some found) = found.now ≡ path

-- the search found the path of this file
abbrev pub IsPathOf : WholeFile → Option (Bor (List ℕ)) → Type 0
IsPathOf file = IsFound (string_bytes file.path)

-- the search found the path of the file with index `i`, or nothing if there is no such file
abbrev pub IsLexiconPath : List WholeFile → ℕ → Option (Bor (List ℕ)) → Type 0
IsLexiconPath files i path = MatchOption (slice_get files i) (path ≡ None) (λ file. IsPathOf file path)
