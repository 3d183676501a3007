-- The rows of a list of images.
use Rattle.std.specs.Prelude.{ℕ, List, ◌++◌, codes, decimal}

-- the row of an image: its name, size in bytes, number of entries or error, and path, separated by
-- tabs
abbrev pub row_of : List ℕ → ℕ → List ℕ → List ℕ → List ℕ
row_of name bytes entries path = name ++ codes "\t" ++ decimal bytes ++ codes "\t" ++ entries ++ codes "\t" ++ path ++ codes "\n"
