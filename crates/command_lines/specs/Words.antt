-- The values of `--explain`: a code or a name, in upper or lower case (this project's own choice).
use Rattle.std.specs.Prelude.{◌≡◌, ℕ, List, map}
use Rattle.std.specs.Char.{to_ascii_lowercase}

-- the words are equal except for ASCII case
abbrev pub IsSameWord : List ℕ → List ℕ → Type 0
IsSameWord one two = map to_ascii_lowercase one ≡ map to_ascii_lowercase two
