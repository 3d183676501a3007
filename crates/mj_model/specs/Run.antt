-- Runs of characters. Comparing each character with the one before it is this project's own choice.
use Rattle.std.specs.Prelude.{ℕ, suc, ◌+◌, if◌then◌else◌, List, [], ◌∷◌, length, take, take_while, encode_utf8_all}
use Rattle.mj_model.specs.declared.category.CharInfo.{CharInfo}
use Rattle.mj_model.specs.Categories.{shares}

-- the number of characters of a run: the first shares a category with `entry`, and each further one
-- with the character before it
abbrev pub run : (ℕ → CharInfo) → CharInfo → List ℕ → ℕ
run info entry [] = 0
run info entry (c ∷ cs) = if shares entry (info c) then suc (run info (info c) cs) else 0

-- the number of bytes of the first n characters
abbrev pub bytes_of : ℕ → List ℕ → ℕ
bytes_of n cs = length (encode_utf8_all (take n cs))

-- the number of characters at the start that share a category with `first`
abbrev pub sharing_with : CharInfo → (ℕ → CharInfo) → List ℕ → ℕ
sharing_with first info cs = length (take_while (λ c. shares first (info c)) cs)

-- the number of characters, from the first one on, that share a category with the first one
abbrev pub sharing_with_first : (ℕ → CharInfo) → ℕ → List ℕ → ℕ
sharing_with_first info first cs = 1 + sharing_with (info first) info cs
