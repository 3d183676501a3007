-- The first characters of texts.
use Rattle.std.specs.Prelude.{ℕ, List, [], ◌∷◌, Option, Some, None}
use Rattle.std.specs.Char.{len_utf8}
use Rattle.mj_model.specs.declared.category.CharInfo.{CharInfo}
use Rattle.mj_model.specs.Tables.{Overlay}
use Rattle.mj_model.specs.Blanks.{chars_from}
use Rattle.word_lookup.specs.declared.first_character.FirstCharacter.{FirstCharacter}

-- the first of these characters, if there is one
abbrev pub first_in : (ℕ → CharInfo) → List ℕ → Option FirstCharacter
first_in info [] = None
first_in info (c ∷ cs) = Some (record { character = c; bytes = len_utf8 c; info = info c })

-- the first character of a text at a position
abbrev pub first_at : Overlay → List ℕ → ℕ → Option FirstCharacter
first_at o text place = first_in o.system.info (chars_from text place)
