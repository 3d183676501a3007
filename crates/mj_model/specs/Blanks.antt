-- Blanks before a word: a run of characters that starts from the categories of U+0020. (The
-- definition of a run is this project's own choice.)
use Rattle.std.specs.Prelude.{ℕ, ◌+◌, List, drop, chars}
use Rattle.mj_model.specs.Tables.{Overlay}
use Rattle.mj_model.specs.Run.{run, bytes_of}

-- the code point whose categories start a run of blanks
abbrev pub space : ℕ
space = 0x20

-- the characters of a text from position p on
abbrev pub chars_from : List ℕ → ℕ → List ℕ
chars_from text p = chars (drop p text)

-- the position after the blanks at position p
abbrev pub skip : Overlay → List ℕ → ℕ → ℕ
skip o text p = p + bytes_of (run o.system.info (o.system.info space) (chars_from text p)) (chars_from text p)
