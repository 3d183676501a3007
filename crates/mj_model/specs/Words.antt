-- The words at a position of a text.
use Rattle.std.specs.Prelude.{ℕ, ◌+◌, Bool, true, false, ◌&&◌, nat_lt, nat_le, if◌then◌else◌, List, [], ◌∷◌, ◌++◌, length, drop, map, flat_map}
use Rattle.std.specs.Str.{is_utf8}
use Rattle.mj_model.specs.declared.word.Word.{Word}
use Rattle.mj_model.specs.declared.word.Origin.TheVariants.{Unknown}
use Rattle.mj_model.specs.Tables.{Overlay, Token}
use Rattle.mj_model.specs.Run.{bytes_of}
use Rattle.mj_model.specs.Blanks.{skip, chars_from}
use Rattle.mj_model.specs.KnownWords.{known_words, word_of}
use Rattle.mj_model.specs.UnknownSpans.{spans}

abbrev pub is_empty : List Word → Bool
is_empty [] = true
is_empty (w ∷ ws) = false

-- an unknown word at `place`, of `bytes` bytes from `start`
abbrev pub unknown_word : ℕ → ℕ → ℕ → Token → Word
unknown_word place start bytes t = word_of place start (start + bytes) (Unknown t.number) t

-- the unknown words at `place` for the characters from `start` on: for each span, one for each
-- unknown entry of the first category of the first character
abbrev pub unknown : Overlay → Bool → ℕ → ℕ → List ℕ → List Word
unknown o none_known place start [] = []
unknown o none_known place start (c ∷ cs) =
    flat_map (λ n. map (unknown_word place start (bytes_of n (c ∷ cs))) (o.system.unknown (o.system.info c).head)) (spans o none_known c cs)

-- p is a position of the text: valid UTF-8 follows
abbrev pub is_place : List ℕ → ℕ → Bool
is_place text p = nat_le p (length text) && is_utf8 (drop p text)

-- the words at position p whose surfaces start at `start`, known ones before unknown ones
abbrev pub words_from : Overlay → List ℕ → ℕ → ℕ → List Word
words_from o text p start = known_words o text p ++ unknown o (is_empty (known_words o text p)) p start (chars_from text start)

-- the words at position p, known ones before unknown ones; none if only blanks follow, or if p is
-- not at the start of a character
abbrev pub words : Overlay → List ℕ → ℕ → List Word
words o text p =
    if is_place text p && nat_lt (skip o text p) (length text)
    then words_from o text p (skip o text p)
    else []
