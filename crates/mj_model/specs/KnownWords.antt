-- Known words: the lexicon entries whose surface is a prefix of the text after the blanks.
use Rattle.std.specs.Prelude.{ℕ, suc, ◌+◌, List, [], ◌∷◌, ◌++◌, length, take, drop, map, filter, flat_map, bytes_eq}
use Rattle.mj_model.specs.declared.word.Word.{Word}
use Rattle.mj_model.specs.declared.word.Origin.{Origin}
use Rattle.mj_model.specs.declared.word.Origin.TheVariants.{Known}
use Rattle.mj_model.specs.Tables.{Overlay, Token, Lexeme, lexicons}
use Rattle.mj_model.specs.Blanks.{skip}
use Rattle.mj_model.specs.Lists.{up_to}

-- the word at `place` whose surface lies from `start` to `end`
abbrev pub word_of : ℕ → ℕ → ℕ → Origin → Token → Word
word_of place start end origin t = record { place = place; start = start; end = end; left = t.left; right = t.right; cost = t.cost; origin = origin }

abbrev pub known_word : ℕ → ℕ → ℕ → Lexeme → Word
known_word place start dict e = word_of place start (start + length e.surface) (Known dict e.token.number) e.token

-- the entries of a lexicon whose surface is the first n bytes of the text, in the lexicon's order
abbrev pub entries_of_length : List ℕ → List Lexeme → ℕ → List Lexeme
entries_of_length text lexicon n = filter (λ e. bytes_eq e.surface (take n text)) lexicon

-- the words of a lexicon whose surface is a prefix of the text, shorter ones first
abbrev pub known_in : ℕ → ℕ → List ℕ → ℕ → List Lexeme → List Word
known_in place start text dict lexicon =
    flat_map (λ n. map (known_word place start dict) (entries_of_length text lexicon n)) (up_to (length text))

-- the words of the lexicons from number `dict` on, one lexicon after another
abbrev pub known_from : ℕ → ℕ → List ℕ → ℕ → List (List Lexeme) → List Word
known_from place start text dict [] = []
known_from place start text dict (lexicon ∷ more) = known_in place start text dict lexicon ++ known_from place start text (suc dict) more

-- the known words at position p
abbrev pub known_words : Overlay → List ℕ → ℕ → List Word
known_words o text p = known_from p (skip o text p) (drop (skip o text p) text) 0 (lexicons o)
