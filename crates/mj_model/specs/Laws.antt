-- Laws of the words and paths over an overlay of dictionaries.
use Rattle.std.specs.Prelude.{◌≡◌, ℕ, ◌-◌, ◌<◌, ◌≤◌, List, ◌++◌, length, map, flat_map, take, drop, IsUtf8, IsTrue, Contains}
use Rattle.std.specs.List.{AllByRecursion}
use Rattle.mj_model.specs.declared.word.Word.{Word}
use Rattle.mj_model.specs.CharDef.{code_point_max}
use Rattle.mj_model.specs.Tables.{Overlay, HasDistinctTokens, HasText, lexicons}
use Rattle.mj_model.specs.Blanks.{skip}
use Rattle.mj_model.specs.Words.{words, is_place}
use Rattle.mj_model.specs.Paths.{IsPath}
use Rattle.mj_model.specs.Best.{AreWords}

-- surfaces are UTF-8, and no two entries of a lexicon or of a category have the same number
pub record HasWords (o : Overlay) : Type 0 where
  pub surfaces : AllByRecursion (AllByRecursion HasText) (lexicons o)
  pub known_apart : AllByRecursion (λ lexicon. HasDistinctTokens (map (λ e. e.token) lexicon)) (lexicons o)
  pub unknown_apart : (i : ℕ) → HasDistinctTokens (o.system.unknown i)

-- the first category of each code point has an unknown entry
abbrev pub CoversAll : Overlay → Type 0
CoversAll o = (c : ℕ) → c ≤ code_point_max → 0 < length (o.system.unknown (o.system.info c).head)

-- the words of a text meet the requirements of the search, and each ends at the start of a
-- character or at the end of the text
pub record KeepsPlaces (o : Overlay) (text : List ℕ) : Type 0 where
  pub are : AreWords (words o text) (length text)
  pub ends : (p : ℕ) (w : Word) → Contains (words o text p) w → IsTrue (is_place text w.end)

abbrev pub WordsKeepPlaces : Type 0
WordsKeepPlaces = (o : Overlay) (text : List ℕ) → HasWords o → KeepsPlaces o text

-- only blanks remain after the last word of a path
abbrev pub OnlyBlanksRemain : Type 0
OnlyBlanksRemain = (o : Overlay) (text : List ℕ) → HasWords o → CoversAll o → IsUtf8 text
    → (path : List Word) (to : ℕ) → IsPath (words o text) path to → skip o text to ≡ length text

-- the bytes of a text from one position to another
abbrev pub between : List ℕ → ℕ → ℕ → List ℕ
between text from to = take (to - from) (drop from text)

-- the blanks and the surface of each word
abbrev pub joined_words : List ℕ → List Word → List ℕ
joined_words text ws = flat_map (λ w. between text w.place w.start ++ between text w.start w.end) ws

-- the blanks and surfaces of a path's words, followed by the remainder, are the text
abbrev pub WordsJoin : Type 0
WordsJoin = (o : Overlay) (text : List ℕ) → HasWords o
    → (path : List Word) (to : ℕ) → IsPath (words o text) path to → joined_words text path ++ drop to text ≡ text
