-- Laws of the paths of every text, over dictionaries with UTF-8 surfaces and with an unknown entry
-- for each character.
use Rattle.std.specs.Prelude.{◌≡◌, ℕ, List, ◌++◌, length, drop, IsUtf8}
use Rattle.mj_model.specs.declared.word.Word.{Word}
use Rattle.mj_model.specs.BestOver.{IsBestPathOver}
use Rattle.mj_model.specs.Blanks.{skip}
use Rattle.mj_model.specs.Laws.{HasWords, CoversAll, joined_words}
use Rattle.mj_model.specs.Paths.{IsPath}
use Rattle.mj_model.specs.Tables.{Overlay}
use Rattle.mj_model.specs.Words.{words}

-- the text has exactly one best path; only blanks remain after each path; and the words with their
-- blanks, followed by the remainder, are the text
pub record IsCovered (o : Overlay) (text : List ℕ) : Type 0 where
  pub best : List Word
  pub is_best : IsBestPathOver o text best
  pub no_other : (other : List Word) → IsBestPathOver o text other → other ≡ best
  pub only_blanks : (path : List Word) (to : ℕ) → IsPath (words o text) path to → skip o text to ≡ length text
  pub joins : (path : List Word) (to : ℕ) → IsPath (words o text) path to → joined_words text path ++ drop to text ≡ text

abbrev pub CoversTexts : Overlay → Type 0
CoversTexts o = (text : List ℕ) → IsUtf8 text → IsCovered o text

-- dictionaries with words for every character cover every text
abbrev pub TextsAreCovered : Type 0
TextsAreCovered = (o : Overlay) → HasWords o → CoversAll o → CoversTexts o
