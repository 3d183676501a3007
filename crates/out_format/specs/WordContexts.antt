-- A word of a line in its path.
use Rattle.std.specs.Prelude.{◌≡◌, ℕ, ◌≤◌, List, length, Option, Some, IsTrue}
use Rattle.mj_model.specs.declared.word.Origin.{Origin}
use Rattle.mj_model.specs.declared.word.Word.{Word}
use Rattle.mj_model.specs.Printed.{feature_of}
use Rattle.mj_model.specs.Connection.{is_pair}
use Rattle.out_format.specs.PrintedPaths.{WordContext}
use Rattle.mj_model.specs.Tables.{Overlay}
use Rattle.mj_model.specs.Blanks.{chars_from}
use Rattle.mj_model.specs.Words.{is_place}
use Rattle.out_format.specs.declared.word_in_path.WordInPath.{WordInPath}
use Rattle.word_lookup.specs.Overlays.{overlay_of}

-- the word, the right id before it and the cost so far
abbrev pub word_context : WordInPath → WordContext
word_context w = record { word = w.word.now; right_before = w.right_before; cost_so_far = w.line.cost }

-- the word's blanks and surface lie in the line, its start is the start of a character, and it may
-- follow right id `right`
pub record IsWordOf (o : Overlay) (line : List ℕ) (right : ℕ) (w : Word) : Type 0 where
  pub blanks : w.place ≤ w.start
  pub forward : w.start ≤ w.end
  pub within : w.end ≤ length line
  pub begins : IsTrue (is_place line w.start)
  pub follows : IsTrue (is_pair o.system.sizes right w.left)

-- the dictionaries of the word
abbrev pub overlay_in : WordInPath → Overlay
overlay_in w = overlay_of w.dictionaries.now

-- the characters of the line from the start of the word's surface
abbrev pub chars_of : WordInPath → List ℕ
chars_of w = chars_from w.line.text.now w.word.now.start

-- the feature of a token
unfoldable pub HasFeature : Overlay → Origin → List ℕ → Type 0
HasFeature o origin feature = feature ≡ feature_of o origin

-- the word lies in the line, and the cached feature is its feature
pub record IsWordInPath (w : WordInPath) : Type 0 where
  pub word : IsWordOf (overlay_in w) w.line.text.now w.right_before w.word.now
  pub feature : HasFeature (overlay_in w) w.word.now.origin w.fields.now

-- the feature is the feature of the token, if there is a token
abbrev pub IsFeatureOf : Overlay → Option Origin → List ℕ → Type 0
IsFeatureOf o token feature = (origin : Origin) → token ≡ Some origin → feature ≡ feature_of o origin
