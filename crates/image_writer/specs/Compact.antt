-- Compact images, which have no more ranges, cells and features than they need.
use Rattle.std.specs.Prelude.{◌≢◌, ℕ, suc, ◌*◌, ◌<◌, ◌≤◌, List, length, map}
use Rattle.std.specs.List.{concat}
use Rattle.mj_model.specs.CellRules.{AreOnKeys}
use Rattle.image_format.specs.ImageBounds.{each_once, most_cells}
use Rattle.image_format.specs.ImageSections.{range_at, range_count, stored_cells}
use Rattle.mj_model.specs.Tables.{Lexeme, Token}

-- adjacent ranges of code points have different categories
abbrev pub AreChanging : List ℕ → Type 0
AreChanging ranges = (i : ℕ) → suc i < range_count ranges → (range_at ranges i).info ≢ (range_at ranges (suc i)).info

-- cells of 8 bytes, at most as many as the surfaces may need; each used cell is a step of a key
pub record AreCellsFor (lexicon : List Lexeme) (cells : List ℕ) : Type 0 where
  pub few : length cells ≤ 8 * most_cells lexicon
  pub on_keys : AreOnKeys (stored_cells cells)

-- the distinct features of tokens, without separators
abbrev pub features_once : List Token → List ℕ
features_once tokens = concat (each_once (map (λ (t : Token). t.feature) tokens))
