-- Formats whose words print only surfaces and features, which don't depend on the path.
use Rattle.std.specs.Prelude.{◌≡◌, ℕ, List, All, ◌≤◌, length}
use Rattle.mj_model.specs.declared.format_item.FormatItem.{FormatItem}
use Rattle.mj_model.specs.declared.format_item.FormatItem.TheVariants as item
use Rattle.mj_model.specs.declared.word.Word.{Word}
use Rattle.mj_model.specs.Tables.{Overlay}
use Rattle.out_format.specs.Formats.{Format, Piece, Byte, ItemPiece}
use Rattle.out_format.specs.PrintedPaths.{PrintsItem, WordContext}

-- the item is the surface or the feature
abbrev pub IsPlainItem : FormatItem → Type 0
IsPlainItem item.Surface = Unit {0}
IsPlainItem item.Feature = Unit {0}
IsPlainItem i = ⊥

-- the piece is a byte, a surface or a feature
abbrev pub IsPlain : Piece → Type 0
IsPlain (Byte b) = Unit {0}
IsPlain (ItemPiece i) = IsPlainItem i

-- known and unknown words print only bytes, surfaces and features
pub record HasPlainWords (f : Format) : Type 0 where
  pub node : All IsPlain f.node
  pub unk : All IsPlain f.unk

-- the text that a plain item prints of the word, in any path
abbrev pub PrintsAnywhere : Overlay → List ℕ → Word → FormatItem → List ℕ → Type 0
PrintsAnywhere o line w i shown = IsPlainItem i → (s : WordContext) → s.word ≡ w → PrintsItem o line s i shown

-- the word's surface lies in the line
pub record HasSurfaceIn (line : List ℕ) (w : Word) : Type 0 where
  pub forward : w.start ≤ w.end
  pub within : w.end ≤ length line
