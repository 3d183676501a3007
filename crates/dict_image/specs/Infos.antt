-- Sections of the categories of code points that can be read.
use Rattle.std.specs.Prelude.{ℕ, ◌<◌, List}
use Rattle.image_format.specs.declared.layout.InfoForm.{InfoForm}
use Rattle.image_format.specs.declared.layout.InfoForm.TheVariants as info
use Rattle.image_format.specs.OlderSections.{AreFilled, entry_at, own_entries}
use Rattle.dict_image.specs.Ranges.{AreInOrder}

-- an entry of 4 bytes for each code point up to U+FFFE, whose first category fits a byte
pub record AreWhole (entries : List ℕ) : Type 0 where
  pub fill : AreFilled entries
  pub short : (i : ℕ) → i < own_entries → (entry_at entries i).head < 256

-- section 3 in this form can be read
abbrev pub AreReadable : InfoForm → List ℕ → Type 0
AreReadable info.Listed infos = AreWhole infos
AreReadable info.Ranges infos = AreInOrder infos
