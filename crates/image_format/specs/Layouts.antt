-- The differences between layouts: the form of the keys and of the character categories, and
-- whether a SHA-256 ends the image.
use Rattle.std.specs.Prelude.{ℕ, ◌≤◌, ◌==◌, if◌then◌else◌}
use Rattle.image_format.specs.declared.header.TheConstants.{DIGEST_LENGTH}
use Rattle.image_format.specs.declared.layout.InfoForm.{InfoForm}
use Rattle.image_format.specs.declared.layout.InfoForm.TheVariants as info
use Rattle.image_format.specs.declared.layout.KeyForm.{KeyForm}
use Rattle.image_format.specs.declared.layout.KeyForm.TheVariants as key
use Rattle.image_format.specs.declared.layout.TheConstants.{LAYOUT}

-- a layout that can be read
abbrev pub IsReadLayout : ℕ → Type 0
IsReadLayout layout = (1 ≤ layout) × (layout ≤ LAYOUT)

-- keys are listed in layout 1, and in cells in layouts 2 and 3
abbrev pub key_form : ℕ → KeyForm
key_form layout = if layout == 1 then key.Listed else key.Cells

-- character categories are stored in ranges in layout 3, and in a list in layouts 1 and 2
abbrev pub info_form : ℕ → InfoForm
info_form layout = if layout == 3 then info.Ranges else info.Listed

-- the number of bytes that follow the sections
abbrev pub bytes_after_sections : ℕ → ℕ
bytes_after_sections layout = if layout == 3 then DIGEST_LENGTH else 0
