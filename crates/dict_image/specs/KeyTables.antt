-- The table for exact lookup of a key.
use Rattle.std.specs.Prelude.{◌≡◌, ℕ, List}
use Rattle.image_format.specs.declared.layout.KeyForm.{KeyForm}
use Rattle.image_format.specs.declared.layout.KeyForm.TheVariants as key
use Rattle.dict_image.specs.declared.key_table.KeyTable.{KeyTable}
use Rattle.dict_image.specs.declared.key_table.KeyTable.TheVariants as table

-- the table holds the keys of a section of this form
abbrev pub IsTableOf : KeyForm → ℕ → List ℕ → KeyTable → Type 0
IsTableOf form groups bytes (table.Listed list) = (form ≡ key.Listed) × (list ≡ record { bytes = bytes; count = groups })
IsTableOf form groups bytes table.Cells = form ≡ key.Cells
