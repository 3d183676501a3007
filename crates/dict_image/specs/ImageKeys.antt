-- The keys of an image, from its bytes.
use Rattle.std.specs.Prelude.{ℕ, ◌<◌, List, Option}
use Rattle.std.specs.List.{AllByRecursion}
use Rattle.mj_model.specs.CellMap.{Cell}
use Rattle.image_format.specs.ImageBytes.{header_of, section}
use Rattle.image_format.specs.ImageMeaning.{group_in}
use Rattle.image_format.specs.Layouts.{key_form}
use Rattle.dict_image.specs.Groups.{hits_in}
use Rattle.dict_image.specs.KeyHits.{key_cells}
use Rattle.dict_image.specs.KeyTables.{IsTableOf}
use Rattle.dict_image.specs.declared.key_table.KeyTable.{KeyTable}

-- the key table of an image
abbrev pub IsKeyTableIn : List ℕ → KeyTable → Type 0
IsKeyTableIn bytes table = IsTableOf (key_form (header_of bytes).layout) (header_of bytes).groups (section bytes 5) table

-- the group with a key
abbrev pub group_under : List ℕ → List ℕ → Option ℕ
group_under bytes key = group_in (key_form (header_of bytes).layout) (header_of bytes).groups (section bytes 5) key

-- the keys that are prefixes of a text, the shortest first: their lengths in bytes, and their
-- groups
abbrev pub hits_under : List ℕ → List ℕ → List (ℕ × ℕ)
hits_under bytes text = hits_in (key_form (header_of bytes).layout) (header_of bytes).groups (section bytes 5) text

-- each hit has a group of the image
abbrev pub AreHitsIn : List ℕ → List (ℕ × ℕ) → Type 0
AreHitsIn bytes hits = AllByRecursion (λ (hit : ℕ × ℕ). hit.1 < (header_of bytes).groups) hits

-- the cells that a lookup reads
abbrev pub cells_of_keys : List ℕ → List Cell
cells_of_keys bytes = key_cells (key_form (header_of bytes).layout) (section bytes 5)
