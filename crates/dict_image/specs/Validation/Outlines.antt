-- The positions of the parts of a well-formed image.
use Rattle.std.specs.Prelude.{◌≡◌, ℕ, List}
use Rattle.image_format.specs.Headers.{AreEnds}
use Rattle.image_format.specs.ImageBytes.{header_of, section}
use Rattle.image_format.specs.ImageFaults.{IsWellFormed}
use Rattle.image_format.specs.Layouts.{key_form}
use Rattle.dict_image.specs.declared.validation.outline.Outline.{Outline}
use Rattle.dict_image.specs.Validation.KeyPlaces.{AreKeysOf}

-- a well-formed image; an opaque name, which proofs do not unfold
unfoldable pub IsImage : List ℕ → Type 0
IsImage bytes = IsWellFormed bytes

-- the header fields, ends of sections and method of looking up keys of a well-formed image
pub record IsOutline (bytes : List ℕ) (outline : Outline) : Type 0 where
  pub formed : IsImage bytes
  pub header_is : outline.header ≡ header_of bytes
  pub ends_are : AreEnds outline.ends (header_of bytes)
  pub keys_are : AreKeysOf (key_form (header_of bytes).layout) (header_of bytes).groups (section bytes 5) outline.keys
