-- The category at the start of some bytes.
use Rattle.std.specs.Prelude.{◌≡◌, ℕ, ◌+◌, List, ◌++◌, drop}
use Rattle.mj_model.specs.CharDef.{IsStorable}
use Rattle.image_format.specs.ImageBytes.{number_at}
use Rattle.image_format.specs.ImageSections.{category_bytes, first_category}

-- the bytes after the first category
abbrev pub after_first_category : List ℕ → List ℕ
after_first_category bytes = drop (4 + number_at 1 bytes 3) bytes

-- the bytes start with a category that an image may hold
pub record StartsWithCategory (bytes : List ℕ) : Type 0 where
  pub storable : IsStorable (first_category bytes)
  pub front : bytes ≡ category_bytes (first_category bytes) ++ after_first_category bytes
