-- The bytes of tokens and cells.
use Rattle.std.specs.Prelude.{◌≡◌, ℕ, ◌<◌, ◌^◌, ℤ, List, ◌++◌}
use Rattle.std.specs.Int.{w16, w32, cast_unsigned}
use Rattle.std.specs.Int.RustNames.{FitsSigned}
use Rattle.byteorder.specs.Endian.{little_bytes}
use Rattle.mj_model.specs.CellMap.{Cell}
use Rattle.image_format.specs.ImageSections.{StoredToken}

-- a token with these ids and this cost, and the start and length of its feature
abbrev pub stored_with : ℕ → ℕ → ℤ → ℕ → ℕ → StoredToken
stored_with left right cost place length = record { left = left; right = right; cost = cost; spare = 0; feature_start = place; feature_length = length }

-- the fields of a token fit their bytes
pub record FitsBytes (t : StoredToken) : Type 0 where
  pub left : t.left < 2 ^ 16
  pub right : t.right < 2 ^ 16
  pub cost : FitsSigned w16 t.cost
  pub spare : t.spare ≡ 0
  pub place : t.feature_start < 2 ^ 32
  pub long : t.feature_length < 2 ^ 32

-- the 16 bytes of a token
abbrev pub stored_bytes : StoredToken → List ℕ
stored_bytes t =
    little_bytes 2 t.left ++ little_bytes 2 t.right ++ little_bytes 2 (cast_unsigned w16 t.cost) ++ little_bytes 2 t.spare ++ little_bytes 4 t.feature_start ++ little_bytes 4 t.feature_length

-- the 8 bytes of a cell
abbrev pub cell_bytes_of : Cell → List ℕ
cell_bytes_of cell = little_bytes 4 (cast_unsigned w32 cell.0) ++ little_bytes 4 (cast_unsigned w32 cell.1)
