-- Key prefixes that lead to cells.
use Rattle.std.specs.Prelude.{◌≡◌, ℕ, suc, ◌<◌, ◌≤◌, List, length, map, Option, Some, None, MatchOption, slice_index_or}
use Rattle.mj_model.specs.declared.limits.TheConstants.{SURFACE_MAX}
use Rattle.mj_model.specs.CellMap.{Cell, walk}
use Rattle.dict_image.specs.declared.validation.key_prefix.KeyPrefix.{KeyPrefix}
use Rattle.dict_image.specs.Validation.Utf8States.{HasUtf8State}

-- `prefix` summarizes the bytes `key`
pub record IsKeyPrefix (key : List ℕ) (prefix : KeyPrefix) : Type 0 where
  pub long : length key ≡ prefix.length
  pub short : length key ≤ SURFACE_MAX
  pub lies : HasUtf8State key prefix.state

-- a summary of the bytes `key`, or None if there are more than `SURFACE_MAX`
abbrev pub IsKeyPrefixIfShort : List ℕ → Option KeyPrefix → Type 0
IsKeyPrefixIfShort key prefix = MatchOption prefix (SURFACE_MAX < length key) (IsKeyPrefix key)

-- a summary of bytes that lead from cell 0 to cell `t`
pub record IsKeyPrefixOf (cells : List Cell) (t : ℕ) (prefix : KeyPrefix) : Type 0 where
  pub key : List ℕ
  pub led : walk cells 0 (map suc key) ≡ Some t
  pub known : IsKeyPrefix key prefix

-- no key of at most `SURFACE_MAX` bytes leads to cell `t`
abbrev pub IsTooFar : List Cell → ℕ → Type 0
IsTooFar cells t = (key : List ℕ) → length key ≤ SURFACE_MAX → walk cells 0 (map suc key) ≡ Some t → ⊥

-- a summary of the bytes that lead to cell `t`, or None if none of at most `SURFACE_MAX` bytes do
abbrev pub IsKeyPrefixIfNear : List Cell → ℕ → Option KeyPrefix → Type 0
IsKeyPrefixIfNear cells t prefix = MatchOption prefix (IsTooFar cells t) (IsKeyPrefixOf cells t)

-- the cached prefix of a cell
abbrev pub key_prefix_at : List (Option KeyPrefix) → ℕ → Option KeyPrefix
key_prefix_at prefixes t = slice_index_or prefixes t None

-- a cache with an entry for each cell: cell 0 is cached, and each cached prefix is right
pub record AreKeyPrefixes (cells : List Cell) (prefixes : List (Option KeyPrefix)) : Type 0 where
  pub many : length prefixes ≡ length cells
  pub root : (prefix : KeyPrefix) × (key_prefix_at prefixes 0 ≡ Some prefix)
  pub each : (t : ℕ) (prefix : KeyPrefix) → key_prefix_at prefixes t ≡ Some prefix → IsKeyPrefixOf cells t prefix
