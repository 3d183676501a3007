-- The token that permits freeing a block.
use Rattle.std.specs.Prelude.{ℕ}
use base.Fml.{Fml}
use denote.RattleType.{RattleType}
use denote.Memory.{lone}
use denote.RawPtr.{Ptr}
use mir.Syntax.{Ty, ty_array}
use mir.Raw.{raw}

-- the allocator's token for the block at p, which has n slots for values of R
abbrev pub block_token : RattleType → (Ty → Ptr → Fml) → Ptr → ℕ → Fml
block_token R token p n = token (raw (ty_array (lone R.mir) n)) p
