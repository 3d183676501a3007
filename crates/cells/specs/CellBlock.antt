-- The layout of the cells in their block.
use Rattle.std.specs.Prelude.{◌≡◌, ℕ, ◌*◌, ℤ, ◌≤◌}
use Rattle.core.specs.Mem.Slots.Ownership.{Filled}
use Rattle.core.specs.Mem.Slots.{slots_len, slots_filled, slots_ptr}
use Rattle.core.specs.declared.slots.Slots.{Slots}
use Rattle.cells.specs.declared.token.FreeToken.{FreeToken}
use Rattle.cells.specs.declared.cells.TheConstants.{CELLS_MAX}

-- the token frees the block of the row's slots
abbrev pub IsTokenOf : {X A : Type 0} → FreeToken X A → Slots X → A → Type 0
IsTokenOf token row alloc = (token.start ≡ slots_ptr row) × (token.places ≡ slots_len row) × (token.alloc ≡ alloc)

-- the first `count` slots of the block hold the cells; the block has at most twice as many slots,
-- and the token frees it
pub record IsCellBlock {A : Type 0} (count : ℕ) (row : Slots (ℤ × ℤ)) (token : FreeToken (ℤ × ℤ) A) (alloc : A) : Type 0 where
  pub within : count ≤ slots_len row
  pub double : slots_len row ≤ 2 * count
  pub few : slots_len row ≤ CELLS_MAX
  pub filled : Filled (slots_filled row) 0 count
  pub owned : IsTokenOf token row alloc
