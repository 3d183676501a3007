-- States with their bases, and the steps between them.
use Rattle.std.specs.Prelude.{◌≡◌, ℕ, ◌+◌, ◌<◌, ◌^◌, pos, List, Option, None, Some, MatchOption}
use Rattle.mj_model.specs.CellMap.{Cell, base, check, step}
use Rattle.mj_model.specs.declared.cell_walk.steps.ChildCell.{ChildCell}
use Rattle.mj_model.specs.declared.cell_walk.steps.WalkState.{WalkState}

-- the state fits in 32 bits and differs from the bits of -1 and of -2
abbrev pub IsSmall : ℕ → Type 0
IsSmall state = state + 2 < 2 ^ 32

-- the base belongs to the state, and it was read as a signed number
pub record IsAt (cells : List Cell) (place : WalkState) : Type 0 where
  pub based : base cells place.state ≡ pos place.base
  pub low : place.base < 2 ^ 31
  pub small : IsSmall place.state

-- cell i, if its check is the state
abbrev pub IsChildAt : List Cell → ℕ → ℕ → Option ChildCell → Type 0
IsChildAt cells state i found =
    MatchOption found (check cells i ≡ pos state → ⊥) (λ child. (check cells i ≡ pos state) × (base cells i ≡ child.base) × (child.number ≡ i))

-- the state that a step leads to
abbrev pub IsStepTo : List Cell → ℕ → ℕ → Option WalkState → Type 0
IsStepTo cells state code found = MatchOption found (step cells state code ≡ None) (λ place. (step cells state code ≡ Some place.state) × IsAt cells place)
