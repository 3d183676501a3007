-- The progress of a walk over a text.
use Rattle.std.specs.Prelude.{◌≡◌, ℕ, ◌+◌, ◌≤◌, List, length, take, Option, Some, None, IfSome}
use Rattle.mj_model.specs.CellMap.{Cell, walk, codes_of}
use Rattle.mj_model.specs.CellRules.{AreCells}
use Rattle.mj_model.specs.declared.cell_walk.steps.WalkState.{WalkState}
use Rattle.mj_model.specs.declared.cell_walk.walk.Walk.{Walk}
use Rattle.mj_model.specs.Reads.{step_reads, walk_reads}
use Rattle.mj_model.specs.Steps.{IsAt}

-- the number of bytes walked over after n steps, which is all bytes if the walk has no state
abbrev pub walked_by : List ℕ → Option WalkState → ℕ → ℕ
walked_by text None n = length text
walked_by text (Some place) n = n

abbrev pub bytes_walked : List ℕ → Walk → ℕ
bytes_walked text it = walked_by text it.place it.length

-- the number of bytes walked over after a search: up to the end of the hit of this length, or the
-- whole text if there was none
abbrev pub walked_to : List ℕ → Option ℕ → ℕ
walked_to text None = length text
walked_to text (Some n) = n

-- a walk within the text, at the state to which the bytes lead, with `left` cells of these bytes
-- still to read
pub record IsWalkingWithUnread (left : ℕ) (cells : List Cell) (text : List ℕ) (it : Walk) : Type 0 where
  pub are : AreCells cells
  pub within : it.length ≤ length text
  pub place : IfSome it.place (IsAt cells)
  pub led : IfSome it.place (λ at. walk cells 0 (take it.length (codes_of text)) ≡ Some at.state)
  pub reads : it.reads + left ≡ walk_reads cells text (bytes_walked text it)

abbrev pub IsWalking : List Cell → List ℕ → Walk → Type 0
IsWalking = IsWalkingWithUnread 0

-- the cells that are read for the value at a state, if there is a state
abbrev pub value_reads : List Cell → Option WalkState → ℕ
value_reads cells None = 0
value_reads cells (Some place) = step_reads cells place.state 0
