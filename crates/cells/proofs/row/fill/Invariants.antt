use Rattle.std.proofs.Common.{◌-◌, ◌≡◌, ◌≤◌, ◌++◌, take, replicate}
use Rattle.core.specs.Mem.Slots.Ownership.{Filled}
use Rattle.core.specs.Mem.Slots.{slots_items, slots_filled, SamePlaces}
use Rattle.cells.proofs.row.fill.Given as goal

abbrev pub invariant-loop-at : goal.invariant-loop-at
invariant-loop-at l = (l.from ≤ l.at) × (l.at ≤ l.to)
    × (take l.at (slots_items l.row) ≡ take l.from (slots_items l.initial.row) ++ replicate (l.at - l.from) l.pair)
    × Filled (slots_filled l.row) 0 l.at
    × SamePlaces l.initial.row l.row

abbrev pub decreases-loop-at : goal.decreases-loop-at
decreases-loop-at l = l.to - l.at
