use Rattle.std.proofs.Common.{◌≡◌, ◌≤◌, length, slice_index, ℕ}
use Rattle.image_format.specs.ImageBytes.{section_end}
use Rattle.image_format.proofs.ends.section_ends.Given as goal

abbrev pub invariant-loop-k : goal.invariant-loop-k
invariant-loop-k l = (length l.ends ≡ 9) × ((j : ℕ) → j ≤ l.k → slice_index l.ends j ≡ section_end l.header j)
