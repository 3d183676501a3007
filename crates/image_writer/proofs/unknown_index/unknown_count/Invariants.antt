use Rattle.std.proofs.Common.{◌≡◌, length, take}
use Rattle.std.specs.List.{sum_by}
use Rattle.image_writer.proofs.unknown_index.unknown_count.Given as goal

-- the rows of lower categories are counted
abbrev pub invariant-loop-category : goal.invariant-loop-category
invariant-loop-category l = l.count ≡ sum_by length (take l.category l.unknown)
