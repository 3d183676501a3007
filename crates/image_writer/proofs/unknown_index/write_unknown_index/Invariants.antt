use Rattle.std.proofs.Common.{◌≡◌, ◌+◌, length, take}
use Rattle.std.specs.List.{sum_by}
use Rattle.image_writer.specs.Written.{HoldsNumbers}
use Rattle.image_writer.proofs.unknown_index.write_unknown_index.Given as goal

-- the rows of lower categories precede, and each category has its number
abbrev pub invariant-loop-category : goal.invariant-loop-category
invariant-loop-category l =
    (l.next ≡ l.entries + sum_by length (take l.category l.unknown))
    × HoldsNumbers (λ i. l.entries + sum_by length (take i l.unknown)) l.category l.bytes.items
