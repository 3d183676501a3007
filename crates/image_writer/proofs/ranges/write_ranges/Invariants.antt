use Rattle.std.proofs.Common.{◌≡◌, take}
use Rattle.std.specs.Prelude.{flat_map}
use Rattle.image_writer.specs.Ranges.{range_bytes}
use Rattle.image_writer.proofs.ranges.write_ranges.Given as goal

-- the ranges so far are written
abbrev pub invariant-loop-range : goal.invariant-loop-range
invariant-loop-range l = l.bytes.items ≡ flat_map range_bytes (take l.range-index l.range-items)
