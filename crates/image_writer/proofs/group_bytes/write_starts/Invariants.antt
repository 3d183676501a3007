use Rattle.std.proofs.Common.{get_or}
use Rattle.image_writer.specs.Written.{HoldsNumbers}
use Rattle.image_writer.proofs.group_bytes.write_starts.Given as goal

-- the starts so far are written
abbrev pub invariant-loop-start : goal.invariant-loop-start
invariant-loop-start l = HoldsNumbers (λ g. get_or l.starts g l.entries) l.start-index l.bytes.items
