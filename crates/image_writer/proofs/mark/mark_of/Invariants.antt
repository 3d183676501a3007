use Rattle.std.proofs.Common.{◌≡◌, take}
use Rattle.std.specs.List.{fold}
use Rattle.image_writer.specs.Marks.{with_byte}
use Rattle.image_writer.specs.declared.mark.TheConstants.{NO_BYTES}
use Rattle.image_writer.proofs.mark.mark_of.Given as goal

abbrev pub invariant-loop-byte : goal.invariant-loop-byte
invariant-loop-byte l = l.mark ≡ fold with_byte NO_BYTES (take l.byte-index l.bytes)
