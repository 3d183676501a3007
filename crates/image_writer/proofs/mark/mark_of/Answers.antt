use Rattle.std.proofs.Common.{ap, ◌∙◌}
use Rattle.std.proofs.lemmas.List.{take_all}
use Rattle.std.specs.List.{fold}
use Rattle.image_writer.specs.Marks.{mark_of_bytes, with_byte}
use Rattle.image_writer.specs.declared.mark.TheConstants.{NO_BYTES}
use Rattle.image_writer.proofs.mark.mark_of.Goals as goal

pub returns : goal.returns
unfolding mark_of_bytes
returns c =
    c.loop-byte.invariant
    ∙ ap (fold with_byte NO_BYTES) (take_all c.loop-byte.byte-index c.as_bytes-bytes.result.now c.loop-byte-test.false ∙ c.as_bytes-bytes.ensures.value)
