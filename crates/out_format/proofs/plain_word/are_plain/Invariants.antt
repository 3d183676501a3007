use Rattle.std.proofs.Common.{take}
use Rattle.std.specs.Prelude.{All}
use Rattle.out_format.specs.Pieces.{pieces_of}
use Rattle.out_format.specs.Plain.{IsPlain}
use Rattle.out_format.proofs.plain_word.are_plain.Given as goal

abbrev pub invariant-loop-part : goal.invariant-loop-part
invariant-loop-part l = All IsPlain (pieces_of (take l.part-index l.parts))
