use Rattle.std.proofs.Common.{sym, subst, List, take_all}
use Rattle.std.specs.Prelude.{All}
use Rattle.out_format.specs.Pieces.{pieces_of}
use Rattle.out_format.specs.Plain.{IsPlain}
use Rattle.out_format.specs.declared.part.Part.{Part}
use Rattle.out_format.proofs.PlainLemmas.{parts_plain}
use Rattle.out_format.proofs.plain_word.are_plain.Goals as goal

pub loop-part-preserved : goal.loop-part-preserved
loop-part-preserved c = parts_plain c.args.parts.now c.loop-part.part-index c.part-item.result c.loop-part-test.true (sym c.part-item.is) c.loop-part.invariant (c.is_plain.ensures c.if-not-is_plain.false)

pub returns : goal.returns
returns c = λ _. subst (λ (ps : List Part). All IsPlain (pieces_of ps)) (take_all c.loop-part.part-index c.args.parts.now c.loop-part-test.false) c.loop-part.invariant
