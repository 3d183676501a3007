use Rattle.dict_image.proofs.StretchLemmas.{none_wrong}
use Rattle.dict_image.proofs.validation.characters.Characters.read.Goals.{then-is_utf8, else-is_utf8+in_ok-wrong}
use Rattle.dict_image.proofs.validation.characters.Characters.read.Goals as goal

pub invariant_of-result : goal.invariant_of-result
invariant_of-result c = elim c.if-is_utf8.branch [
  | then-is_utf8 w ↦ rw (w.wrong-is, w.new-wrong.ensures.items) (none_wrong c.args.bytes.now (c.is_utf8.ensures.0 w.if-is_utf8.true))
  | else-is_utf8+in_ok-wrong w ↦ rw w.wrong-is w.in_ok-wrong.ensures
]
