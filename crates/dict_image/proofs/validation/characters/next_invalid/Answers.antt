use Rattle.dict_image.proofs.StretchLemmas.{stretch_to_fault, stretch_to_end}
use Rattle.dict_image.proofs.validation.characters.next_invalid.Goals as goal

pub returns-in-Ok : goal.returns-in-Ok
returns-in-Ok c = stretch_to_end c.args.bytes.now c.args.from c.requires c.in-Ok.ensures.cases.1

pub returns-in-Err : goal.returns-in-Err
returns-in-Err c = stretch_to_fault c.args.bytes.now c.args.from c.valid_up_to.result c.requires (rw c.valid_up_to.ensures c.in-Err.ensures.cases.1)
