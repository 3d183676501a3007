use Rattle.out_format.proofs.PieceLemmas.{begins_byte}
use Rattle.out_format.proofs.first_piece.first_piece.Goals as goal

pub returns-else-first-eq37 : goal.returns-else-first-eq37
returns-else-first-eq37 c = rw c.in-Some.ensures (begins_byte c.args.part c.in-Some.first c.in-Some.rest.now c.if-first-eq37.false c.if-first-eq92.false)
