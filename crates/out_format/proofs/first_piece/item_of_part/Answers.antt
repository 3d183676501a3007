use Rattle.out_format.proofs.PieceLemmas.{stuck_at_item}
use Rattle.out_format.proofs.first_piece.item_of_part.Goals as goal

pub returns-in-None : goal.returns-in-None
returns-in-None c = stuck_at_item c.args.part c.args.following.now c.bad_item.result c.in-None.ensures c.bad_item.ensures
