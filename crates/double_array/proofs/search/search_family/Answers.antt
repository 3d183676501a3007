use Rattle.std.proofs.Common.{subst, sym}
use Rattle.double_array.specs.Ring.{HasLinks}
use Rattle.double_array.proofs.search.search_family.Goals as goal
use Rattle.double_array.proofs.search.search_family.Goals.{then-i-top+else-again, else-i-top+else-i-least}

pub loop-preserved : goal.loop-preserved
loop-preserved c = elim c.if-i-top.branch [
  | then-i-top+else-again w ↦ subst (HasLinks c.args.cells.now) (sym w.i-is) (c.requires.pool.ring.next 1 w.next-i.result c.requires.pool.ring.first w.next-i.ensures).0
  | else-i-top+else-i-least w ↦ subst (HasLinks c.args.cells.now) (sym w.i-is) (c.requires.pool.ring.next c.loop.i w.next-i-else-i-least.result c.loop.invariant w.next-i-else-i-least.ensures).0
]
