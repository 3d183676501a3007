use Rattle.double_array.proofs.RingWrites.{IsLinkedUpTo}
use Rattle.double_array.proofs.ring.link_from.Given as goal

abbrev pub invariant-loop-i : goal.invariant-loop-i
invariant-loop-i l = IsLinkedUpTo l.fn.cells l.cells l.i
