use Rattle.std.proofs.Common.{arith}
use Rattle.double_array.proofs.RingWrites.{IsJoined, linked_one_more}
use Rattle.double_array.proofs.ring.link_from.Goals as goal

pub loop-i-preserved : goal.loop-i-preserved
loop-i-preserved c =
    let k = c.loop-i.invariant in
    let e = c.link.ensures in
    let joined : IsJoined c.loop-i.cells c.link.new.cells c.loop-i.i = record { ring = e.ring; links = e.links; linked = e.linked; others = e.others; seen_is = e.seen } in
    linked_one_more c.args.cells.now c.loop-i.cells c.link.new.cells c.loop-i.i (omega arith) (omega (arith, k.long)) k joined
