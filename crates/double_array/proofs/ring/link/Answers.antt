use Rattle.std.proofs.Common.{arith}
use Rattle.std.proofs.lemmas.List.{length-set}
use Rattle.double_array.proofs.RingLemmas.{linked_within}
use Rattle.double_array.proofs.RingWrites.{IsJoined, joined_by_writes}
use Rattle.double_array.proofs.ring.link.Goals as goal

pub set_links-requires-clause-few : goal.set_links-requires-clause-few
set_links-requires-clause-few c =
    let w = linked_within c.args.cells.now c.next-next.result (c.requires.ring.next c.args.after c.next-next.result c.requires.after c.next-next.ensures).0 in
    let a = linked_within c.args.cells.now c.args.after c.requires.after in
    (omega (arith, w, c.requires.few), omega (arith, a, c.requires.few))

pub set_before-requires-clause-within : goal.set_before-requires-clause-within
set_before-requires-clause-within c =
    let w = linked_within c.args.cells.now c.next-next.result (c.requires.ring.next c.args.after c.next-next.result c.requires.after c.next-next.ensures).0 in
    rw (c.set_links.ensures, length-set, c.set_next.ensures, length-set) w

joined : (c : goal.After-set_before) → IsJoined c.args.cells.now c.set_before.new.cells c.args.i
joined c = joined_by_writes c.args.cells.now c.set_next.new.cells c.set_links.new.cells c.set_before.new.cells c.args.i c.args.after c.next-next.result
    c.requires.ring c.requires.outside c.requires.after c.next-next.ensures c.requires.above c.requires.within c.set_next.ensures c.set_links.ensures c.set_before.ensures

pub returns-clause-ring : goal.returns-clause-ring
returns-clause-ring c = (joined c).ring

pub returns-clause-links : goal.returns-clause-links
returns-clause-links c = (joined c).links

pub returns-clause-linked : goal.returns-clause-linked
returns-clause-linked c = (joined c).linked

pub returns-clause-seen : goal.returns-clause-seen
returns-clause-seen c = (joined c).seen_is

pub returns-clause-others : goal.returns-clause-others
returns-clause-others c = (joined c).others
