use Rattle.std.proofs.Common.{arith, pos, ℤ, ap, set, ◌∙◌, w32}
use Rattle.std.proofs.lemmas.Int.{to_z-of_z}
use Rattle.std.proofs.lemmas.List.{length-set}
use Rattle.double_array.proofs.RingLemmas.{linked_within}
use Rattle.double_array.proofs.RingWrites.{IsTaken, taken_by_writes}
use Rattle.double_array.proofs.ring.take.Goals as goal

pub set_next-requires-clause-within : goal.set_next-requires-clause-within
set_next-requires-clause-within c =
    linked_within c.args.cells.now c.before-before.result (c.requires.ring.before c.args.i c.before-before.result c.requires.free c.before-before.ensures).0

pub set_next-requires-clause-few : goal.set_next-requires-clause-few
set_next-requires-clause-few c =
    let w = linked_within c.args.cells.now c.next-next.result (c.requires.ring.next c.args.i c.next-next.result c.requires.free c.next-next.ensures).0 in
    omega (arith, w, c.requires.few)

pub set_before-requires-clause-within : goal.set_before-requires-clause-within
set_before-requires-clause-within c =
    let w = linked_within c.args.cells.now c.next-next.result (c.requires.ring.next c.args.i c.next-next.result c.requires.free c.next-next.ensures).0 in
    rw (c.set_next.ensures, length-set) w

pub set_before-requires-clause-few : goal.set_before-requires-clause-few
set_before-requires-clause-few c =
    let w = linked_within c.args.cells.now c.before-before.result (c.requires.ring.before c.args.i c.before-before.result c.requires.free c.before-before.ensures).0 in
    omega (arith, w, c.requires.few)

taken : (c : goal.After-set_used) → IsTaken c.args.cells.now c.set_used.new.cells c.args.i (c.args.base, pos c.args.state)
taken c = taken_by_writes c.args.cells.now c.set_next.new.cells c.set_before.new.cells c.set_used.new.cells c.args.i c.next-next.result c.before-before.result c.args.state c.args.base
    c.requires.ring c.requires.free c.next-next.ensures c.before-before.ensures c.requires.inner c.set_next.ensures c.set_before.ensures (c.set_used.ensures ∙ ap (λ (b : ℤ). set c.set_before.new.cells c.args.i (b, pos c.args.state)) (to_z-of_z w32 c.args.base c.ranges.base))

pub returns-clause-ring : goal.returns-clause-ring
returns-clause-ring c = (taken c).ring

pub returns-clause-links : goal.returns-clause-links
returns-clause-links c = (taken c).links

pub returns-clause-seen : goal.returns-clause-seen
returns-clause-seen c = (taken c).seen_is
