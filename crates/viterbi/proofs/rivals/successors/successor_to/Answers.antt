use Rattle.std.proofs.Common.{◌≡◌, ◌∙◌, true, false, sym, arith}
use Rattle.std.proofs.lemmas.Int.{ints}
use Rattle.std.proofs.lemmas.Option.{same_Some}
use Rattle.viterbi.proofs.TotalsLemmas.{backward_some, backward_small}
use Rattle.viterbi.proofs.rivals.successors.successor_to.Goals as goal

pub is_successor-requires : goal.is_successor-requires
is_successor-requires g c = backward_small c.args.next.now c.requires.next c.in_ok-further.further (sym c.backward_cost_at-2.ensures ∙ c.in_ok-further.was)

pub returns-then-is_successor : goal.returns-then-is_successor
returns-then-is_successor g c =
    let n = c.args.node.now in
    let m = c.args.next.now in
    let p = backward_some n.total n.through c.in_ok-backward.backward (sym c.backward_cost_at.ensures ∙ c.in_ok-backward.was) in
    let q = backward_some m.total m.through c.in_ok-further.further (sym c.backward_cost_at-2.ensures ∙ c.in_ok-further.was) in
    let link = c.neighbor_between-link.ensures in
    let same = c.is_successor.ensures.0 c.if-is_successor.true in
    let a = p.2 in
    let b = q.2 in
    let d = link.connection in (
      record { cost = p.0; through = q.0; has_cost = p.1; has_through = q.1; same = omega (arith, ints, same, a, b, d) },
      link.node,
      link.connection,
    )

pub returns : goal.returns
returns g c = λ leaves.
    let n = c.args.node.now in
    let m = c.args.next.now in
    let p = backward_some n.total n.through c.in_ok-backward.backward (sym c.backward_cost_at.ensures ∙ c.in_ok-backward.was) in
    let q = backward_some m.total m.through c.in_ok-further.further (sym c.backward_cost_at-2.ensures ∙ c.in_ok-further.was) in
    let cost : leaves.cost ≡ p.0 = same_Some leaves.cost p.0 (sym leaves.has_cost ∙ p.1) in
    let through : leaves.through ≡ q.0 = same_Some leaves.through q.0 (sym leaves.has_through ∙ q.1) in
    let sum = leaves.same in
    let a = p.2 in
    let b = q.2 in
    let d = c.neighbor_between-link.ensures.connection in
    let t = c.is_successor.ensures.1 (omega (arith, ints, sum, a, b, d, cost, through)) in
    let f : true ≡ false = sym t ∙ c.if-is_successor.false in
    absurd (cc)
