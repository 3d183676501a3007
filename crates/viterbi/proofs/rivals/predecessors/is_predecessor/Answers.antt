use Rattle.std.proofs.Common.{rules, w16, ◌≡◌, ap, arith}
use Rattle.std.proofs.lemmas.Int.{ints}
use mir.Val.{SFits}
use Rattle.viterbi.specs.declared.rivals.total.Total.{Total}
use Rattle.viterbi.proofs.TotalsLemmas.{the_total}
use Rattle.viterbi.proofs.rivals.predecessors.is_predecessor.Goals as goal

pub next_step-step-requires : goal.next_step-step-requires
next_step-step-requires c =
    let s = c.requires.total in
    let a = c.total_at.ensures in
    (omega (arith, ints, s.0, a), omega (arith, ints, s.1, a))

pub returns : goal.returns
returns c =
    let h : SFits w16 c.args.link.now.connection = search rules in
    let e = c.is_same.ensures in
    let a = c.total_at.ensures in
    let b = c.next_step-step.ensures.total in
    let d = c.total_at-2.ensures in
    let f = c.total_of.ensures in (
      λ yes_it_is. let same = ap (λ (x : Total). x.cost) (e.0 yes_it_is) in omega (arith, ints, same, a, b, d, f, h),
      λ sum. let costs : c.total_at-2.result.cost ≡ c.total_of.result.cost = omega (arith, ints, sum, a, b, d, f, h) in e.1 (ap the_total costs),
    )
