use Rattle.std.proofs.Common.{rules, w16, ◌≡◌, ap, arith}
use Rattle.std.proofs.lemmas.Int.{ints}
use mir.Val.{SFits}
use Rattle.viterbi.specs.declared.rivals.total.Total.{Total}
use Rattle.viterbi.proofs.TotalsLemmas.{the_total}
use Rattle.viterbi.proofs.rivals.successors.is_successor.Goals as goal

pub returns : goal.returns
returns c =
    let h : SFits w16 c.args.link.now.connection = search rules in
    let e = c.is_same.ensures in
    let b = c.next_step-step.ensures.total in
    let f = c.total_of.ensures in (
      λ yes_it_is. let same = ap (λ (x : Total). x.cost) (e.0 yes_it_is) in omega (arith, ints, same, b, f, h),
      λ sum. let costs : c.args.backward.now.cost ≡ c.total_of.result.cost = omega (arith, ints, sum, b, f, h) in e.1 (ap the_total costs),
    )
