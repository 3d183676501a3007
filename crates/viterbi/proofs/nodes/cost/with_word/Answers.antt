use Rattle.std.proofs.Common.{ℤ, ap, arith, rules, w64, SFits}
use Rattle.std.proofs.lemmas.Int.{ints}
use Rattle.viterbi.proofs.nodes.cost.with_word.Goals as goal

pub returns : goal.returns
returns g c =
    let at = c.connection_cost-connection.ensures in
    let a = c.from.ensures in
    let b = c.from-2.ensures in
    let f : SFits w64 c.from.result = search rules in
    let h : SFits w64 c.from-2.result = search rules in
    ap (λ (z : ℤ). record { cost = z }) (omega (arith, ints, at, a, b, f, h, c.requires.small.0, c.requires.small.1))
