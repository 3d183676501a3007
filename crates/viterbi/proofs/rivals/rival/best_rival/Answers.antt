use Rattle.std.proofs.Common.{◌≡◌, ℕ, length, subst, arith}
use Rattle.std.proofs.lemmas.Option.{slice_get-get_or}
use Rattle.viterbi.proofs.RivalLemmas.{SoFar, best_of_all, none_yet, one_further}
use Rattle.viterbi.proofs.rivals.rival.best_rival.Goals as goal

pub loop-number-init : goal.loop-number-init
loop-number-init c = none_yet c.args.nodes.now c.args.word.now

pub loop-number-preserved : goal.loop-number-preserved
loop-number-preserved c =
    one_further c.args.nodes.now c.args.word.now c.loop-number.number _ c.loop-number.best c.better-best.result (slice_get-get_or c.args.nodes.now c.loop-number.number _ c.loop-number-test.true) c.better-best.ensures c.loop-number.invariant

pub returns : goal.returns
returns c = λ words conn len lattice.
    let all : c.loop-number.number ≡ length c.args.nodes.now = omega (arith, c.loop-number.auto.number-end, c.loop-number-test.false) in
    best_of_all words conn len c.args.nodes.now lattice c.args.word.now c.loop-number.best (subst (λ (n : ℕ). SoFar c.args.nodes.now c.args.word.now n c.loop-number.best) all c.loop-number.invariant)
