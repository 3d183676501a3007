use Rattle.std.proofs.Common.{arith, ◌≡◌, ℕ, length, subst}
use Rattle.viterbi.specs.Search.PrunedEndNodes.{AreRecorded}
use Rattle.viterbi.proofs.search.end_pruning.record_ranks.Goals as goal

pub returns : goal.returns
returns c =
    let last = c.loop-rank.auto.rank-end in
    let all : c.loop-rank.rank ≡ length c.args.ends.now = omega (arith, last, c.loop-rank-test.false) in
    subst (λ (n : ℕ). AreRecorded c.args.ends.now n c.loop-rank.ranks.items) all c.loop-rank.invariant
