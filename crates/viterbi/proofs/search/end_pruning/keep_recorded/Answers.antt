use Rattle.std.proofs.Common.{arith, ◌≡◌, ℕ, length, subst}
use Rattle.viterbi.specs.Search.PrunedEndNodes.{RecordedEndNodes}
use Rattle.viterbi.proofs.RecordedRanks.{kept_left, kept_once}
use Rattle.viterbi.proofs.search.end_pruning.keep_recorded.Goals as goal

pub returns-clause-left : goal.returns-clause-left
returns-clause-left c =
    let last = c.loop-rank.auto.rank-end in
    let all : c.loop-rank.rank ≡ length c.args.ends.now = omega (arith, last, c.loop-rank-test.false) in
    kept_left c.args.ends.now c.args.ranks.now c.loop-rank.left.items
    (subst (λ (n : ℕ). RecordedEndNodes c.args.ends.now c.args.ranks.now n c.loop-rank.left.items) all c.loop-rank.invariant) c.requires

pub returns-clause-once : goal.returns-clause-once
returns-clause-once c =
    let last = c.loop-rank.auto.rank-end in
    let all : c.loop-rank.rank ≡ length c.args.ends.now = omega (arith, last, c.loop-rank-test.false) in
    kept_once c.args.ends.now c.args.ranks.now c.loop-rank.left.items
    (subst (λ (n : ℕ). RecordedEndNodes c.args.ends.now c.args.ranks.now n c.loop-rank.left.items) all c.loop-rank.invariant)
