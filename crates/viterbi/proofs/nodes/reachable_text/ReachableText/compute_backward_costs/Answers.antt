use Rattle.std.proofs.Common.{◌≡◌, ◌+◌, ◌-◌, ℕ, length, sym, subst, arith}
use Rattle.viterbi.specs.Nodes.BackwardCosts.{AreBackwardCostsFrom}
use Rattle.viterbi.proofs.BackwardCostLemmas.{backward_written}
use Rattle.viterbi.proofs.nodes.reachable_text.ReachableText.compute_backward_costs.Goals as goal

pub loop-i-init : goal.loop-i-init
loop-i-init g c =
    let t = g.S.WordSource.searched_text c.args.self.now.source.now in
    let r = c.args.self.now.reached.now in
    let ok = r.words.ok in
    let all : length r.words.items ≡ c.len-i.result = omega (arith, c.len-i.ensures, ok.0) in
    record {
      within = omega (arith, all);
      known = subst (λ (n : ℕ). AreBackwardCostsFrom t r n c.in_ok-backward_costs.backward_costs.items) all c.in_ok-backward_costs.ensures;
    }

pub backward_cost-requires-clause-later : goal.backward_cost-requires-clause-later
backward_cost-requires-clause-later g c =
    let t = g.S.WordSource.searched_text c.args.self.now.source.now in
    let r = c.args.self.now.reached.now in
    let some = c.loop-i-test.true in
    let same : c.loop-i.i ≡ (c.loop-i.i - 1) + 1 = omega (arith, some) in
    subst (AreBackwardCostsFrom t r ((c.loop-i.i - 1) + 1)) (sym c.deref.ensures.value) (subst (λ (n : ℕ). AreBackwardCostsFrom t r n c.loop-i.backward_costs.items) same c.loop-i.invariant.known)

pub loop-i-preserved : goal.loop-i-preserved
loop-i-preserved g c =
    let t = g.S.WordSource.searched_text c.args.self.now.source.now in
    let r = c.args.self.now.reached.now in
    let some = c.loop-i-test.true in
    let low = c.loop-i.invariant.within in
    let same : c.loop-i.i ≡ (c.loop-i.i - 1) + 1 = omega (arith, some) in
    record {
      within = omega (arith, low);
      known = backward_written t.words t.connection r.words.items c.loop-i.backward_costs.items (c.loop-i.i - 1) c.backward_cost.result c.backward_cost.ensures (subst (λ (n : ℕ). AreBackwardCostsFrom t r n c.loop-i.backward_costs.items) same c.loop-i.invariant.known);
    }

pub returns : goal.returns
returns g c =
    let t = g.S.WordSource.searched_text c.args.self.now.source.now in
    let r = c.args.self.now.reached.now in
    let none : c.loop-i.i ≡ 0 = omega (arith, c.loop-i-test.false) in
    subst (λ (n : ℕ). AreBackwardCostsFrom t r n c.loop-i.backward_costs.items) none c.loop-i.invariant.known
