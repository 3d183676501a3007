use Rattle.std.proofs.Common.{◌≡◌, ◌+◌, ℕ, length, drop, sym, subst, ◌∙◌, arith}
use Rattle.std.proofs.lemmas.List.{take_at}
use Rattle.viterbi.specs.Nodes.ForwardCosts.{ArePropagatedIn}
use Rattle.viterbi.proofs.StepLemmas.{forward_costs_all}
use Rattle.viterbi.proofs.nodes.reachable_text.ReachableText.compute_forward_costs.Goals as goal

pub propagate-requires-clause-before : goal.propagate-requires-clause-before
propagate-requires-clause-before g c =
    let t = g.S.WordSource.searched_text c.args.self.now.source.now in
    subst (ArePropagatedIn t c.args.self.now.reached.now c.loop-i.i 0) (sym c.deref_mut.ensures.value) c.loop-i.invariant

pub loop-i-preserved : goal.loop-i-preserved
loop-i-preserved g c =
    let t = g.S.WordSource.searched_text c.args.self.now.source.now in
    let new = c.propagate.new.forward_costs in
    let old = c.loop-i.forward_costs.items in
    let ok = c.loop-i.forward_costs.ok in
    let size : length new ≡ c.loop-i.forward_costs.len = c.propagate.ensures.long ∙ sym c.loop-i.invariant.long ∙ sym ok.0 in
    subst (ArePropagatedIn t c.args.self.now.reached.now (c.loop-i.i + 1) 0) (sym (take_at new (drop (length new) old) c.loop-i.forward_costs.len size)) c.propagate.ensures

pub returns : goal.returns
returns g c =
    let t = g.S.WordSource.searched_text c.args.self.now.source.now in
    let r = c.args.self.now.reached.now in
    let ok = r.words.ok in
    let all : c.loop-i.i ≡ length r.words.items = omega (arith, c.loop-i.auto.i-end, c.loop-i-test.false, c.len-i-end.ensures, ok.0) in
    forward_costs_all t r c.requires.source c.requires.reached c.loop-i.forward_costs.items (subst (λ (n : ℕ). ArePropagatedIn t r n 0 c.loop-i.forward_costs.items) all c.loop-i.invariant)
