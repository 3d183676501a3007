use Rattle.std.proofs.Common.{◌≡◌, ◌+◌, ◌∙◌, ℕ, length, drop, sym, subst, arith}
use Rattle.std.proofs.lemmas.List.{take_at}
use Rattle.viterbi.specs.Rivals.PredecessorSearch.{ArePropagated}
use Rattle.viterbi.proofs.PropagationLemmas.{links_are}
use Rattle.viterbi.proofs.rivals.nodes_by_position.NodesByPosition.find_predecessors.Goals as goal

pub propagate-requires-clause-before : goal.propagate-requires-clause-before
propagate-requires-clause-before g c =
    let t = g.S.WordSource.searched_text c.args.self.now.source.now in
    subst (ArePropagated t.connection c.args.self.now.nodes.now c.loop-number.number 0) (sym c.deref_mut.ensures.value) c.loop-number.invariant

pub loop-number-preserved : goal.loop-number-preserved
loop-number-preserved g c =
    let t = g.S.WordSource.searched_text c.args.self.now.source.now in
    let new = c.propagate.new.links in
    let old = c.loop-number.links.items in
    let ok = c.loop-number.links.ok in
    let size : length new ≡ c.loop-number.links.len = c.propagate.ensures.long ∙ sym c.loop-number.invariant.long ∙ sym ok.0 in
    subst (ArePropagated t.connection c.args.self.now.nodes.now (c.loop-number.number + 1) 0) (sym (take_at new (drop (length new) old) c.loop-number.links.len size)) c.propagate.ensures

pub returns : goal.returns
returns g c =
    let t = g.S.WordSource.searched_text c.args.self.now.source.now in
    let nodes = c.args.self.now.nodes.now in
    let all : c.loop-number.number ≡ length nodes = omega (arith, c.loop-number.auto.number-end, c.loop-number-test.false) in
    links_are t c.requires.source nodes c.requires.nodes_are c.loop-number.links.items (subst (λ (n : ℕ). ArePropagated t.connection nodes n 0 c.loop-number.links.items) all c.loop-number.invariant)
