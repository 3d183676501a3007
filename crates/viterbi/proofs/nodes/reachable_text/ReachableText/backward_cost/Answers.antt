use Rattle.std.proofs.Common.{◌≡◌, ◌+◌, ℕ, length, refl, subst, arith}
use Rattle.std.proofs.lemmas.Option.{slice_get_read}
use Rattle.viterbi.specs.Nodes.Least.{IsLeastOf, number_of}
use Rattle.viterbi.specs.Nodes.BackwardCosts.{CostsToEosBelow}
use Rattle.viterbi.proofs.ReachableLemmas.{firsts_rise}
use Rattle.viterbi.proofs.SourceLemmas.{ends_low, follows_word}
use Rattle.viterbi.proofs.StepLemmas.{next_small, backward_first, backward_last, backward_next}
use Rattle.viterbi.proofs.nodes.reachable_text.ReachableText.backward_cost.Goals as goal

pub overflow_add-before : goal.overflow_add-before
overflow_add-before g c =
    let t = g.S.WordSource.searched_text c.args.self.now.source.now in
    let r = c.args.self.now.reached.now in
    let i = c.args.i in
    let w = c.index-before.result.now in
    let at = slice_get_read r.words.items (length r.words.items) i w refl c.requires.word c.index-before.ensures in
    let low = ends_low t r c.requires.text.source c.requires.text.reached i w at in
    omega (arith, low)

pub loop-next-init : goal.loop-next-init
loop-next-init g c =
    let t = g.S.WordSource.searched_text c.args.self.now.source.now in
    let r = c.args.self.now.reached.now in
    let i = c.args.i in
    let w = c.index-before.result.now in
    let at = slice_get_read r.words.items (length r.words.items) i w refl c.requires.word c.index-before.ensures in
    backward_first t r c.requires.text.source c.requires.text.reached i w at c.args.backward_costs.now c.first-from.result c.requires.later c.first-from.ensures

pub least_with-least-requires-clause-small : goal.least_with-least-requires-clause-small
least_with-least-requires-clause-small g c =
    let t = g.S.WordSource.searched_text c.args.self.now.source.now in
    let r = c.args.self.now.reached.now in
    let i = c.args.i in
    let k = c.loop-next.next in
    let high = c.loop-next-test.true in
    let within = c.first-to.ensures.within in
    let w = c.index-before.result.now in
    let at = slice_get_read r.words.items (length r.words.items) i w refl c.requires.word c.index-before.ensures in
    let v = c.index.result.now in
    let at_k = slice_get_read r.words.items (length r.words.items) k v refl (omega (arith, high, within)) c.index.ensures in
    next_small t r c.requires.text.source c.requires.text.reached i w at c.first-from.result c.first-to.result k v at_k c.first-from.ensures c.first-to.ensures c.loop-next.auto.next high
    c.args.backward_costs.now c.requires.later

pub least_with-least-requires-clause-pair : goal.least_with-least-requires-clause-pair
least_with-least-requires-clause-pair g c =
    let t = g.S.WordSource.searched_text c.args.self.now.source.now in
    let r = c.args.self.now.reached.now in
    let i = c.args.i in
    let k = c.loop-next.next in
    let high = c.loop-next-test.true in
    let within = c.first-to.ensures.within in
    let w = c.index-before.result.now in
    let at = slice_get_read r.words.items (length r.words.items) i w refl c.requires.word c.index-before.ensures in
    let v = c.index.result.now in
    let at_k = slice_get_read r.words.items (length r.words.items) k v refl (omega (arith, high, within)) c.index.ensures in
    follows_word t r c.requires.text.source c.requires.text.reached i k w v at at_k

pub loop-next-preserved : goal.loop-next-preserved
loop-next-preserved g c =
    let t = g.S.WordSource.searched_text c.args.self.now.source.now in
    let r = c.args.self.now.reached.now in
    let i = c.args.i in
    let k = c.loop-next.next in
    let high = c.loop-next-test.true in
    let within = c.first-to.ensures.within in
    let w = c.index-before.result.now in
    let at = slice_get_read r.words.items (length r.words.items) i w refl c.requires.word c.index-before.ensures in
    let v = c.index.result.now in
    let at_k = slice_get_read r.words.items (length r.words.items) k v refl (omega (arith, high, within)) c.index.ensures in
    backward_next t r c.requires.text.source c.requires.text.reached i w at c.first-from.result c.first-to.result k v at_k c.first-from.ensures c.first-to.ensures c.loop-next.auto.next high
    c.args.backward_costs.now c.requires.later c.loop-next.least c.least_with-least.result c.least_with-least.ensures c.loop-next.invariant

pub returns : goal.returns
returns g c =
    let t = g.S.WordSource.searched_text c.args.self.now.source.now in
    let r = c.args.self.now.reached.now in
    let i = c.args.i in
    let w = c.index-before.result.now in
    let at = slice_get_read r.words.items (length r.words.items) i w refl c.requires.word c.index-before.ensures in
    let rise = firsts_rise r.words.items w.end (w.end + 1) c.first-from.result c.first-to.result (omega arith) c.first-from.ensures c.first-to.ensures in
    let last : c.loop-next.next ≡ c.first-to.result = omega (arith, c.loop-next.auto.next-end rise, c.loop-next-test.false) in
    backward_last t r c.requires.text.source c.requires.text.reached i w at c.first-to.result c.loop-next.least c.first-to.ensures
    (subst (λ (n : ℕ). IsLeastOf (CostsToEosBelow t.words t.connection r.words.items n w) (number_of c.loop-next.least)) last c.loop-next.invariant)
