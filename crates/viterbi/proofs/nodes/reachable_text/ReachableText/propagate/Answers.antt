use Rattle.std.proofs.Common.{◌≡◌, ◌+◌, ℕ, length, refl, sym, ap, subst, arith}
use Rattle.std.specs.Prelude.{IsSome}
use Rattle.std.proofs.lemmas.Option.{slice_get_read}
use Rattle.viterbi.specs.declared.nodes.cost.ChainCost.{ChainCost}
use Rattle.viterbi.specs.Nodes.ForwardCosts.{ArePropagatedIn}
use Rattle.viterbi.proofs.ReachableLemmas.{firsts_rise}
use Rattle.viterbi.proofs.SourceLemmas.{ends_low, follows_word}
use Rattle.viterbi.proofs.StepLemmas.{handed_all, handed_from, handed_next, own_is, own_small, own_there}
use Rattle.viterbi.proofs.nodes.reachable_text.ReachableText.propagate.Goals as goal

pub unwrap-total-requires : goal.unwrap-total-requires
unwrap-total-requires g c =
    let t = g.S.WordSource.searched_text c.args.self.now.source.now in
    let r = c.args.self.now.reached.now in
    let i = c.args.i in
    let w = c.index-word.result.now in
    let at = slice_get_read r.words.items (length r.words.items) i w refl c.requires.word c.index-word.ensures in
    let there = own_there t r c.requires.text.source c.requires.text.reached i w at c.args.forward_costs.now c.requires.before in
    subst IsSome (sym there.1) refl

pub overflow_add-word : goal.overflow_add-word
overflow_add-word g c =
    let t = g.S.WordSource.searched_text c.args.self.now.source.now in
    let r = c.args.self.now.reached.now in
    let i = c.args.i in
    let w = c.index-word.result.now in
    let at = slice_get_read r.words.items (length r.words.items) i w refl c.requires.word c.index-word.ensures in
    let low = ends_low t r c.requires.text.source c.requires.text.reached i w at in
    omega (arith, low)

pub loop-next-init : goal.loop-next-init
loop-next-init g c =
    let t = g.S.WordSource.searched_text c.args.self.now.source.now in
    let r = c.args.self.now.reached.now in
    let i = c.args.i in
    let w = c.index-word.result.now in
    let at = slice_get_read r.words.items (length r.words.items) i w refl c.requires.word c.index-word.ensures in
    handed_from t r c.requires.text.source c.requires.text.reached i w at c.args.forward_costs.now c.first-from.result c.first-from.ensures c.requires.before

pub with_word-found-requires-clause-small : goal.with_word-found-requires-clause-small
with_word-found-requires-clause-small g c =
    let t = g.S.WordSource.searched_text c.args.self.now.source.now in
    let r = c.args.self.now.reached.now in
    let i = c.args.i in
    let w = c.index-word.result.now in
    let at = slice_get_read r.words.items (length r.words.items) i w refl c.requires.word c.index-word.ensures in
    own_small t r c.requires.text.source c.requires.text.reached i w at c.args.forward_costs.now c.requires.before c.unwrap-total.result c.unwrap-total.ensures

pub with_word-found-requires-clause-pair : goal.with_word-found-requires-clause-pair
with_word-found-requires-clause-pair g c =
    let t = g.S.WordSource.searched_text c.args.self.now.source.now in
    let r = c.args.self.now.reached.now in
    let i = c.args.i in
    let k = c.loop-next.next in
    let high = c.loop-next-test.true in
    let within = c.first-to.ensures.within in
    let w = c.index-word.result.now in
    let at = slice_get_read r.words.items (length r.words.items) i w refl c.requires.word c.index-word.ensures in
    let v = c.index.result.now in
    let at_k = slice_get_read r.words.items (length r.words.items) k v refl (omega (arith, high, within)) c.index.ensures in
    follows_word t r c.requires.text.source c.requires.text.reached i k w v at at_k

pub loop-next-preserved : goal.loop-next-preserved
loop-next-preserved g c =
    let t = g.S.WordSource.searched_text c.args.self.now.source.now in
    let r = c.args.self.now.reached.now in
    let i = c.args.i in
    let k = c.loop-next.next in
    let high = c.loop-next-test.true in
    let within = c.first-to.ensures.within in
    let w = c.index-word.result.now in
    let at = slice_get_read r.words.items (length r.words.items) i w refl c.requires.word c.index-word.ensures in
    let v = c.index.result.now in
    let at_k = slice_get_read r.words.items (length r.words.items) k v refl (omega (arith, high, within)) c.index.ensures in
    let known = own_is t r c.requires.text.source c.requires.text.reached i w at c.args.forward_costs.now c.requires.before c.unwrap-total.result c.unwrap-total.ensures in
    handed_next t r c.requires.text.source c.requires.text.reached i w at c.first-from.result c.first-to.result k v at_k c.first-from.ensures c.first-to.ensures c.loop-next.auto.next high
    c.loop-next.forward_costs c.unwrap-total.result c.with_word-found.result c.lesser.result known (ap (λ (x : ChainCost). x.cost) c.with_word-found.ensures) c.lesser.ensures c.loop-next.invariant

pub returns : goal.returns
returns g c =
    let t = g.S.WordSource.searched_text c.args.self.now.source.now in
    let r = c.args.self.now.reached.now in
    let i = c.args.i in
    let w = c.index-word.result.now in
    let at = slice_get_read r.words.items (length r.words.items) i w refl c.requires.word c.index-word.ensures in
    let rise = firsts_rise r.words.items w.end (w.end + 1) c.first-from.result c.first-to.result (omega arith) c.first-from.ensures c.first-to.ensures in
    let last : c.loop-next.next ≡ c.first-to.result = omega (arith, c.loop-next.auto.next-end rise, c.loop-next-test.false) in
    handed_all t r c.requires.text.source c.requires.text.reached i w at c.loop-next.forward_costs c.first-to.result c.first-to.ensures
    (subst (λ (n : ℕ). ArePropagatedIn t r i n c.loop-next.forward_costs) last c.loop-next.invariant)
