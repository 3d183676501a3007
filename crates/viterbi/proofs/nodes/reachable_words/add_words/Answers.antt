use Rattle.std.proofs.Common.{◌≡◌, ◌≤◌, ◌++◌, ◌∙◌, List, length, Some, subst, ap, arith, slice_get}
use Rattle.std.proofs.lemmas.List.{take_all}
use Rattle.mj_model.specs.declared.word.Word.{Word}
use Rattle.viterbi.proofs.ReachableLemmas.{words_more}
use Rattle.viterbi.proofs.nodes.reachable_words.add_words.Goals as goal

pub word-requires : goal.word-requires
word-requires g c =
    let all = ap length c.words_of-its_words.ensures in
    let count = c.requires.count_is in
    omega (arith, all, count, c.loop-i-test.true)

pub loop-i-preserved : goal.loop-i-preserved
loop-i-preserved g c =
    let t = g.S.WordSource.searched_text c.args.source.now in
    let at = subst (λ (ws : List Word). slice_get ws c.loop-i.i ≡ Some c.word.result) c.words_of-its_words.ensures c.word.ensures in
    words_more (t.surface_words c.args.surface.now) c.args.words.now.items c.loop-i.words.items c.push.new.self.items c.loop-i.i c.word.result at c.loop-i.invariant c.in_ok-push.ensures.items

pub returns : goal.returns
returns g c =
    let t = g.S.WordSource.searched_text c.args.source.now in
    let ws = t.surface_words c.args.surface.now in
    let count = c.requires.count_is in
    let all : length ws ≤ c.loop-i.i = omega (arith, count, c.loop-i-test.false) in
    c.loop-i.invariant ∙ ap (λ (xs : List Word). c.args.words.now.items ++ xs) (take_all c.loop-i.i ws all)
