use Rattle.std.proofs.Common.{◌≤◌, ◌∙◌, None, set, get_or, refl, sym, subst, arith}
use Rattle.std.proofs.lemmas.Option.{same_Some, slice_get-get_or, slice_get_within}
use Rattle.mj_model.specs.declared.word.Word.{Word}
use Rattle.viterbi.proofs.WordNumbers.{no_word}
use Rattle.viterbi.proofs.AllRivalsLemmas.{offered_all, offered_more, offered_none}
use Rattle.viterbi.proofs.rivals.all_rivals.update_best_rivals.Goals as goal

pub loop-k-init : goal.loop-k-init
loop-k-init c = offered_none c.args.path.now c.requires.path c.args.number c.args.node.now c.args.first c.requires.first c.args.bests.now

pub loop-k-preserved : goal.loop-k-preserved
loop-k-preserved c =
    let path = c.args.path.now in
    let k = c.loop-k.k in
    let less = c.loop-k-test.true in
    let bests = c.loop-k.bests in
    let long = c.loop-k.invariant.long in
    let all = c.requires.long in
    offered_more path c.requires.path c.args.number c.args.node.now c.args.first c.requires.first c.args.bests.now k (get_or path k no_word) (get_or bests k None) c.better.result bests (set bests k c.better.result)
    (slice_get-get_or path k no_word less) (slice_get-get_or bests k None (omega (arith, less, long, all))) c.better.ensures refl c.loop-k.invariant

pub returns-then-node-path : goal.returns-then-node-path
returns-then-node-path c =
    let path = c.args.path.now in
    let k = c.loop-k.k in
    let less = c.loop-k-test.true in
    offered_all path c.requires.path c.args.number c.args.node.now c.args.first c.requires.first c.args.bests.now k c.loop-k.bests
    (λ w at. subst (λ (x : Word). c.args.node.now.word.end ≤ x.place) (same_Some (get_or path k no_word) w (sym (slice_get-get_or path k no_word less) ∙ at)) c.if-node-path.true)
    c.requires.long c.loop-k.invariant

pub returns : goal.returns
returns c =
    let path = c.args.path.now in
    let k = c.loop-k.k in
    let past = c.loop-k-test.false in
    offered_all path c.requires.path c.args.number c.args.node.now c.args.first c.requires.first c.args.bests.now k c.loop-k.bests
    (λ w at. let within = slice_get_within path k w at in absurd (omega (arith, within, past)))
    c.requires.long c.loop-k.invariant
