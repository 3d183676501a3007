use Rattle.std.proofs.Common.{◌+◌, ◌≤◌, List, drop, length, get_or, refl, subst, arith}
use Rattle.std.proofs.lemmas.List.{at_drop_all, drop_more}
use Rattle.mj_model.specs.declared.word.Word.{Word}
use Rattle.viterbi.proofs.WordNumbers.{no_word}
use Rattle.viterbi.proofs.BestStepLemmas.{AreStepsBefore, may_follow, steps_all, steps_more, steps_none, total_small}
use Rattle.viterbi.proofs.rivals.best_steps.best_steps.Goals as goal

pub loop-word-init : goal.loop-word-init
loop-word-init g c =
    let t = g.S.WordSource.searched_text c.args.source.now in
    let path = c.args.path.now in
    steps_none t c.requires.source path c.requires.best (drop 0 path) c.new-steps.result.items refl c.new-steps.ensures.items

pub step_after-step-requires : goal.step_after-step-requires
step_after-step-requires g c =
    let t = g.S.WordSource.searched_text c.args.source.now in
    let path = c.args.path.now in
    let i = c.loop-word.word-index in
    let w = get_or path i no_word in
    let rest = drop (i + 1) path in
    let so_far = subst (λ (ws : List Word). AreStepsBefore t path ws c.loop-word.right c.loop-word.total.cost c.loop-word.steps.items) (drop_more path i no_word c.loop-word-test.true) c.loop-word.invariant in
    record {
      pair = may_follow t c.requires.source path w rest c.loop-word.right c.loop-word.total.cost c.loop-word.steps.items so_far;
      total = total_small t c.requires.source path w rest c.loop-word.right c.loop-word.total.cost c.loop-word.steps.items so_far;
    }

pub loop-word-preserved : goal.loop-word-preserved
loop-word-preserved g c =
    let t = g.S.WordSource.searched_text c.args.source.now in
    let path = c.args.path.now in
    let i = c.loop-word.word-index in
    let w = get_or path i no_word in
    let rest = drop (i + 1) path in
    let so_far = subst (λ (ws : List Word). AreStepsBefore t path ws c.loop-word.right c.loop-word.total.cost c.loop-word.steps.items) (drop_more path i no_word c.loop-word-test.true) c.loop-word.invariant in
    let is = c.step_after-step.ensures in
    steps_more t c.requires.source path w rest c.loop-word.right c.loop-word.total.cost c.loop-word.steps.items so_far c.step_after-step.result c.total_of-total.result.cost c.push.new.self.items
    is.word is.connection is.total c.total_of-total.ensures c.in_ok-push.ensures.items

pub returns : goal.returns
returns g c =
    let t = g.S.WordSource.searched_text c.args.source.now in
    let path = c.args.path.now in
    let all : length path ≤ c.loop-word.word-index = omega (arith, c.loop-word-test.false) in
    steps_all t c.requires.source path c.loop-word.right c.loop-word.total.cost c.loop-word.steps.items
    (subst (λ (ws : List Word). AreStepsBefore t path ws c.loop-word.right c.loop-word.total.cost c.loop-word.steps.items) (at_drop_all (λ (ws : List Word). ws) path c.loop-word.word-index all) c.loop-word.invariant)
