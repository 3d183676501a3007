use Rattle.std.proofs.Common.{◌≡◌, ◌≤◌, ◌++◌, ◌∷◌, [], List, length, max, take, get_or, sym, subst, arith}
use Rattle.std.proofs.lemmas.List.{take_all, take_more}
use Rattle.mj_model.specs.declared.word.Word.{Word}
use Rattle.viterbi.proofs.WordNumbers.{no_word}
use Rattle.viterbi.specs.Nodes.BackwardCosts.{IsLastEnd}
use Rattle.viterbi.proofs.BackwardCostLemmas.{last_of_none, last_with}
use Rattle.viterbi.proofs.nodes.backward_costs.last_end_position.Goals as goal
use Rattle.viterbi.proofs.nodes.backward_costs.last_end_position.Goals.{then-last-word, else-last-word}

pub loop-word-init : goal.loop-word-init
loop-word-init c = last_of_none

pub loop-word-preserved : goal.loop-word-preserved
loop-word-preserved c =
    let ws = c.args.words.now in
    let i = c.loop-word.word-index in
    let w = get_or ws i no_word in
    let e : max c.loop-word.last w.end ≡ c.if-last-word.last = elim c.if-last-word.branch [ then-last-word b ↦ omega arith | else-last-word b ↦ omega arith ] in
    subst (λ (xs : List Word). IsLastEnd xs c.if-last-word.last) (sym (take_more ws i no_word c.loop-word-test.true))
    (subst (IsLastEnd (take i ws ++ w ∷ [])) e (last_with (take i ws) w c.loop-word.last c.loop-word.invariant))

pub returns : goal.returns
returns c =
    let ws = c.args.words.now in
    let all : length ws ≤ c.loop-word.word-index = omega (arith, c.loop-word-test.false) in
    subst (λ (xs : List Word). IsLastEnd xs c.loop-word.last) (take_all c.loop-word.word-index ws all) c.loop-word.invariant
