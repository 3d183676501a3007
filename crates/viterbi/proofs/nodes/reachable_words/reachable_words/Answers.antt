use Rattle.std.proofs.Common.{◌≡◌, ◌+◌, ℕ, Bool, List, [], length, set, true, false, get_or, refl, sym, subst, arith}
use Rattle.mj_model.specs.declared.word.Word.{Word}
use Rattle.viterbi.specs.Nodes.LatticeNodes.{AreReachableBefore}
use Rattle.viterbi.specs.Nodes.ReachableWords.{IsReachedTo}
use Rattle.viterbi.proofs.ReachableLemmas.{collected_none}
use Rattle.viterbi.proofs.nodes.reachable_words.reachable_words.Goals as goal

pub loop-place-init : goal.loop-place-init
loop-place-init g c =
    let t = g.S.WordSource.searched_text c.args.source.now in
    let before = c.as_mut_slice-marks.result.now in
    let long : length before ≡ t.text_length + 1 = omega (arith, c.as_mut_slice-marks.ensures.len, c.in_ok-resize.ensures.len, c.length-length.ensures) in
    let marks = set before 0 true in
    let none = collected_none t c.requires before marks long
    (λ k less. subst (λ (xs : List Bool). get_or xs k true ≡ false) (sym c.as_mut_slice-marks.ensures.value)
    (c.in_ok-resize.ensures.by_index.1 k true refl (omega (arith, c.new-reachable.ensures.len)) (omega (arith, less, c.length-length.ensures))))
    refl in
    record {
      reached = subst (λ (ws : List Word). IsReachedTo t 0 ws c.new-2.result.items marks) (sym c.new.ensures.items)
          (subst (λ (firsts : List ℕ). IsReachedTo t 0 [] firsts marks) (sym c.new-2.ensures.items) none);
      cursor = c.cursor-cursor.ensures;
    }

pub returns : goal.returns
returns g c =
    let t = g.S.WordSource.searched_text c.args.source.now in
    let h = c.loop-place.invariant.reached in
    let all : c.loop-place.place ≡ t.text_length = omega (arith, c.loop-place.auto.place-end, c.loop-place-test.false, c.length-length.ensures) in
    record {
      are = subst (λ (p : ℕ). AreReachableBefore t.words p c.loop-place.reached.words.items) all h.are;
      indexed = h.indexed;
    }
