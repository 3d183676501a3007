use Rattle.std.proofs.Common.{arith, refl, sym, ◌∙◌}
use Rattle.std.proofs.lemmas.List.{take_rest}
use Rattle.matrix_def.proofs.HeaderLemmas.{last_word}
use Rattle.matrix_def.proofs.header_start.split_last_word.Goals as goal
use Rattle.matrix_def.proofs.header_start.split_last_word.Goals.{then-loop-at-test+else-not-is_blank, else-loop-at-test}

pub returns : goal.returns
returns c = last_word c.args.start.now _ _ c.loop-at.at refl (take_rest c.args.start.now c.loop-at.at) c.loop-at.invariant.within c.loop-at.invariant.plain (λ some.
    elim c.loop-at-test.branch [
      | then-loop-at-test+else-not-is_blank w ↦ sym w.is_blank.ensures ∙ w.if-not-is_blank.false
      | else-loop-at-test w ↦ absurd (omega arith)
    ])
