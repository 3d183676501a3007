use Rattle.std.proofs.Common.{arith, sym, ◌∙◌}
use Rattle.lex_source.proofs.SplitLemmas.{blanks_after}
use Rattle.lex_source.proofs.bytes.without_trailing_blanks.Goals as goal
use Rattle.lex_source.proofs.bytes.without_trailing_blanks.Goals.{then-loop-end-test+else-is_blank, else-loop-end-test}

pub returns : goal.returns
returns c = blanks_after c.args.text.now c.loop-end.end c.loop-end.invariant.within c.loop-end.invariant.blanks (λ some.
    elim c.loop-end-test.branch [
      | then-loop-end-test+else-is_blank w ↦ sym w.is_blank.ensures ∙ w.if-is_blank.false
      | else-loop-end-test w ↦ absurd (omega arith)
    ])
