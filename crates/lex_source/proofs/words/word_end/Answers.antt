use Rattle.std.proofs.Common.{arith, sym, ◌∙◌}
use Rattle.std.proofs.lemmas.List.Sums.{position_or_len_is}
use Rattle.mj_model.specs.Bytes.{is_blank}
use Rattle.lex_source.proofs.words.word_end.Goals as goal

pub returns-then-is_blank-clause-at : goal.returns-then-is_blank-clause-at
returns-then-is_blank-clause-at c = sym (position_or_len_is is_blank c.args.text.now c.loop-i.i 0 (omega arith) c.loop-i.invariant (λ _. sym c.is_blank.ensures ∙ c.if-is_blank.true))

pub returns-clause-at : goal.returns-clause-at
returns-clause-at c = sym (position_or_len_is is_blank c.args.text.now _ 0 (omega arith) (λ k low. c.loop-i.invariant k (omega arith)) (λ h. absurd (omega arith)))
