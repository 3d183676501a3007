use Rattle.std.proofs.Common.{eqb}
use Rattle.lex_source.proofs.SplitLemmas.{not_found_text, cut_text}
use Rattle.lex_source.proofs.text.split_text.Goals as goal

pub returns-in_err-at : goal.returns-in_err-at
returns-in_err-at c = rw c.from_residual.ensures (not_found_text (λ b. eqb b c.args.byte) c.args.text.now c.as_bytes.result.now c.as_bytes.ensures.value c.in_err-at.ensures)

pub returns : goal.returns
returns c = cut_text (λ b. eqb b c.args.byte) c.args.text.now c.as_bytes.result.now _ _ c.in_ok-at.at c.as_bytes.ensures.value c.in_ok-at.ensures.0 c.in_ok-at.ensures.1 c.split_around.ensures.before c.split_around.ensures.after
