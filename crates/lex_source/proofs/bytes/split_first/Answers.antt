use Rattle.lex_source.proofs.SplitLemmas.{not_found, cut_at}
use Rattle.std.proofs.Common.{eqb}
use Rattle.lex_source.proofs.bytes.split_first.Goals as goal

pub returns-in_err-at : goal.returns-in_err-at
returns-in_err-at c = rw c.from_residual.ensures (not_found (λ b. eqb b c.args.byte) c.args.bytes.now c.in_err-at.ensures)

pub returns : goal.returns
returns c = cut_at (λ b. eqb b c.args.byte) c.args.bytes.now c.in_ok-at.at c.in_ok-at.ensures.0 c.in_ok-at.ensures.1
