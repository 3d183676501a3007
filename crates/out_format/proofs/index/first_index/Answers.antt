use Rattle.out_format.proofs.IndexLemmas.{no_text}
use Rattle.out_format.proofs.index.first_index.Goals as goal

pub returns-in_err-bracket : goal.returns-in_err-bracket
returns-in_err-bracket c = rw (c.from_residual.ensures, c.in_err-bracket.ensures) no_text

pub returns-then-bracket-eq91 : goal.returns-then-bracket-eq91
returns-then-bracket-eq91 c = rw (c.in_ok-bracket.ensures, c.if-bracket-eq91.true) c.index_inside.ensures
