use Rattle.std.proofs.Common.{subst}
use Rattle.char_def.specs.Outside.{IsLeastOf}
use Rattle.char_def.proofs.OutsideLemmas.{least_min, least_first}
use Rattle.char_def.proofs.outside.earlier.Goals as goal

pub returns-in-Some : goal.returns-in-Some
returns-in-Some c = λ lines h.
    rw c.min.ensures (least_min lines c.in-Some.other c.args.line (subst (IsLeastOf lines) c.in-Some.is h))

pub returns-in-None : goal.returns-in-None
returns-in-None c = λ lines h. least_first lines c.args.line (subst (IsLeastOf lines) c.in-None.is h)
