use Rattle.std.proofs.Common.{◌∙◌, refl}
use Rattle.programs.proofs.program.run_parsed.Goals as goal

pub returns-in-Ok-work : goal.returns-in-Ok-work
returns-in-Ok-work g c = rw c.in-Ok.is (_, c.work.result, refl, c.work.ensures, rw c.in-Ok-work.is c.from-in-Ok-work.ensures)

pub returns : goal.returns
returns g c = rw c.in-Ok.is (_, c.work.result, refl, c.work.ensures, rw c.in-Err-work.is (c.from-in-Err-work.ensures ∙ c.print-status.ensures))
