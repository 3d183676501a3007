use Rattle.std.proofs.Common.{refl, inr}
use Rattle.programs.proofs.fault.Fault.of_source.Goals as goal

pub returns-clause-source : goal.returns-clause-source
returns-clause-source c = rw c.in-Some-true.is-0 (λ of_a_file. inr (c.in-Ok.path, refl, c.in-Ok.ensures.ok))
