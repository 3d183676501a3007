use Rattle.std.proofs.Common.{refl, inr}
use Rattle.programs.proofs.fault.Fault.of_file.Goals as goal

pub returns-clause-path : goal.returns-clause-path
returns-clause-path c = inr (c.in-Ok.path, refl, c.in-Ok.ensures.ok)
