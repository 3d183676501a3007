use Rattle.std.proofs.Common.{refl, inr}
use Rattle.programs.proofs.fault.Fault.of_image.Goals as goal

pub returns : goal.returns
returns c = inr (c.in-Ok.path, refl, c.in-Ok.ensures.ok)
