use Rattle.std.proofs.Common.{ℕ, List, subst}
use Rattle.programs.specs.Faults.{Names}
use Rattle.programs.specs.declared.fault.Fault.TheVariants.{Overlay}
use Rattle.jseg_lib.proofs.images.overlay_fault.Goals as goal

pub returns : goal.returns
returns c = subst (λ (path : List ℕ). Names (λ reported. Overlay reported c.args.fault) path c.of_overlay.result) c.path_of.ensures c.of_overlay.ensures
