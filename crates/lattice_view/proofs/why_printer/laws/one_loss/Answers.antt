use Rattle.lattice_view.proofs.OneLoss.{one_loss}
use Rattle.lattice_view.proofs.why_printer.laws.one_loss.Goals as goal

pub returns : goal.returns
returns c = one_loss
