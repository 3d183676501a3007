use Rattle.lattice_view.proofs.OneLattice.{one_lattice}
use Rattle.lattice_view.proofs.lattice_printer.laws.one_lattice.Goals as goal

pub returns : goal.returns
returns c = one_lattice
