use Rattle.std.proofs.Common.{sym}
use Rattle.lattice_view.proofs.lattice_printer.dot.append_start.Goals as goal

pub returns-clause-appended : goal.returns-clause-appended
returns-clause-appended c = rw (sym c.surface.ensures, sym c.style_of.ensures.in_box) c.append_pieces.ensures.appended
