use Rattle.std.proofs.Common.{sym}
use Rattle.lattice_view.proofs.lattice_printer.dot.append_dot_head.Goals as goal

pub returns-clause-appended : goal.returns-clause-appended
returns-clause-appended c = rw (sym c.as_bytes.ensures.value) c.append_pieces.ensures.appended
