use Rattle.std.proofs.Common.{◌≡◌, ◌++◌, take}
use Rattle.std.specs.Prelude.{flat_map}
use Rattle.lattice_view.specs.LatticePrinter.Escapes.{in_cell}
use Rattle.lattice_view.proofs.lattice_printer.escapes.append_cell.Given as goal

abbrev pub invariant-loop-byte : goal.invariant-loop-byte
invariant-loop-byte l = l.out.items ≡ l.initial.out.items ++ flat_map in_cell (take l.byte-index l.bytes)
