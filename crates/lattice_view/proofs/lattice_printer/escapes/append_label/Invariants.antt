use Rattle.std.proofs.Common.{◌≡◌, ℕ, List, ◌++◌, length}
use Rattle.lattice_view.specs.LatticePrinter.Escapes.{in_label_after, label_text}
use Rattle.lattice_view.proofs.lattice_printer.escapes.append_label.Given as goal

abbrev pub invariant-loop-byte : goal.invariant-loop-byte
invariant-loop-byte l = (done : List ℕ) × (l.out.items ≡ l.initial.out.items ++ done) × (done ++ in_label_after l.held l.rest ≡ label_text l.bytes)

abbrev pub decreases-loop-byte : goal.decreases-loop-byte
decreases-loop-byte l = length l.rest
