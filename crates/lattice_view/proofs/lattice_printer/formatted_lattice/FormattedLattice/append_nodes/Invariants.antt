use Rattle.lattice_view.specs.LatticePrinter.LatticesOfLines.{overlay_of_lattice}
use Rattle.lattice_view.specs.LatticePrinter.FormattedLattices.{PrintsWithin}
use Rattle.lattice_view.proofs.PrintedNodes.{NodesSoFar}
use Rattle.lattice_view.proofs.lattice_printer.formatted_lattice.FormattedLattice.append_nodes.Given as goal

abbrev pub invariant-loop-number : goal.invariant-loop-number
invariant-loop-number l =
    NodesSoFar (PrintsWithin l.self.format (overlay_of_lattice l.self.lattice.now) l.self.lattice.now.text.now l.self.lattice.now.best) l.self.lattice.now.nodes.now l.self.lattice.now.on_best.now l.number l.initial.out.items l.out.items
