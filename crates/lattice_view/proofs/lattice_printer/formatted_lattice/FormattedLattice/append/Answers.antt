use Rattle.lattice_view.specs.LatticePrinter.LatticesOfLines.{overlay_of_lattice}
use Rattle.lattice_view.proofs.PrintedWords.{sheet_shown}
use Rattle.lattice_view.proofs.lattice_printer.formatted_lattice.FormattedLattice.append.Goals as goal

pub returns-clause-appended : goal.returns-clause-appended
returns-clause-appended c =
    let l = c.args.self.now.lattice.now in
    sheet_shown c.append_tail.result c.args.self.now.format (overlay_of_lattice l) l.text.now l.best l.nodes.now l.on_best.now c.args.out.now.items c.append_head.new.out.items c.append_nodes.new.out.items
    c.append_tail.new.out.items c.in_ok-append_head.ensures.appended c.in_ok-append_nodes.ensures.appended c.append_tail.ensures.appended
