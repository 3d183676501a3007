use Rattle.lattice_view.specs.LatticePrinter.NodesInLine.{marked_of, overlay_in}
use Rattle.lattice_view.proofs.PrintedWords.{word_shown}
use Rattle.lattice_view.proofs.lattice_printer.dot.append_word.Goals as goal

pub returns-clause-appended : goal.returns-clause-appended
returns-clause-appended c =
    let m = c.args.marked.now in
    word_shown c.append_costs.result (overlay_in m) m.text.now m.best (marked_of m) c.feature.result.now c.clear.new.self.items c.append_field.new.out.items c.deref.result.now
    c.args.out.now.items c.append_start.new.out.items c.append_escaped.new.out.items c.append_costs.new.out.items c.in_ok-_found._found
    c.clear.ensures.items c.feature.ensures c.in_ok-_found.ensures.appended c.deref.ensures.value
    c.in_ok-append_start.ensures.appended c.in_ok-append_escaped.ensures.appended c.append_costs.ensures.appended
