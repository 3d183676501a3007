use Rattle.lattice_view.specs.WhyPrinter.ExplainedLines.{best_of_line, overlay_of_line}
use Rattle.lattice_view.proofs.PrintedRows.{sheet_shown}
use Rattle.lattice_view.proofs.why_printer.line_explanation.LineExplanation.append.Goals as goal

pub returns-clause-appended : goal.returns-clause-appended
returns-clause-appended c =
    let l = c.args.self.now.line.now in
    sheet_shown c.append_end.result (overlay_of_line l) l.text.now (best_of_line l) c.args.out.now.items c.append_heading.new.out.items c.append_words.new.out.items c.append_end.new.out.items
    c.in_ok-append_heading.ensures.appended c.in_ok-append_words.ensures.appended c.append_end.ensures.appended
