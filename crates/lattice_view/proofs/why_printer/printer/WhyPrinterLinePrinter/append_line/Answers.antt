use Rattle.mj_model.specs.Lists.{GrowsBy}
use Rattle.line_stream.specs.StreamState.{IsPrinted}
use Rattle.line_stream.proofs.ResultLemmas.{on_ok_by}
use Rattle.word_lookup.specs.Overlays.{overlay_of}
use Rattle.lattice_view.specs.WhyPrinter.PrintedWhy.{PrintsWhy, WhyLineResult}
use Rattle.lattice_view.proofs.PrintedRows.{why_printed}
use Rattle.lattice_view.proofs.why_printer.printer.WhyPrinterLinePrinter.append_line.Goals as goal

pub append-requires-clause-line : goal.append-requires-clause-line
append-requires-clause-line c = record { good = (c.requires, c.utf8.text); best = c.in_ok-fill_best.ensures.best; total = c.in_ok-fill_best.ensures.total }

pub returns-clause-printed : goal.returns-clause-printed
returns-clause-printed c =
    let o = overlay_of c.args.self.now.dictionaries in
    let text = c.args.text.now in
    let old = c.args.out.now.items in
    let new = c.append.new.out.items in
    on_ok_by c.append.result (GrowsBy (PrintsWhy o text) old new) (IsPrinted (WhyLineResult o) text old new) (λ h. (h.0, ((c.requires, c.utf8.text), h.1), h.2))
    (why_printed c.append.result o text c.fill_best.new.path.words.items old new c.in_ok-fill_best.ensures.best c.append.ensures.appended)
