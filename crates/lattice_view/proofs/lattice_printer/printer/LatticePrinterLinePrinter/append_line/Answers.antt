use Rattle.std.proofs.Common.{rules}
use Rattle.std.proofs.lemmas.Int.{to_z-of_z}
use mir.Val.{to_z, of_z, SFits}
use mir.Syntax.{w64}
use Rattle.mj_model.specs.Lists.{GrowsBy}
use Rattle.line_stream.specs.StreamState.{IsPrinted}
use Rattle.line_stream.proofs.ResultLemmas.{on_ok_by}
use Rattle.word_lookup.specs.Overlays.{overlay_of}
use Rattle.lattice_view.specs.LatticePrinter.PrintedLattices.{PrintsLattice, LatticeLineResult}
use Rattle.lattice_view.proofs.PrintableNodes.{are_printable, lattice_printed}
use Rattle.lattice_view.proofs.lattice_printer.printer.LatticePrinterLinePrinter.append_line.Goals as goal

pub append-requires : goal.append-requires
append-requires c =
    let total = c.fill_best.new.path.total in
    let fits : SFits w64 total = search rules in
    are_printable _ c.fill_best.new.path.words.items c.deref.result.now c.in_ok-nodes.field-0 total c.utf8.text c.requires c.in_ok-fill_best.ensures.best c.in_ok-fill_best.ensures.total
    (to_z-of_z w64 total fits) c.in_ok-nodes.ensures c.deref-2.ensures.value c.deref-3.ensures.value

pub returns-clause-printed : goal.returns-clause-printed
returns-clause-printed c =
    let o = overlay_of c.args.self.now.dictionaries in
    let f = c.args.self.now.format in
    let text = c.args.text.now in
    let old = c.args.out.now.items in
    let new = c.append.new.out.items in
    let total = c.fill_best.new.path.total in
    let fits : SFits w64 total = search rules in
    on_ok_by c.append.result (GrowsBy (PrintsLattice f o text) old new) (IsPrinted (LatticeLineResult f o) text old new) (λ h. (h.0, ((c.requires, c.utf8.text), h.1), h.2))
    (lattice_printed c.append.result f o text c.fill_best.new.path.words.items c.deref.result.now c.in_ok-nodes.field-0
    c.deref-2.result.now c.deref-3.result.now (to_z w64 (of_z w64 total)) total old new
    c.in_ok-fill_best.ensures.best c.in_ok-fill_best.ensures.total (to_z-of_z w64 total fits) c.deref.ensures.value c.in_ok-nodes.ensures c.deref-2.ensures.value c.deref-3.ensures.value
    c.append.ensures.appended)
