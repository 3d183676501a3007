use Rattle.std.proofs.Common.{rules, refl, sym, subst, arith}
use Rattle.std.proofs.lemmas.Int.{to_z-of_z}
use Rattle.std.proofs.lemmas.Option.{slice_get-get_or}
use mir.Val.{SFits}
use mir.Syntax.{w64}
use Rattle.lattice_view.specs.LatticePrinter.NodesInLine.{IsLow}
use Rattle.lattice_view.proofs.lattice_printer.formatted_lattice.LineLattice.node.Goals as goal

pub returns : goal.returns
returns c =
    let l = c.args.self.now in
    let i = c.args.number in
    let low = c.requires.number in
    let marks = c.requires.printable.marks in
    let fits : SFits w64 l.best = search rules in
    let same = to_z-of_z w64 l.best fits in
    let here = slice_get-get_or l.nodes.now i _ low in
    record {
      printable = record { lies = c.requires.printable.each i _ here; best_low = subst IsLow (sym same) c.requires.printable.best_low };
      overlay_is = refl;
      text_is = refl;
      best_is = same;
      number_is = refl;
      node_is = here;
      mark_is = slice_get-get_or l.on_best.now i _ (omega (arith, low, marks));
    }
