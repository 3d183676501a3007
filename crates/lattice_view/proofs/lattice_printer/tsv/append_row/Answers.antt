use Rattle.std.proofs.Common.{◌≡◌, rules, ap, sym, ◌∙◌}
use Rattle.std.proofs.lemmas.Int.{to_z-of_z}
use mir.Val.{to_z, of_z, SFits}
use mir.Syntax.{w16, w64}
use Rattle.lattice_view.specs.LatticePrinter.Tsv.{cost_cell}
use Rattle.lattice_view.proofs.lattice_printer.tsv.append_row.Goals as goal

pub returns-clause-appended : goal.returns-clause-appended
returns-clause-appended c =
    let n = c.args.marked.now.node.now in
    let cost_fits : SFits w64 c.from-3.result = search rules in
    let word_fits : SFits w16 n.word.cost = search rules in
    let total_fits : SFits w64 n.total = search rules in
    let cost_is : to_z w64 (of_z w64 c.from-3.result) ≡ n.word.cost = to_z-of_z w64 c.from-3.result cost_fits ∙ c.from-3.ensures ∙ to_z-of_z w16 n.word.cost word_fits in
    let total_is : to_z w64 (of_z w64 n.total) ≡ n.total = to_z-of_z w64 n.total total_fits in
    rw (
      sym c.surface.ensures,
      sym c.from.ensures,
      sym c.from-2.ensures,
      sym cost_is,
      sym c.known.ensures,
      sym c.dictionary.ensures,
      sym c.token.ensures,
      sym total_is,
      sym c.cost_or_none.ensures,
      sym (c.cost_or_none-2.ensures ∙ ap cost_cell c.lost.ensures),
      sym c.best_mark.ensures,
      sym (c.as_bytes.ensures.value ∙ c.feature.ensures),
    )
    c.append_pieces.ensures.appended
