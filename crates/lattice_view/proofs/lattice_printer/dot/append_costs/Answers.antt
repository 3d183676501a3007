use Rattle.std.proofs.Common.{◌≡◌, rules, ap, sym, ◌∙◌}
use Rattle.std.proofs.lemmas.Int.{to_z-of_z}
use mir.Val.{to_z, of_z, SFits}
use mir.Syntax.{w16, w64}
use Rattle.lattice_view.specs.LatticePrinter.Dot.{lost_word}
use Rattle.lattice_view.specs.LatticePrinter.Tsv.{cost_cell}
use Rattle.lattice_view.proofs.lattice_printer.dot.append_costs.Goals as goal

pub returns-clause-appended : goal.returns-clause-appended
returns-clause-appended c =
    let n = c.args.marked.now.node.now in
    let cost_fits : SFits w64 c.from.result = search rules in
    let word_fits : SFits w16 n.word.cost = search rules in
    let total_fits : SFits w64 n.total = search rules in
    let cost_is : to_z w64 (of_z w64 c.from.result) ≡ n.word.cost = to_z-of_z w64 c.from.result cost_fits ∙ c.from.ensures ∙ to_z-of_z w16 n.word.cost word_fits in
    let total_is : to_z w64 (of_z w64 n.total) ≡ n.total = to_z-of_z w64 n.total total_fits in
    rw (sym cost_is, sym total_is, sym (c.lost_word.ensures ∙ ap lost_word c.lost-lost.ensures), sym (c.cost_or_none.ensures ∙ ap cost_cell c.lost-lost.ensures), sym c.style_of.ensures.of_edges)
    c.append_pieces.ensures.appended
