use Rattle.std.proofs.Common.{◌≡◌, rules, sym, ◌∙◌}
use Rattle.std.proofs.lemmas.Int.{to_z-of_z}
use mir.Val.{to_z, of_z, SFits}
use mir.Syntax.{w16, w64}
use Rattle.lattice_view.proofs.why_printer.rows.append_step.Goals as goal

pub returns-clause-appended : goal.returns-clause-appended
returns-clause-appended c =
    let s = c.args.step.now in
    let cost_fits : SFits w64 c.from.result = search rules in
    let word_fits : SFits w16 s.word.cost = search rules in
    let connection_fits : SFits w64 s.connection = search rules in
    let total_fits : SFits w64 s.total = search rules in
    let cost_is : to_z w64 (of_z w64 c.from.result) ≡ s.word.cost = to_z-of_z w64 c.from.result cost_fits ∙ c.from.ensures ∙ to_z-of_z w16 s.word.cost word_fits in
    let connection_is : to_z w64 (of_z w64 s.connection) ≡ s.connection = to_z-of_z w64 s.connection connection_fits in
    let total_is : to_z w64 (of_z w64 s.total) ≡ s.total = to_z-of_z w64 s.total total_fits in
    rw (
      sym c.path_of.ensures,
      sym c.surface.ensures,
      sym connection_is,
      sym cost_is,
      sym total_is,
      sym c.cost_or_none.ensures,
      sym (c.as_bytes.ensures.value ∙ c.feature.ensures),
    )
    c.append_pieces.ensures.appended
