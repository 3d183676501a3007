use Rattle.std.proofs.Common.{◌≡◌, rules, sym, ◌∙◌}
use Rattle.std.proofs.lemmas.Int.{to_z-of_z}
use mir.Val.{to_z, of_z, SFits}
use mir.Syntax.{w64}
use Rattle.lattice_view.proofs.why_printer.rows.append_eos.Goals as goal

pub returns-clause-appended : goal.returns-clause-appended
returns-clause-appended c =
    let total = c.args.line.now.path.now.total in
    let connection = c.eos_connection.result in
    let total_fits : SFits w64 total = search rules in
    let connection_fits : SFits w64 connection = search rules in
    let total_is : to_z w64 (of_z w64 total) ≡ total = to_z-of_z w64 total total_fits in
    let connection_is : to_z w64 (of_z w64 connection) ≡ connection = to_z-of_z w64 connection connection_fits in
    rw (sym (connection_is ∙ c.eos_connection.ensures), sym (total_is ∙ c.requires.total)) c.append_pieces.ensures.appended
