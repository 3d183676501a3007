use Rattle.std.proofs.Common.{◌≡◌, rules, sym}
use Rattle.std.proofs.lemmas.Int.{to_z-of_z}
use mir.Val.{to_z, of_z, SFits}
use mir.Syntax.{w64}
use Rattle.lattice_view.proofs.why_printer.rows.append_gap.Goals as goal

pub returns-clause-appended : goal.returns-clause-appended
returns-clause-appended c =
    let by = c.args.by in
    let fits : SFits w64 by = search rules in
    let same : to_z w64 (of_z w64 by) ≡ by = to_z-of_z w64 by fits in
    rw (sym same) c.append_pieces.ensures.appended
