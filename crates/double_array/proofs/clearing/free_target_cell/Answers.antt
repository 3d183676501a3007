use Rattle.std.proofs.Common.{◌≡◌, ◌+◌, pos, ap, sym, ◌∙◌, refl}
use Rattle.std.proofs.lemmas.Option.{none-some}
use Rattle.mj_model.specs.CellMap.{check}
use Rattle.mj_model.proofs.CellWalks.{step_at}
use Rattle.double_array.proofs.clearing.free_target_cell.Goals as goal

pub move_other-requires-clause-apart : goal.move_other-requires-clause-apart
move_other-requires-clause-apart c = λ e.
    let r = c.requires in
    let cells = c.args.pool.now.cells in
    let wanted = c.args.from + c.args.code in
    let named : check cells wanted ≡ pos c.args.state = c.in-Some.ensures ∙ ap pos (sym e) in
    none-some wanted (sym r.none ∙ step_at cells c.args.state c.args.code wanted c.args.from r.based refl named)
