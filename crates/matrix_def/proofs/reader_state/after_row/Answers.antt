use Rattle.std.proofs.Common.{◌≡◌, ◌∙◌, ap, rules, set, subst, sym, Some, Err}
use Rattle.std.specs.Prelude.{ℤ}
use Rattle.std.proofs.lemmas.Int.{to_z-of_z}
use mir.Syntax.{w16}
use mir.Val.{SFits}
use Rattle.mj_model.specs.declared.matrix_sizes.MatrixSizes.{MatrixSizes}
use Rattle.mj_model.specs.declared.source_fault.SourceFault.{SourceFault}
use Rattle.mj_model.specs.Connection.{row_fault}
use Rattle.matrix_def.specs.Costs.{CostTable, cell_at}
use Rattle.matrix_def.specs.Rows.{IsRow, cell_of}
use Rattle.matrix_def.proofs.ReadingLemmas.{fill_more, fill_rejected}
use Rattle.matrix_def.proofs.reader_state.after_row.Goals as goal

pub returns-in-Ok : goal.returns-in-Ok
returns-in-Ok c = λ lines fill.
    let fits : SFits w16 c.in-Ok.cell.cost = search rules in
    let m : CostTable = c.args.matrix in
    fill_more lines m c.set.new.self c.args.number c.args.row.now (cell_of c.in-Ok.cell) fill
    (subst (λ (sizes : MatrixSizes). IsRow sizes c.args.row.now (cell_of c.in-Ok.cell)) c.sizes.ensures.sizes c.in-Ok.ensures)
    (c.set.ensures.value ∙ ap (λ (z : ℤ). record m { costs = set m.costs (cell_at m c.in-Ok.cell.right c.in-Ok.cell.left) z }) (to_z-of_z w16 c.in-Ok.cell.cost fits))
    c.set.ensures.formed

pub returns-in-Err : goal.returns-in-Err
returns-in-Err c = λ lines fill more.
    fill_rejected lines c.args.matrix c.args.number c.args.row.now c.in-Err.kind fill
    (subst (λ (sizes : MatrixSizes). row_fault sizes c.args.row.now ≡ Some c.in-Err.kind) c.sizes.ensures.sizes c.in-Err.ensures) more
    ∙ ap (λ (fault : SourceFault). Err fault) (sym c.at.ensures)
