use Rattle.std.proofs.Common.{ap, ◌∙◌, subst, ℕ, ◌<◌}
use Rattle.mj_model.specs.CellMap.{Cell as CellOf}
use Rattle.image_format.specs.ImageSections.{stored_cells}
use Rattle.dict_image.specs.Validation.Cells.{number}
use Rattle.dict_image.proofs.CellLemmas.{child_by}
use Rattle.dict_image.proofs.validation.cell.child_code.Goals as goal

pub returns-in-Natural : goal.returns-in-Natural
returns-in-Natural c =
    let within = subst (λ (n : ℕ). c.args.state < n) c.len.ensures c.if-state-len.false in
    let at = ap (λ (x : CellOf). x.0) c.read_cell.ensures ∙ ap number c.in-Natural.is in
    child_by (stored_cells c.args.cells.now.bytes.now) c.args.t c.args.state c.in-Natural.base c.distance.result c.requires within at c.distance.ensures
