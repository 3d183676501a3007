use Rattle.std.proofs.Common.{subst, slice_index, eq-eqb}
use Rattle.mj_model.specs.CellMap.{base}
use Rattle.image_format.specs.ImageSections.{stored_cells}
use Rattle.dict_image.specs.Validation.Cells.{IsBaseRole}
use Rattle.dict_image.proofs.ValueLemmas.{appears_twice}
use Rattle.dict_image.proofs.validation.values.check_cell.Goals as goal

pub returns-in-Some-Value-clause-rejected : goal.returns-in-Some-Value-clause-rejected
returns-in-Some-Value-clause-rejected c h each =
    let cells = stored_cells c.args.cells.now.bytes.now in
    let at = subst (IsBaseRole c.args.groups (base cells c.args.t)) c.in-Some-Value.field-0-is (c.in-Some-Value.ensures.1) in
    appears_twice cells c.requires.root c.args.groups c.args.t c.in-Some-Value.group c.args.places.now c.requires.scanned at.0 at.1 (λ none. let e = eq-eqb (slice_index c.args.places.now c.in-Some-Value.group) 0 none in cc) each
