use Rattle.image_format.specs.ImageSections.{stored_cells}
use Rattle.dict_image.specs.Validation.Values.{IsScanned}
use Rattle.dict_image.proofs.validation.values.scan.Given as goal

abbrev pub invariant-loop-t : goal.invariant-loop-t
invariant-loop-t l = IsScanned l.groups (stored_cells l.cells.bytes.now) l.t l.places.items
