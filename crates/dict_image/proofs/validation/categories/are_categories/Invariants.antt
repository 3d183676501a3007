use Rattle.std.proofs.Common.{◌-◌, ◌↔◌}
use Rattle.image_format.specs.ImageSections.{AreCategories}
use Rattle.dict_image.proofs.validation.categories.are_categories.Given as goal

abbrev pub invariant-loop-left : goal.invariant-loop-left
invariant-loop-left l = AreCategories (l.fn.count - l._left) l.rest ↔ AreCategories l.fn.count l.fn.bytes
