use Rattle.std.proofs.Common.{◌≡◌, take}
use Rattle.std.specs.Prelude.{flat_map}
use Rattle.image_format.specs.ImageSections.{category_bytes}
use Rattle.image_writer.proofs.categories.write_categories.Given as goal

abbrev pub invariant-loop-i : goal.invariant-loop-i
invariant-loop-i l = l.bytes.items ≡ flat_map category_bytes (take l.i l.chars.categories)
