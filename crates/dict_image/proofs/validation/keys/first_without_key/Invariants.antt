use Rattle.std.proofs.Common.{ℕ, ◌<◌}
use Rattle.image_format.specs.ImageFaults.{HasKey}
use Rattle.image_format.specs.ImageSections.{stored_cells}
use Rattle.dict_image.specs.Validation.KeyPrefixes.{AreKeyPrefixes}
use Rattle.dict_image.proofs.validation.keys.first_without_key.Given as goal

abbrev pub invariant-loop-group : goal.invariant-loop-group
invariant-loop-group l = record {
  prefixes : AreKeyPrefixes (stored_cells l.cells.bytes.now) l.prefixes.items;
  keys : (g : ℕ) → g < l.group → HasKey (stored_cells l.cells.bytes.now) g;
}
