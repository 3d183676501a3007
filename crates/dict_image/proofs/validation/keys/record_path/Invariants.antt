use Rattle.std.proofs.Common.{ℕ, length, reverse}
use Rattle.image_format.specs.ImageSections.{stored_cells}
use Rattle.dict_image.specs.Validation.KeyPrefixes.{AreKeyPrefixes, IsKeyPrefixOf}
use Rattle.dict_image.specs.Validation.PathsToKnown.{IsPathToKnown, LeadOn}
use Rattle.dict_image.proofs.validation.keys.record_path.Given as goal

abbrev pub invariant-loop-next : goal.invariant-loop-next
invariant-loop-next l = record {
  prefixes : AreKeyPrefixes (stored_cells l.cells.bytes.now) l.prefixes;
  prefix : IsKeyPrefixOf (stored_cells l.cells.bytes.now) l.cell l.prefix;
  leads : (state : ℕ) → IsPathToKnown (stored_cells l.cells.bytes.now) state l.fn.path.items l.fn.known → LeadOn (stored_cells l.cells.bytes.now) l.cell (reverse l.path.items) state;
}

abbrev pub decreases-loop-next : goal.decreases-loop-next
decreases-loop-next l = length l.path.items
