use Rattle.std.proofs.Common.{◌≤◌, ◌-◌, length, reverse}
use Rattle.image_format.specs.ImageSections.{stored_cells}
use Rattle.mj_model.specs.declared.limits.TheConstants.{SURFACE_MAX}
use Rattle.dict_image.specs.Validation.PathsToKnown.{IsState, LeadOn}
use Rattle.dict_image.proofs.validation.keys.path_to_known.Given as goal

abbrev pub invariant-loop-cell : goal.invariant-loop-cell
invariant-loop-cell l = record {
  few : length l.path.items ≤ SURFACE_MAX;
  state : IsState (stored_cells l.cells.bytes.now) l.cell;
  leads : LeadOn (stored_cells l.cells.bytes.now) l.cell (reverse l.path.items) l.state;
}

abbrev pub decreases-loop-cell : goal.decreases-loop-cell
decreases-loop-cell l = SURFACE_MAX - length l.path.items
