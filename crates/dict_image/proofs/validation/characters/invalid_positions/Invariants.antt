use Rattle.std.proofs.Common.{◌-◌, ◌≤◌, length}
use Rattle.dict_image.specs.Validation.Stretches.{AreWrongBefore}
use Rattle.dict_image.proofs.validation.characters.invalid_positions.Given as goal

abbrev pub invariant-loop-place : goal.invariant-loop-place
invariant-loop-place l = record {
  within : l.at ≤ length l.bytes;
  wrong : AreWrongBefore l.bytes l.at l.wrong.items;
}

abbrev pub decreases-loop-place : goal.decreases-loop-place
decreases-loop-place l = length l.bytes - l.at
