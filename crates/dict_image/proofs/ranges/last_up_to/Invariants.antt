use Rattle.std.proofs.Common.{◌-◌, ◌<◌, ◌≤◌}
use Rattle.image_format.specs.ImageSections.{range_at}
use Rattle.image_format.specs.ImageSections.{range_count}
use Rattle.dict_image.proofs.ranges.last_up_to.Given as goal

abbrev pub invariant-loop-high : goal.invariant-loop-high
invariant-loop-high l = record {
  order : l.low < l.high;
  within : l.high ≤ range_count l.ranges;
  started : (range_at l.ranges l.low).first ≤ l.code;
  next : l.high < range_count l.ranges → l.code < (range_at l.ranges l.high).first;
}

abbrev pub decreases-loop-high : goal.decreases-loop-high
decreases-loop-high l = l.high - l.low
