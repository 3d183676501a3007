use Rattle.std.proofs.Common.{length}
use Rattle.char_def.proofs.coverage.+coverage.Given as goal

abbrev pub decreases-coverage : goal.decreases-coverage
decreases-coverage l = length l.ranges.now
