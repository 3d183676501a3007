use Rattle.dictc_lib.specs.FileLines.{StartsAtLine}
use Rattle.dictc_lib.proofs.file_line.from_line.Given as goal

abbrev pub invariant-loop-passed : goal.invariant-loop-passed
invariant-loop-passed l = StartsAtLine l._passed l.bytes l.rest
