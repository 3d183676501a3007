use Rattle.std.proofs.Common.{◌+◌, length}
use Rattle.char_def.proofs.OverlayLemmas.{AreLaid}
use Rattle.char_def.proofs.overlay.overlay.Given as goal

abbrev pub invariant-loop-first : goal.invariant-loop-first
invariant-loop-first l = AreLaid l.below l.above l.steps.items l.lower.info l.lower.steps.now l.upper.info l.upper.steps.now

abbrev pub decreases-loop-first : goal.decreases-loop-first
decreases-loop-first l = length l.lower.steps.now + length l.upper.steps.now
