use Rattle.std.proofs.Common.{take}
use Rattle.char_def.specs.Definitions.{definitions_are}
use Rattle.char_def.specs.Steps.{info_by}
use Rattle.char_def.proofs.RangeLemmas.{AreStarted}
use Rattle.char_def.proofs.char_table.CharTable.ranges.Given as goal

abbrev pub invariant-loop-step : goal.invariant-loop-step
invariant-loop-step l = AreStarted (definitions_are l.self-inside.definitions.items) (info_by l.step-items 0) (take l.step-index l.step-items) l.ranges.items
