use Rattle.std.proofs.Common.{take}
use Rattle.dictc_lib.specs.PairRows.{AreFitting}
use Rattle.dictc_lib.specs.Templates.{fields_of}
use Rattle.dictc_lib.proofs.ids.pair_rows.fitting_entries.Given as goal

abbrev pub invariant-loop-entry : goal.invariant-loop-entry
invariant-loop-entry l = AreFitting (fields_of l.template) (take l.entry-index l.entries) l.fitting.items
