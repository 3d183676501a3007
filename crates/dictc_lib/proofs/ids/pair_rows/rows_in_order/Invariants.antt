use Rattle.std.proofs.Common.{List, ◌++◌, length}
use Rattle.dictc_lib.specs.PairRows.{AreRows}
use Rattle.dictc_lib.specs.declared.ids.pair_row.PairRow.{PairRow}
use Rattle.dictc_lib.proofs.ids.pair_rows.rows_in_order.Given as goal

-- the rows found so far, followed by the rows of the rest, are the rows of all entries
abbrev pub invariant-loop-rest : goal.invariant-loop-rest
invariant-loop-rest l = (more : List PairRow) → AreRows l.rest more → AreRows l.entries (l.rows.items ++ more)

abbrev pub decreases-loop-rest : goal.decreases-loop-rest
decreases-loop-rest l = length l.rest
