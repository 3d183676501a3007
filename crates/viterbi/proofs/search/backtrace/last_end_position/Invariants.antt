use Rattle.std.proofs.Common.{◌≤◌, length}
use Rattle.viterbi.specs.Search.Nodes.{HaveNoHead}
use Rattle.viterbi.proofs.search.backtrace.last_end_position.Given as goal

abbrev pub invariant-loop-end : goal.invariant-loop-end
invariant-loop-end l = record { within : l.end ≤ length l.heads; none_later : HaveNoHead l.heads l.end }

abbrev pub decreases-loop-end : goal.decreases-loop-end
decreases-loop-end l = l.end
