use Rattle.std.proofs.Common.{length}
use Rattle.viterbi.specs.Search.Lattice.{IsBelow}
use Rattle.viterbi.proofs.EndNodeLemmas.{link_size}
use Rattle.viterbi.proofs.BacktraceNumbers.{NumbersOn}
use Rattle.viterbi.proofs.search.backtrace.backtrace_numbers.Given as goal

abbrev pub invariant-loop-link : goal.invariant-loop-link
invariant-loop-link l = record {
  link_below : IsBelow l.link (length l.backpointers);
  on : NumbersOn l.backpointers l.fn.from l.numbers.items l.link;
}

abbrev pub decreases-loop-link : goal.decreases-loop-link
decreases-loop-link l = link_size l.link
