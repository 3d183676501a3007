use Rattle.std.proofs.Common.{length}
use Rattle.viterbi.specs.Search.Lattice.{IsBelow}
use Rattle.viterbi.proofs.EndNodeLemmas.{Gathered, link_size}
use Rattle.viterbi.proofs.search.end_nodes.collect_end_nodes.Given as goal

abbrev pub invariant-loop-link : goal.invariant-loop-link
invariant-loop-link g l = record {
  below : IsBelow l.link (length l.by_surface);
  walk : Gathered (g.S.WordSource.searched_text l.source).surface_words l.by_surface l.backpointers l.place l.ends.items l.link;
}

abbrev pub decreases-loop-link : goal.decreases-loop-link
decreases-loop-link g l = link_size l.link
