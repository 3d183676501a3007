use Rattle.viterbi.proofs.OnPathLemmas.{AreMarkedTo}
use Rattle.viterbi.proofs.nodes.on_path.mark_nodes_on_path.Given as goal

abbrev pub invariant-loop-i : goal.invariant-loop-i
invariant-loop-i l = AreMarkedTo l.nodes l.path l.i l.next l.on.items
