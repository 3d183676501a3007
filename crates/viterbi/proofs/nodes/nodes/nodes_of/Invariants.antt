use Rattle.viterbi.specs.Nodes.Assembled.{AreNodes}
use Rattle.viterbi.proofs.nodes.nodes.nodes_of.Given as goal

abbrev pub invariant-loop-i : goal.invariant-loop-i
invariant-loop-i l = AreNodes l.words l.forward_costs l.backward_costs l.i l.nodes.items
