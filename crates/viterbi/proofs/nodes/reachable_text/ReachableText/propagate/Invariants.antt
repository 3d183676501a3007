use Rattle.viterbi.specs.Nodes.ForwardCosts.{ArePropagated}
use Rattle.viterbi.proofs.nodes.reachable_text.ReachableText.propagate.Given as goal

abbrev pub invariant-loop-next : goal.invariant-loop-next
invariant-loop-next g l = ArePropagated (g.S.WordSource.searched_text l.self.source.now).words (g.S.WordSource.searched_text l.self.source.now).connection l.self.reached.now.words.items l.i l.next l.forward_costs
