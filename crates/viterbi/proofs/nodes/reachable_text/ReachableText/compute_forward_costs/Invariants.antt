use Rattle.viterbi.specs.Nodes.ForwardCosts.{ArePropagated}
use Rattle.viterbi.proofs.nodes.reachable_text.ReachableText.compute_forward_costs.Given as goal

abbrev pub invariant-loop-i : goal.invariant-loop-i
invariant-loop-i g l = ArePropagated (g.S.WordSource.searched_text l.self.source.now).words (g.S.WordSource.searched_text l.self.source.now).connection l.self.reached.now.words.items l.i 0 l.forward_costs.items
