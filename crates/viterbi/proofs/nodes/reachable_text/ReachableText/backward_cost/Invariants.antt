use Rattle.viterbi.specs.Nodes.Least.{IsLeastOf, number_of}
use Rattle.viterbi.specs.Nodes.BackwardCosts.{CostsToEosBelow}
use Rattle.viterbi.proofs.nodes.reachable_text.ReachableText.backward_cost.Given as goal

abbrev pub invariant-loop-next : goal.invariant-loop-next
invariant-loop-next g l = IsLeastOf (CostsToEosBelow (g.S.WordSource.searched_text l.self.source.now).words (g.S.WordSource.searched_text l.self.source.now).connection l.self.reached.now.words.items l.next l.before) (number_of l.least)
