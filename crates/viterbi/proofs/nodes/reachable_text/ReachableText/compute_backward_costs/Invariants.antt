use Rattle.std.proofs.Common.{◌≤◌, length}
use Rattle.viterbi.specs.Nodes.BackwardCosts.{AreBackwardCosts}
use Rattle.viterbi.proofs.nodes.reachable_text.ReachableText.compute_backward_costs.Given as goal

abbrev pub invariant-loop-i : goal.invariant-loop-i
invariant-loop-i g l = record {
  within : l.i ≤ length l.self.reached.now.words.items;
  known : AreBackwardCosts (g.S.WordSource.searched_text l.self.source.now).words (g.S.WordSource.searched_text l.self.source.now).connection l.self.reached.now.words.items l.i l.backward_costs.items;
}

abbrev pub decreases-loop-i : goal.decreases-loop-i
decreases-loop-i g l = l.i
