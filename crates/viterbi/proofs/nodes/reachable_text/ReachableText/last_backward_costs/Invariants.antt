use Rattle.std.proofs.Common.{◌≡◌, ℕ, Option, Some, length, slice_get}
use Rattle.mj_model.specs.declared.word.Word.{Word}
use Rattle.viterbi.specs.declared.nodes.cost.ChainCost.{ChainCost}
use Rattle.viterbi.specs.Nodes.Least.{IsLeastOf, number_of}
use Rattle.viterbi.specs.Nodes.BackwardCosts.{CostsToEosBelow}
use Rattle.viterbi.proofs.nodes.reachable_text.ReachableText.last_backward_costs.Given as goal

abbrev pub invariant-loop-i : goal.invariant-loop-i
invariant-loop-i g l = record {
  long : length l.backward_costs.items ≡ l.i;
  each : (k : ℕ) (w : Word) (o : Option ChainCost) → slice_get l.self.reached.now.words.items k ≡ Some w → slice_get l.backward_costs.items k ≡ Some o
      → IsLeastOf (CostsToEosBelow (g.S.WordSource.searched_text l.self.source.now).words (g.S.WordSource.searched_text l.self.source.now).connection l.self.reached.now.words.items 0 w) (number_of o);
}
