use Rattle.std.proofs.Common.{◌≡◌, ◌+◌, ◌-◌, ◌<◌, ◌≤◌, ℕ, List, Some, length, slice_get}
use Rattle.std.specs.Prelude.{ℤ}
use Rattle.mj_model.specs.declared.word.Word.{Word}
use Rattle.viterbi.specs.declared.nodes.lattice_node.LatticeNode.{LatticeNode}
use Rattle.viterbi.specs.Rivals.RivalsState.{AreWithNeighbors}
use Rattle.viterbi.specs.declared.rivals.rival_path.TheConstants.{STEPS_MAX}
use Rattle.viterbi.proofs.RivalPredecessorLemmas.{BackSoFar}
use Rattle.viterbi.proofs.rivals.walks.walk_backward.Given as goal

abbrev pub invariant-loop-node : goal.invariant-loop-node
invariant-loop-node l = record {
  within : l.at < length l.linked.nodes.items;
  few : length l.steps.items ≤ STEPS_MAX + 1;
  so_far : (words : ℕ → List Word) (conn : ℕ → ℕ → ℤ) (len : ℕ) (best : List Word) (n : LatticeNode) (are : AreWithNeighbors words conn len best l.linked) → slice_get l.linked.nodes.items l.fn.from ≡ Some n
      → BackSoFar words conn len best l.linked are n l.at l.steps.items;
}

abbrev pub decreases-loop-node : goal.decreases-loop-node
decreases-loop-node l = STEPS_MAX + 1 - length l.steps.items
