use Rattle.std.proofs.Common.{◌≡◌, ◌+◌, ◌*◌, ◌-◌, ◌^◌, ◌<◌, ◌≤◌, ℕ, List, Some, length, slice_get}
use Rattle.std.specs.Prelude.{ℤ}
use Rattle.mj_model.specs.Bounds.{IsWithin}
use Rattle.mj_model.specs.declared.word.Word.{Word}
use Rattle.viterbi.specs.declared.nodes.lattice_node.LatticeNode.{LatticeNode}
use Rattle.viterbi.specs.Rivals.RivalsState.{AreWithNeighbors}
use Rattle.viterbi.specs.declared.rivals.rival_path.TheConstants.{STEPS_MAX}
use Rattle.viterbi.proofs.SuccessorLemmas.{OnSoFar}
use Rattle.viterbi.proofs.rivals.walks.walk_forward.Given as goal

abbrev pub invariant-loop-node : goal.invariant-loop-node
invariant-loop-node l = record {
  within : l.at < length l.linked.nodes.items;
  few : length l.steps.items ≤ STEPS_MAX;
  small : IsWithin (2 ^ 40 + 2 ^ 16 * length l.steps.items) l.total.cost;
  so_far : (words : ℕ → List Word) (conn : ℕ → ℕ → ℤ) (len : ℕ) (best : List Word) (n : LatticeNode) (cost : ℤ) (are : AreWithNeighbors words conn len best l.linked) → slice_get l.linked.nodes.items l.fn.from ≡ Some n → n.through ≡ Some cost
      → OnSoFar words conn len best l.linked are n cost l.at l.total.cost l.steps.items;
}

abbrev pub decreases-loop-node : goal.decreases-loop-node
decreases-loop-node l = STEPS_MAX - length l.steps.items
