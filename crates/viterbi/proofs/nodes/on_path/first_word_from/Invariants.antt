use Rattle.std.proofs.Common.{◌≡◌, ◌-◌, ◌<◌, ◌≤◌, ℕ, Some, length, slice_get}
use Rattle.mj_model.specs.declared.word.Word.{Word}
use Rattle.viterbi.proofs.nodes.on_path.first_word_from.Given as goal

abbrev pub invariant-loop-number : goal.invariant-loop-number
invariant-loop-number l = record {
  low : l.from ≤ l.number;
  within : l.number ≤ length l.path;
  before : (k : ℕ) (w : Word) → l.from ≤ k → k < l.number → slice_get l.path k ≡ Some w → w.place < l.place;
}

abbrev pub decreases-loop-number : goal.decreases-loop-number
decreases-loop-number l = length l.path - l.number
