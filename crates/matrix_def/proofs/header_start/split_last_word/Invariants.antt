use Rattle.std.proofs.Common.{◌≡◌, ℕ, ◌<◌, ◌≤◌, length, get_or, false}
use Rattle.mj_model.specs.Bytes.{is_blank}
use Rattle.matrix_def.proofs.header_start.split_last_word.Given as goal

abbrev pub invariant-loop-at : goal.invariant-loop-at
invariant-loop-at l = record {
  within : l.at ≤ length l.start;
  plain : (k : ℕ) → l.at ≤ k → k < length l.start → is_blank (get_or l.start k 0) ≡ false;
}

abbrev pub decreases-loop-at : goal.decreases-loop-at
decreases-loop-at l = l.at
