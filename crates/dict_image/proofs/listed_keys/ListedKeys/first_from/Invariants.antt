use Rattle.std.proofs.Common.{ℕ, ◌-◌, ◌<◌, ◌≤◌}
use Rattle.dict_image.specs.ListedHits.{code_at}
use Rattle.dict_image.proofs.listed_keys.ListedKeys.first_from.Given as goal

abbrev pub invariant-loop-low : goal.invariant-loop-low
invariant-loop-low l = record {
  order : l.low ≤ l.high;
  above : l.fn.low ≤ l.low;
  within : l.high ≤ l.fn.high;
  below : (i : ℕ) → l.fn.low ≤ i → i < l.low → code_at l.self l.place i < l.code;
  others : (i : ℕ) → l.high ≤ i → i < l.fn.high → l.code ≤ code_at l.self l.place i;
}

abbrev pub decreases-loop-low : goal.decreases-loop-low
decreases-loop-low l = l.high - l.low
