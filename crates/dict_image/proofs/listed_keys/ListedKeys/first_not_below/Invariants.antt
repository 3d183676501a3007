use Rattle.std.proofs.Common.{◌≡◌, ◌≢◌, ℕ, ◌-◌, ◌<◌, ◌≤◌}
use Rattle.std.specs.Cmp.Lexicographic.{slice_cmp}
use Rattle.std.specs.Ordering.{nat_cmp}
use Rattle.std.specs.declared.cmp.Ordering.TheVariants.{Less}
use Rattle.image_format.specs.OlderSections.{listed_key}
use Rattle.dict_image.proofs.listed_keys.ListedKeys.first_not_below.Given as goal

abbrev pub invariant-loop-low : goal.invariant-loop-low
invariant-loop-low l = record {
  order : l.low ≤ l.high;
  within : l.high ≤ l.self.count;
  below : (i : ℕ) → i < l.low → slice_cmp nat_cmp (listed_key l.self.bytes i) l.text ≡ Less;
  others : (i : ℕ) → l.high ≤ i → i < l.self.count → slice_cmp nat_cmp (listed_key l.self.bytes i) l.text ≢ Less;
}

abbrev pub decreases-loop-low : goal.decreases-loop-low
decreases-loop-low l = l.high - l.low
