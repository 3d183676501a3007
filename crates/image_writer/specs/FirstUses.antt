-- The first entry with each feature.
use Rattle.std.specs.Prelude.{◌≡◌, ℕ, ◌<◌, ◌≤◌, All, Contains, List, length, map, slice_get, slice_index, Some}
use Rattle.std.specs.List.{range_with_len}
use Rattle.std.specs.Cmp.Lexicographic.{slice_cmp}
use Rattle.std.specs.List.Sorted.{IsSorted}
use Rattle.std.specs.Ordering.{nat_cmp, ordering_then}
use Rattle.std.specs.declared.cmp.Ordering.{Ordering}
use Rattle.image_writer.specs.declared.feature_use.FeatureUse.{FeatureUse}

-- text `first` equals text `i`, and no earlier text does
pub record IsFirstUse (texts : List (List ℕ)) (first i : ℕ) : Type 0 where
  pub same : slice_get texts first ≡ slice_get texts i
  pub least : (j : ℕ) → slice_get texts j ≡ slice_get texts i → first ≤ j

-- for each text the number of the first text that equals it
pub record AreFirstUses (texts : List (List ℕ)) (firsts : List ℕ) : Type 0 where
  pub long : length firsts ≡ length texts
  pub each : (i : ℕ) → i < length texts → IsFirstUse texts (slice_index firsts i) i

-- ---- uses

-- the entries of uses
abbrev pub entries_of : List FeatureUse → List ℕ
entries_of uses = map (λ (u : FeatureUse). u.entry) uses

-- the features of uses
abbrev pub features_used : List FeatureUse → List (List ℕ)
features_used uses = map (λ (u : FeatureUse). u.feature.now) uses

-- the entries of uses are numbered by their order
abbrev pub AreNumbered : List FeatureUse → Type 0
AreNumbered uses = entries_of uses ≡ range_with_len 0 (length uses)

-- one use for each text, in any order
pub record AreUses (texts : List (List ℕ)) (uses : List FeatureUse) : Type 0 where
  pub long : length uses ≡ length texts
  pub each : All (λ (u : FeatureUse). slice_get texts u.entry ≡ Some u.feature.now) uses
  pub every : (i : ℕ) → i < length texts → Contains (entries_of uses) i

-- the entry of a use is below `n`
abbrev pub IsWithin : ℕ → FeatureUse → Type 0
IsWithin n u = u.entry < n

-- the order of uses by hash, then by feature, then by entry
abbrev pub use_order : FeatureUse → FeatureUse → Ordering
use_order a b = ordering_then (nat_cmp a.mark b.mark) (ordering_then (slice_cmp nat_cmp a.feature.now b.feature.now) (nat_cmp a.entry b.entry))

-- uses are sorted
abbrev pub AreSortedUses : List FeatureUse → Type 0
AreSortedUses uses = IsSorted use_order uses
