-- Listed keys, and the position of a text among them.
use Rattle.std.specs.Prelude.{◌≡◌, ◌≢◌, ℕ, ◌<◌, ◌≤◌, List}
use Rattle.std.specs.Cmp.Lexicographic.{slice_cmp}
use Rattle.std.specs.Ordering.{nat_cmp}
use Rattle.std.specs.declared.cmp.Ordering.TheVariants.{Less}
use Rattle.image_format.specs.OlderSections.{listed_key}

-- the first `count` listed keys of some bytes
pub record KeyList : Type 0 where
  pub bytes : List ℕ
  pub count : ℕ

-- the keys before `found` are less than a text, and the others are not
pub record IsFirstNotBelow (list : KeyList) (text : List ℕ) (found : ℕ) : Type 0 where
  pub within : found ≤ list.count
  pub below : (i : ℕ) → i < found → slice_cmp nat_cmp (listed_key list.bytes i) text ≡ Less
  pub others : (i : ℕ) → found ≤ i → i < list.count → slice_cmp nat_cmp (listed_key list.bytes i) text ≢ Less
