-- Positions of the keys of an image.
use Rattle.std.specs.Prelude.{◌≡◌, ℕ, zero, suc, ◌<◌, ◌≤◌, List, [], drop, length, slice_index}
use Rattle.std.specs.Cmp.Lexicographic.{slice_cmp}
use Rattle.std.specs.Ordering.{nat_cmp}
use Rattle.std.specs.declared.cmp.Ordering.TheVariants.{Less}
use Rattle.image_format.specs.declared.layout.KeyForm.{KeyForm}
use Rattle.image_format.specs.declared.layout.KeyForm.TheVariants as key
use Rattle.image_format.specs.OlderSections.{StartWithKey, IsListedKey, first_key_in, keys_from, listed_key}
use Rattle.dict_image.specs.declared.validation.outline.Keys.{Keys}
use Rattle.dict_image.specs.declared.validation.outline.Keys.TheVariants as keys

-- the first `groups` listed keys start at the offsets `starts`
pub record AreStarts (groups : ℕ) (bytes starts : List ℕ) : Type 0 where
  pub many : length starts ≡ groups
  pub from : (i : ℕ) → i < groups → drop (slice_index starts i) bytes ≡ keys_from i bytes
  pub listed : (i : ℕ) → i < groups → IsListedKey bytes i

-- the bytes start with a key that is greater than `before`
abbrev pub IsKeyAbove : List ℕ → List ℕ → Type 0
IsKeyAbove bytes before = StartWithKey bytes × (slice_cmp nat_cmp before (first_key_in bytes) ≡ Less)

-- the key before key `n`, or the empty text
abbrev pub key_before : List ℕ → ℕ → List ℕ
key_before bytes zero = []
key_before bytes (suc n) = listed_key bytes n

-- the first `n` keys start at `starts`, key `n` would start at `at`, and `before` is the key before
-- it
pub record AreListedUpTo (bytes : List ℕ) (n : ℕ) (starts : List ℕ) (at : ℕ) (before : List ℕ) : Type 0 where
  pub starts_are : AreStarts n bytes starts
  pub within : at ≤ length bytes
  pub rest : drop at bytes ≡ keys_from n bytes
  pub before_is : before ≡ key_before bytes n

-- the method of looking up keys suits their form
abbrev pub AreKeysOf : KeyForm → ℕ → List ℕ → Keys → Type 0
AreKeysOf form groups bytes (keys.Listed starts) = (form ≡ key.Listed) × AreStarts groups bytes starts.items
AreKeysOf form groups bytes keys.Cells = form ≡ key.Cells
