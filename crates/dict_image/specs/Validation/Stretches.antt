-- Maximal runs of valid UTF-8 ("stretches"), and the invalid positions between them.
use Rattle.std.specs.Prelude.{◌≡◌, ℕ, zero, suc, ◌+◌, ◌<◌, ◌≤◌, List, length, slice_index, slice_range, Option, MatchOption, IsUtf8}
use Rattle.std.specs.List.Sorted.{IsNonDecreasing}

-- the bytes from `from` to `to` are UTF-8, and no text other than the empty one starts at `to`
pub record IsUtf8Run (bytes : List ℕ) (from to : ℕ) : Type 0 where
  pub forward : from ≤ to
  pub within : to ≤ length bytes
  pub is_text : IsUtf8 (slice_range bytes from to)
  pub ends : (end : ℕ) → to < end → end ≤ length bytes → IsUtf8 (slice_range bytes to end) → ⊥

-- `to` is the end of a stretch that starts at or before `place`, which is at most `to`
pub record IsEndOf (bytes : List ℕ) (place to : ℕ) : Type 0 where
  pub from : ℕ
  pub stretch : IsUtf8Run bytes from to
  pub following : from ≤ place
  pub before : place ≤ to

-- `place` is the end of the stretch, or its byte is not a continuation byte
abbrev pub IsStretchEnd : List ℕ → ℕ → ℕ → Type 0
IsStretchEnd bytes to place = place < to → 128 ≤ slice_index bytes place → 192 ≤ slice_index bytes place

-- the end of the stretch that starts at `from`, or None if it is the end of the bytes
abbrev pub IsNextWrong : List ℕ → ℕ → Option ℕ → Type 0
IsNextWrong bytes from found = MatchOption found (IsUtf8Run bytes from (length bytes)) (λ to. IsUtf8Run bytes from to × (to < length bytes))

-- the start of the stretch after `k` invalid positions
abbrev pub stretch_start : List ℕ → ℕ → ℕ
stretch_start wrong zero = 0
stretch_start wrong (suc k) = slice_index wrong k + 1

-- invalid positions in rising order, each at the end of a stretch; the next stretch starts at `at`
pub record AreWrongBefore (bytes : List ℕ) (at : ℕ) (wrong : List ℕ) : Type 0 where
  pub rising : IsNonDecreasing wrong
  pub each : (k : ℕ) → k < length wrong → IsUtf8Run bytes (stretch_start wrong k) (slice_index wrong k)
  pub next : at ≡ stretch_start wrong (length wrong)

-- `wrong` are all invalid positions: the last stretch ends with the bytes
pub record AreWrong (bytes wrong : List ℕ) : Type 0 where
  pub before : AreWrongBefore bytes (stretch_start wrong (length wrong)) wrong
  pub last : IsUtf8Run bytes (stretch_start wrong (length wrong)) (length bytes)
