-- Records of tests, which spare images the test of their checksum.
use Rattle.std.specs.Prelude.{◌≡◌, ℕ, List, Bool, if◌then◌else◌}
use Rattle.std.specs.Borrow.{Bor}
use Rattle.image_format.specs.declared.digest_test.DigestTest.{DigestTest}
use Rattle.image_format.specs.declared.digest_test.DigestTest.TheVariants.{Skipped}

-- the test of the checksum that remains: none for an image with a record, otherwise the requested
-- one
abbrev pub remaining_test : Bool → DigestTest → DigestTest
remaining_test recorded requested = if recorded then Skipped else requested

-- the test that remains for the image at `path`. `records` relates a path to whether the image
-- there has a record
abbrev pub IsRemainingTest : (Bor (List ℕ) → Bool → Type 0) → List ℕ → DigestTest → DigestTest → Type 0
IsRemainingTest records path requested left =
    (shown : Bor (List ℕ)) × (recorded : Bool) × (shown.now ≡ path) × records shown recorded × (left ≡ remaining_test recorded requested)

-- a fact about the test that remains for the image at `path`
abbrev pub HoldsForRemaining : (Bor (List ℕ) → Bool → Type 0) → List ℕ → DigestTest → (DigestTest → Type 0) → Type 0
HoldsForRemaining records path requested IsSo = (left : DigestTest) × IsRemainingTest records path requested left × IsSo left
