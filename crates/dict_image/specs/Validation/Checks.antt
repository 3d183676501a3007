-- The results of the tests of an image.
use Rattle.std.specs.Prelude.{◌≡◌, ◌⊎◌, ℕ, ◌<◌, ◌≤◌, List, length, Option, Result, MatchOption, MatchResult}
use Rattle.std.specs.Borrow.{Bor}
use Rattle.mj_model.specs.declared.image_fault.ImageFault.{ImageFault}
use Rattle.mj_model.specs.declared.image_fault.ImageFault.TheVariants.{Memory}
use Rattle.mj_model.specs.CellMap.{Cell}
use Rattle.mj_model.specs.CellRules.{IsBaseAfter, IsUsed}
use Rattle.image_format.specs.declared.digest_test.DigestTest.{DigestTest}
use Rattle.image_format.specs.declared.header.Header.{Header}
use Rattle.image_format.specs.Headers.{AreEnds}
use Rattle.image_format.specs.ImageBytes.{header_of, section, section_end}
use Rattle.image_format.specs.ImageFaults.{Test, PassAll, IsFirstFault, IsLeastWithout, prefix_tests, end_tests, key_tests, section_tests}
use Rattle.image_format.specs.declared.layout.KeyForm.{KeyForm}
use Rattle.image_format.specs.declared.layout.KeyForm.TheVariants as key
use Rattle.image_format.specs.Layouts.{key_form}
use Rattle.dict_image.specs.declared.validation.outline.Keys.{Keys}
use Rattle.dict_image.specs.Validation.KeyPlaces.{AreKeysOf, AreStarts}
use Rattle.image_format.specs.ImageSections.{HoldGroups, range_at, range_count, stored_cells}
use Rattle.dict_image.specs.declared.validation.cell.Role.{Role}
use Rattle.dict_image.specs.declared.validation.cell.Signed.{Signed}
use Rattle.dict_image.specs.Validation.Cells.{IsAllowed, IsBaseRole, IsChildAt, IsRole, number}
use Rattle.dict_image.specs.Validation.CheckedCategories.{StartsWithCategory, after_first_category}
use Rattle.dict_image.specs.Validation.CheckedRanges.{IsRangeOf}
use Rattle.dict_image.specs.Validation.Values.{HoldEach, ArePlaces}

-- ---- tests

-- Ok if all tests pass, otherwise the error of the first test that does not
abbrev pub PassOrFault : {X : Type 0} → List Test → Result X ImageFault → Type 0
PassOrFault tests outcome = MatchResult outcome (λ _. PassAll tests) (IsFirstFault tests)

-- out of memory, or the error of the first test that does not pass
abbrev pub MemoryOrFault : List Test → ImageFault → Type 0
MemoryOrFault tests fault = (fault ≡ Memory) ⊎ IsFirstFault tests fault

-- Ok if all tests pass, otherwise out of memory or the first error
abbrev pub PassFaultOrMemory : {X : Type 0} → List Test → Result X ImageFault → Type 0
PassFaultOrMemory tests outcome = MatchResult outcome (λ _. PassAll tests) (MemoryOrFault tests)

-- the header of bytes that pass the first tests, otherwise their first error
abbrev pub PrefixResult : List ℕ → Result Header ImageFault → Type 0
PrefixResult bytes outcome =
    MatchResult outcome (λ header. PassAll (prefix_tests (header_of bytes) bytes) × (header ≡ header_of bytes))
    (IsFirstFault (prefix_tests (header_of bytes) bytes))

-- the ends of the sections of bytes that pass the tests of the length and the SHA-256, otherwise
-- the first error
abbrev pub EndsResult : DigestTest → List ℕ → Result (List ℕ) ImageFault → Type 0
EndsResult digest bytes outcome =
    MatchResult outcome (λ ends. PassAll (end_tests digest (header_of bytes) bytes) × AreEnds ends (header_of bytes) × (section_end (header_of bytes) 8 ≤ length bytes))
    (IsFirstFault (end_tests digest (header_of bytes) bytes))

-- the least number below `n` for which `Fact` does not hold, or None if it holds for all
abbrev pub IsLeastOrNone : ℕ → (ℕ → Type 0) → Option ℕ → Type 0
IsLeastOrNone n Fact found = MatchOption found ((i : ℕ) → i < n → Fact i) (IsLeastWithout n Fact)

-- ---- sections 2 to 4

-- the bytes after the category at the start of `bytes`, or None if there is none
abbrev pub IsPastCategory : List ℕ → Option (Bor (List ℕ)) → Type 0
IsPastCategory bytes rest =
    MatchOption rest (StartsWithCategory bytes → ⊥) (λ more. StartsWithCategory bytes × (more.now ≡ after_first_category bytes))

-- each range has categories below `categories`
abbrev pub AreRangesOf : ℕ → List ℕ → Type 0
AreRangesOf categories ranges = (i : ℕ) → i < range_count ranges → IsRangeOf categories (range_at ranges i)

-- ---- section 5

-- the listed keys pass their tests, and start at these positions
abbrev pub PassAt : ℕ → List ℕ → List ℕ → Type 0
PassAt groups bytes starts = PassAll (key_tests key.Listed groups bytes) × AreStarts groups bytes starts

-- the method of looking up keys, or their first error
abbrev pub KeysResult : KeyForm → ℕ → List ℕ → Result Keys ImageFault → Type 0
KeysResult form groups bytes outcome =
    MatchResult outcome (λ keys. PassAll (key_tests form groups bytes) × AreKeysOf form groups bytes keys)
    (MemoryOrFault (key_tests form groups bytes))

-- the method of looking up the keys of an image whose sections pass their tests, or the first error
abbrev pub SectionsResult : Header → List ℕ → Result Keys ImageFault → Type 0
SectionsResult h bytes outcome =
    MatchResult outcome (λ keys. PassAll (section_tests h bytes) × AreKeysOf (key_form h.layout) h.groups (section bytes 5) keys)
    (MemoryOrFault (section_tests h bytes))

-- the role of cell `t`, or None if it breaks the rules
abbrev pub IsRoleOf : ℕ → List Cell → ℕ → Option Role → Type 0
IsRoleOf groups cells t role = MatchOption role (IsAllowed groups cells t → ⊥) (IsRole groups cells t)

-- the code of the step to cell `t`, or None if the cell cannot be used
abbrev pub IsCodeOf : List Cell → ℕ → Option ℕ → Type 0
IsCodeOf cells t code = MatchOption code ((values : ℕ) → IsUsed values cells t → ⊥) (IsChildAt cells t)

-- the role of a used cell by its code and BASE, or None if it may not have that BASE
abbrev pub IsRoleAfter : ℕ → ℕ → Signed → Option Role → Type 0
IsRoleAfter groups code base role =
    MatchOption role (IsBaseAfter groups code (number base) → ⊥)
    (λ r. IsBaseAfter groups code (number base) × IsBaseRole groups (number base) r)

-- the cells hold each group once, and `places` are the cells of their values
abbrev pub HoldEachAt : ℕ → List Cell → List ℕ → Type 0
HoldEachAt groups cells places = HoldEach groups cells × ArePlaces groups cells places

-- the bytes are cells that hold each group once, and `places` are the cells of their values
abbrev pub HoldGroupsAt : ℕ → List ℕ → List ℕ → Type 0
HoldGroupsAt groups bytes places = HoldGroups groups bytes × ArePlaces groups (stored_cells bytes) places
