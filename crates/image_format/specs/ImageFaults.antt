-- Well-formed images, intact images, and the first error of bytes that are neither.
use Rattle.std.specs.Prelude.{◌≡◌, ◌↔◌, ℕ, ◌*◌, ◌<◌, ◌≤◌, ◌⊎◌, List, [], ◌∷◌, ◌++◌, length, take, drop}
use Rattle.sha2.specs.Sha256.{sha256}
use Rattle.mj_model.specs.declared.image_fault.ImageFault.{ImageFault}
use Rattle.mj_model.specs.declared.image_fault.ImageFault.TheVariants.{Truncated, BadMagic, BadLayout, BadSection, BadKey, BadToken, BadText, Digest}
use Rattle.mj_model.specs.declared.limits.TheConstants.{ENTRIES_MAX, CATEGORIES_MAX}
use Rattle.mj_model.specs.Connection.{AreMatrixSizes}
use Rattle.mj_model.specs.CellMap.{Cell}
use Rattle.image_format.specs.declared.digest_test.DigestTest.{DigestTest}
use Rattle.image_format.specs.declared.digest_test.DigestTest.TheVariants.{Verified, Skipped}
use Rattle.image_format.specs.declared.header.Header.{Header}
use Rattle.image_format.specs.DictKinds.{IsKind}
use Rattle.image_format.specs.declared.layout.InfoForm.{InfoForm}
use Rattle.image_format.specs.declared.layout.InfoForm.TheVariants as info
use Rattle.image_format.specs.declared.layout.KeyForm.{KeyForm}
use Rattle.image_format.specs.declared.layout.KeyForm.TheVariants as key
use Rattle.image_format.specs.ImageBytes.{header_of, header_length, image_magic, kind_of, all_tokens, section, section_end, total_length}
use Rattle.image_format.specs.ImageSections.{AreCosts, AreCategories, AreRanges, IsIndex, HoldGroups, IsKeyOf, stored_cells, stored_token, FitsSizes, HasFeature}
use Rattle.image_format.specs.Layouts.{IsReadLayout, info_form, key_form}
use Rattle.image_format.specs.OlderSections.{AreEntries, IsListedKey, keys_from}
use Rattle.mj_model.specs.Tables.{Kind, System, User}

-- ---- tests in order

-- a test: the condition to pass it, and the error that it reports otherwise
pub record Test : Type 1 where
  pub Passes : Type 0
  pub Reports : ImageFault → Type 0

-- passes if `Fact` holds, otherwise reports `fault`
abbrev pub unless : Type 0 → ImageFault → Test
unless Fact fault = record { Passes = Fact; Reports = λ reported. (Fact → ⊥) × (reported ≡ fault) }

-- `i` is the least number below `n` for which `Fact` does not hold
pub record IsLeastWithout (n : ℕ) (Fact : ℕ → Type 0) (i : ℕ) : Type 0 where
  pub below : i < n
  pub before : (j : ℕ) → j < i → Fact j
  pub without : Fact i → ⊥

-- passes if `Fact` holds for each number below `n`, otherwise reports the error of the least number
-- for which it does not
abbrev pub unless_each : ℕ → (ℕ → Type 0) → (ℕ → ImageFault) → Test
unless_each n Fact fault = record {
  Passes = (i : ℕ) → i < n → Fact i;
  Reports = λ reported. (i : ℕ) × IsLeastWithout n Fact i × (reported ≡ fault i);
}

-- all tests pass
abbrev pub PassAll : List Test → Type 0
PassAll [] = Unit {0}
PassAll (test ∷ tests) = test.Passes × PassAll tests

-- the error of the first test that does not pass
abbrev pub IsFirstFault : List Test → ImageFault → Type 0
IsFirstFault [] fault = ⊥
IsFirstFault (test ∷ tests) fault = test.Reports fault ⊎ (test.Passes × IsFirstFault tests fault)

-- ---- the tests of image bytes

-- the remainder from offset `place` on is the SHA-256 of all bytes before it; skipping the test
-- always passes (FIPS 180-4)
abbrev pub IsDigestAt : DigestTest → ℕ → List ℕ → Type 0
IsDigestAt Verified place bytes = drop place bytes ≡ sha256 (take place bytes)
IsDigestAt Skipped place bytes = Unit {0}

-- in layout 3 the SHA-256 follows the sections
abbrev pub PassesDigest : DigestTest → List ℕ → Type 0
PassesDigest digest bytes = (header_of bytes).layout ≡ 3 → IsDigestAt digest (section_end (header_of bytes) 8) bytes

abbrev pub HasDigest : List ℕ → Type 0
HasDigest bytes = PassesDigest Verified bytes

-- the allowed numbers of categories and unknown tokens, by the kind of the dictionary
abbrev pub AreCounts : Kind → ℕ → ℕ → Type 0
AreCounts System categories unknown = (1 ≤ categories) × (categories ≤ CATEGORIES_MAX)
AreCounts User categories unknown = (categories ≡ 0) × (unknown ≡ 0)

-- each header field is within its bounds
pub record IsHeader (h : Header) : Type 0 where
  pub is_kind : IsKind h.kind
  pub sizes_allowed : AreMatrixSizes h.sizes
  pub counts : AreCounts (kind_of h) h.categories h.unknown
  pub groups_have_tokens : h.groups ≤ h.tokens
  pub few_tokens : h.tokens ≤ ENTRIES_MAX
  pub few_unknown : h.unknown ≤ ENTRIES_MAX

-- a section that follows `Rule` in a system dictionary, and is empty in a user dictionary
abbrev pub SystemAlone : Kind → (List ℕ → Type 0) → List ℕ → Type 0
SystemAlone System Rule bytes = Rule bytes
SystemAlone User Rule bytes = bytes ≡ []

-- a group has a key
abbrev pub HasKey : List Cell → ℕ → Type 0
HasKey cells group = (key : List ℕ) × IsKeyOf cells group key

-- a well-formed section 3 for so many categories, by its form
abbrev pub AreInfos : InfoForm → ℕ → List ℕ → Type 0
AreInfos info.Listed categories infos = AreEntries categories infos
AreInfos info.Ranges categories infos = AreRanges categories infos

-- a well-formed section 4, the index of the unknown tokens
abbrev pub IsUnknownIndex : Header → List ℕ → Type 0
IsUnknownIndex h index = IsIndex h.categories h.tokens (all_tokens h) index

-- the length of the header, the magic and the layout
abbrev pub prefix_tests : Header → List ℕ → List Test
prefix_tests h bytes =
    unless (header_length ≤ length bytes) Truncated
    ∷ unless (take 8 bytes ≡ image_magic) BadMagic
    ∷ unless (IsReadLayout h.layout) (BadLayout h.layout)
    ∷ []

-- the length of the image, and its SHA-256 if it is tested; extra bytes after the sections are
-- reported as section 9
abbrev pub end_tests : DigestTest → Header → List ℕ → List Test
end_tests digest h bytes =
    unless (total_length h ≤ length bytes) Truncated
    ∷ unless (length bytes ≤ total_length h) (BadSection 9)
    ∷ unless (PassesDigest digest bytes) Digest
    ∷ []

-- the bounds of the header fields, which are reported as section 0
abbrev pub header_tests : Header → List Test
header_tests h = unless (IsHeader h) (BadSection 0) ∷ []

-- sections 1 to 4
abbrev pub system_tests : Header → List ℕ → List ℕ → List ℕ → List ℕ → List Test
system_tests h costs categories infos index =
    unless (SystemAlone (kind_of h) (AreCosts h.sizes) costs) (BadSection 1)
    ∷ unless (SystemAlone (kind_of h) (AreCategories h.categories) categories) (BadSection 2)
    ∷ unless (SystemAlone (kind_of h) (AreInfos (info_form h.layout) h.categories) infos) (BadSection 3)
    ∷ unless (SystemAlone (kind_of h) (IsUnknownIndex h) index) (BadSection 4)
    ∷ []

-- section 5: for listed keys each key, then that no bytes follow them; for cells their rules, then
-- the key of each group
abbrev pub key_tests : KeyForm → ℕ → List ℕ → List Test
key_tests key.Listed groups keys = unless_each groups (IsListedKey keys) BadKey ∷ unless (keys_from groups keys ≡ []) (BadSection 5) ∷ []
key_tests key.Cells groups keys = unless (HoldGroups groups keys) (BadSection 5) ∷ unless_each groups (HasKey (stored_cells keys)) BadKey ∷ []

-- sections 6 to 8
abbrev pub token_tests : Header → List ℕ → List ℕ → List ℕ → List Test
token_tests h groups tokens features =
    unless (IsIndex h.groups 0 h.tokens groups) (BadSection 6)
    ∷ unless (length tokens ≡ 16 * all_tokens h) (BadSection 7)
    ∷ unless_each (all_tokens h) (λ i. FitsSizes h.sizes (stored_token tokens i)) BadToken
    ∷ unless_each (all_tokens h) (λ i. HasFeature features (stored_token tokens i)) BadText
    ∷ []

-- the header fields and the sections
abbrev pub section_tests : Header → List ℕ → List Test
section_tests h bytes =
    header_tests h
    ++ (system_tests h (section bytes 1) (section bytes 2) (section bytes 3) (section bytes 4)
    ++ (key_tests (key_form h.layout) h.groups (section bytes 5) ++ token_tests h (section bytes 6) (section bytes 7) (section bytes 8)))

-- all tests of image bytes, in their order
abbrev pub image_tests : DigestTest → Header → List ℕ → List Test
image_tests digest h bytes = prefix_tests h bytes ++ (end_tests digest h bytes ++ section_tests h bytes)

-- the bytes pass all tests; the SHA-256 is tested only if `digest` is `Verified`
abbrev pub IsAccepted : DigestTest → List ℕ → Type 0
IsAccepted digest bytes = PassAll (image_tests digest (header_of bytes) bytes)

-- the bytes are a well-formed image: they pass all tests except the SHA-256's
abbrev pub IsWellFormed : List ℕ → Type 0
IsWellFormed bytes = IsAccepted Skipped bytes

-- the bytes are a well-formed image with the right SHA-256
abbrev pub IsIntact : List ℕ → Type 0
IsIntact bytes = IsAccepted Verified bytes

-- `fault` is the first error of bytes that are not accepted
abbrev pub IsImageFault : DigestTest → List ℕ → ImageFault → Type 0
IsImageFault digest bytes fault = IsFirstFault (image_tests digest (header_of bytes) bytes) fault

-- accepted bytes have no error, rejected bytes have an error, and no bytes have two first errors
pub record HasOneFault (digest : DigestTest) (bytes : List ℕ) : Type 0 where
  pub none_where_accepted : (fault : ImageFault) → IsAccepted digest bytes → IsImageFault digest bytes fault → ⊥
  pub one_where_not : (IsAccepted digest bytes → ⊥) → ((fault : ImageFault) → IsImageFault digest bytes fault → ⊥) → ⊥
  pub at_most_one : (fault other : ImageFault) → IsImageFault digest bytes fault → IsImageFault digest bytes other → fault ≡ other

abbrev pub ImagesHaveOneFault : Type 0
ImagesHaveOneFault = (digest : DigestTest) (bytes : List ℕ) → HasOneFault digest bytes

-- bytes are intact if and only if they are well formed and have the right SHA-256
abbrev pub IntactIsWellFormedWithDigest : Type 0
IntactIsWellFormedWithDigest = (bytes : List ℕ) → IsIntact bytes ↔ (IsWellFormed bytes × HasDigest bytes)
