-- Memory runs out only for images whose bytes pass the checks before those of the keys.
use Rattle.std.proofs.Common.{◌≡◌, ℕ, List, [], ◌∷◌, ◌++◌, inl, inr, refl, sym}
use Rattle.mj_model.specs.declared.image_fault.ImageFault.{ImageFault}
use Rattle.mj_model.specs.declared.image_fault.ImageFault.TheVariants as image
use Rattle.mj_model.specs.declared.overlay_fault.OverlayFault.{OverlayFault}
use Rattle.image_format.specs.declared.digest_test.DigestTest.{DigestTest}
use Rattle.image_format.specs.declared.header.Header.{Header}
use Rattle.image_format.specs.declared.layout.KeyForm.{KeyForm}
use Rattle.image_format.specs.declared.layout.KeyForm.TheVariants as key
use Rattle.image_format.specs.ImageBytes.{all_tokens, header_of, section}
use Rattle.image_format.specs.ImageSections.{stored_cells, stored_token, FitsSizes, HasFeature}
use Rattle.image_format.specs.OlderSections.{IsListedKey}
use Rattle.image_format.specs.ImageFaults.{Test, HasKey, IsFirstFault, IsLeastWithout, prefix_tests, end_tests, header_tests, system_tests, key_tests, token_tests, section_tests}
use Rattle.image_format.specs.Layouts.{key_form}
use Rattle.dict_image.proofs.StageLemmas.{to_keys}
use Rattle.dict_image.specs.Validation.BeforeMemory.{ReachKeys}
use Rattle.line_segmenter.specs.declared.fault.SegmentFault.TheVariants as segment
use Rattle.line_segmenter.specs.Faults.{IsFaultOf, IsImage, PassesTestsBeforeKeys}
use Rattle.line_segmenter.specs.FaultWords.{of_image_fault}

-- ---- bytes that pass

-- an image passes these checks
pub passes : (digest : DigestTest) (bytes : List ℕ) → IsImage digest bytes → PassesTestsBeforeKeys digest bytes
unfolding IsImage PassesTestsBeforeKeys
passes digest bytes accepted = to_keys digest bytes accepted

is_other : (fault : ImageFault) → segment.Image fault ≡ segment.Memory → ⊥
is_other fault reported = cc

-- out of memory is reported if it was the result of the load
is_want : (fault : ImageFault) → of_image_fault fault ≡ segment.Memory → fault ≡ image.Memory
is_want image.Truncated reported = absurd (is_other image.Truncated reported)
is_want image.BadMagic reported = absurd (is_other image.BadMagic reported)
is_want (image.BadLayout n) reported = absurd (is_other (image.BadLayout n) reported)
is_want (image.BadSection n) reported = absurd (is_other (image.BadSection n) reported)
is_want (image.BadKey n) reported = absurd (is_other (image.BadKey n) reported)
is_want (image.BadToken n) reported = absurd (is_other (image.BadToken n) reported)
is_want (image.BadText n) reported = absurd (is_other (image.BadText n) reported)
is_want image.Digest reported = absurd (is_other image.Digest reported)
is_want image.Memory reported = refl

-- no error of an overlay is out of memory
pub no_overlay : (fault : OverlayFault) → segment.Overlay fault ≡ segment.Memory → ⊥
no_overlay fault reported = cc

-- so bytes with that error pass the checks of a load with that error
pub load_out_of_memory : (digest : DigestTest) (bytes : List ℕ) (fault : ImageFault) → (fault ≡ image.Memory → ReachKeys digest bytes) → of_image_fault fault ≡ segment.Memory → PassesTestsBeforeKeys digest bytes
unfolding PassesTestsBeforeKeys
load_out_of_memory digest bytes fault no_memory reported = no_memory (is_want fault reported)

-- ---- no check of an image reports out of memory

-- none of these checks does
abbrev ReportNone : List Test → Type 0
ReportNone [] = Unit {0}
ReportNone (test ∷ tests) = (test.Reports image.Memory → ⊥) × ReportNone tests

none_first : (tests : List Test) → ReportNone tests → IsFirstFault tests image.Memory → ⊥
none_first [] none reported = reported
none_first (test ∷ tests) none (inl reported) = none.0 reported
none_first (test ∷ tests) none (inr later) = none_first tests none.1 later.1

both : (xs ys : List Test) → ReportNone xs → ReportNone ys → ReportNone (xs ++ ys)
both [] ys p q = q
both (x ∷ xs) ys p q = (p.0, both xs ys p.1 q)

-- before others: a check with another error, and one with another error for each number
past : {Fact Rest : Type 0} (fault : ImageFault) → (fault ≡ image.Memory → ⊥) → Rest → ((Fact → ⊥) × (image.Memory ≡ fault) → ⊥) × Rest
past fault other rest = (λ reported. other (sym reported.1), rest)

past_each : {Rest : Type 0} (n : ℕ) (Fact : ℕ → Type 0) (fault : ℕ → ImageFault) → ((i : ℕ) → fault i ≡ image.Memory → ⊥) → Rest
    → ((i : ℕ) × IsLeastWithout n Fact i × (image.Memory ≡ fault i) → ⊥) × Rest
past_each n Fact fault other rest = (λ reported. other reported.0 (sym reported.2), rest)

of_section : (number : ℕ) → image.BadSection number ≡ image.Memory → ⊥
of_section number e = cc

of_key : (number : ℕ) → image.BadKey number ≡ image.Memory → ⊥
of_key number e = cc

prefix_none : (h : Header) (bytes : List ℕ) → ReportNone (prefix_tests h bytes)
prefix_none h bytes =
    past image.Truncated (λ (e : image.Truncated ≡ image.Memory). cc)
    (past image.BadMagic (λ (e : image.BadMagic ≡ image.Memory). cc)
    (past (image.BadLayout h.layout) (λ (e : image.BadLayout h.layout ≡ image.Memory). cc) tt))

end_none : (digest : DigestTest) (h : Header) (bytes : List ℕ) → ReportNone (end_tests digest h bytes)
end_none digest h bytes =
    past image.Truncated (λ (e : image.Truncated ≡ image.Memory). cc)
    (past (image.BadSection 9) (of_section 9)
    (past image.Digest (λ (e : image.Digest ≡ image.Memory). cc) tt))

header_none : (h : Header) → ReportNone (header_tests h)
header_none h = past (image.BadSection 0) (of_section 0) tt

system_none : (h : Header) (costs categories infos index : List ℕ) → ReportNone (system_tests h costs categories infos index)
system_none h costs categories infos index =
    past (image.BadSection 1) (of_section 1)
    (past (image.BadSection 2) (of_section 2)
    (past (image.BadSection 3) (of_section 3)
    (past (image.BadSection 4) (of_section 4) tt)))

key_none : (form : KeyForm) (groups : ℕ) (keys : List ℕ) → ReportNone (key_tests form groups keys)
key_none key.Listed groups keys = past_each groups (IsListedKey keys) image.BadKey of_key (past (image.BadSection 5) (of_section 5) tt)
key_none key.Cells groups keys = past (image.BadSection 5) (of_section 5) (past_each groups (HasKey (stored_cells keys)) image.BadKey of_key tt)

token_none : (h : Header) (groups tokens features : List ℕ) → ReportNone (token_tests h groups tokens features)
token_none h groups tokens features =
    past (image.BadSection 6) (of_section 6)
    (past (image.BadSection 7) (of_section 7)
    (past_each (all_tokens h) (λ i. FitsSizes h.sizes (stored_token tokens i)) image.BadToken (λ (i : ℕ) (e : image.BadToken i ≡ image.Memory). cc)
    (past_each (all_tokens h) (λ i. HasFeature features (stored_token tokens i)) image.BadText (λ (i : ℕ) (e : image.BadText i ≡ image.Memory). cc) tt)))

section_none : (h : Header) (bytes : List ℕ) → ReportNone (section_tests h bytes)
section_none h bytes =
    let keys = key_tests (key_form h.layout) h.groups (section bytes 5) in
    let tokens = token_tests h (section bytes 6) (section bytes 7) (section bytes 8) in
    let system = system_tests h (section bytes 1) (section bytes 2) (section bytes 3) (section bytes 4) in
    both (header_tests h) (system ++ (keys ++ tokens)) (header_none h) (both system (keys ++ tokens) (system_none h (section bytes 1) (section bytes 2) (section bytes 3) (section bytes 4))
    (both keys tokens (key_none (key_form h.layout) h.groups (section bytes 5)) (token_none h (section bytes 6) (section bytes 7) (section bytes 8))))

pub no_test_of_memory : (digest : DigestTest) (bytes : List ℕ) → IsFaultOf digest bytes image.Memory → ⊥
unfolding IsFaultOf
no_test_of_memory digest bytes reported =
    let h = header_of bytes in
    let front = prefix_tests h bytes in
    let ends = end_tests digest h bytes in
    none_first (front ++ (ends ++ section_tests h bytes)) (both front (ends ++ section_tests h bytes) (prefix_none h bytes) (both ends (section_tests h bytes) (end_none digest h bytes) (section_none h bytes))) reported
