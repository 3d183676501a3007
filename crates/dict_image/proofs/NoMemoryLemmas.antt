-- The tests that precede those of the keys do not allocate, so they never report `Memory`.
use Rattle.std.proofs.Common.{◌≡◌, ℕ, List, ◌⊎◌, inl, inr, sym, ◌∙◌}
use Rattle.mj_model.specs.declared.image_fault.ImageFault.{ImageFault}
use Rattle.mj_model.specs.declared.image_fault.ImageFault.TheVariants.{Truncated, BadMagic, BadLayout, BadSection, Digest, Memory}
use Rattle.image_format.specs.declared.digest_test.DigestTest.{DigestTest}
use Rattle.image_format.specs.declared.header.Header.{Header}
use Rattle.image_format.specs.ImageBytes.{header_of}
use Rattle.image_format.specs.ImageFaults.{IsFirstFault, prefix_tests, end_tests, header_tests, system_tests}

-- a test that reports another error, followed by tests that do not report `Memory`
past : {Fact Rest : Type 0} (fault reported : ImageFault) → (fault ≡ Memory → ⊥) → reported ≡ Memory → (Rest → ⊥) → ((Fact → ⊥) × (reported ≡ fault)) ⊎ (Fact × Rest) → ⊥
past fault reported other memory rest (inl reports) = other (sym reports.1 ∙ memory)
past fault reported other memory rest (inr later) = rest later.1

of_section : (number : ℕ) → BadSection number ≡ Memory → ⊥
of_section number e = cc

pub prefix_takes_none : (bytes : List ℕ) (fault : ImageFault) → fault ≡ Memory → IsFirstFault (prefix_tests (header_of bytes) bytes) fault → ⊥
prefix_takes_none bytes fault memory =
    past Truncated fault (λ (e : Truncated ≡ Memory). cc) memory
    (past BadMagic fault (λ (e : BadMagic ≡ Memory). cc) memory
    (past (BadLayout (header_of bytes).layout) fault (λ (e : BadLayout (header_of bytes).layout ≡ Memory). cc) memory (λ none. none)))

pub ends_take_none : (digest : DigestTest) (bytes : List ℕ) (fault : ImageFault) → fault ≡ Memory → IsFirstFault (end_tests digest (header_of bytes) bytes) fault → ⊥
ends_take_none digest bytes fault memory =
    past Truncated fault (λ (e : Truncated ≡ Memory). cc) memory
    (past (BadSection 9) fault (of_section 9) memory
    (past Digest fault (λ (e : Digest ≡ Memory). cc) memory (λ none. none)))

pub header_takes_none : (h : Header) (fault : ImageFault) → fault ≡ Memory → IsFirstFault (header_tests h) fault → ⊥
header_takes_none h fault memory = past (BadSection 0) fault (of_section 0) memory (λ none. none)

pub system_takes_none : (h : Header) (costs categories infos index : List ℕ) (fault : ImageFault) → fault ≡ Memory → IsFirstFault (system_tests h costs categories infos index) fault → ⊥
system_takes_none h costs categories infos index fault memory =
    past (BadSection 1) fault (of_section 1) memory
    (past (BadSection 2) fault (of_section 2) memory
    (past (BadSection 3) fault (of_section 3) memory
    (past (BadSection 4) fault (of_section 4) memory (λ none. none))))
