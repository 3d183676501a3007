-- The hashed bytes of an image, and tests of the checksum that give the same result.
use Rattle.std.proofs.Common.{◌≡◌, ℕ, ◌-◌, ◌≤◌, ◌<◌, ◌⊎◌, List, ◌++◌, length, ap, inl, inr, arith, length-take}
use Rattle.std.specs.Prelude.{min, take}
use Rattle.std.proofs.lemmas.List.{length-drop}
use Rattle.sha2.proofs.Facts256.{length-sha256}
use Rattle.mj_model.specs.declared.image_fault.ImageFault.{ImageFault}
use Rattle.mj_model.specs.declared.image_fault.ImageFault.TheVariants.{Digest, Memory}
use Rattle.image_format.specs.ImageBytes.{header_length, section_end}
use Rattle.image_format.specs.ImageFaults.{IsAccepted, IsDigestAt, IsImageFault, PassesDigest}
use Rattle.image_format.specs.declared.digest_test.DigestTest.{DigestTest}
use Rattle.image_format.specs.declared.digest_test.DigestTest.TheVariants.{Verified, Skipped}
use Rattle.image_format.specs.declared.header.Header.{Header}
use Rattle.dict_image.specs.Validation.BeforeMemory.{ReachKeys}
use Rattle.programs.specs.HashedImages.{AgreeOnDigest, digest_place}
use Rattle.programs.proofs.FirstBytes.{first_of_both}
use Rattle.programs.proofs.ImageHeadLemmas.{header_kept}

-- how many bytes of a further piece lie before offset `end`
pub hashed_of_both : (end before missing : ℕ) (bytes piece : List ℕ) → before ≡ length bytes → missing ≡ min (end - before) (length piece)
    → take end bytes ++ take missing piece ≡ take end (bytes ++ piece)
hashed_of_both end before missing bytes piece count is =
    let front = length-take end bytes in
    first_of_both end missing bytes piece (omega (arith, count, is, front))

-- the offset of the checksum depends on the header alone
pub place_kept : (first rest : List ℕ) → header_length ≤ length first → digest_place (first ++ rest) ≡ digest_place first
place_kept first rest long = ap (λ (h : Header). section_end h 8) (header_kept first rest long)

-- a checksum that is right need not be tested again
pub digest_found : (requested : DigestTest) (bytes : List ℕ) → IsDigestAt Verified (digest_place bytes) bytes → AgreeOnDigest requested Skipped bytes
digest_found Verified bytes right = ((λ _ _. tt), (λ _ _. right))
digest_found Skipped bytes right = ((λ _ _. tt), (λ _ _. tt))

-- checksum tests with the same result make the other tests of an image give the same result
module _ (requested left : DigestTest) (bytes : List ℕ) (alike : AgreeOnDigest requested left bytes) where
  pub accepted_alike : IsAccepted left bytes → IsAccepted requested bytes
  accepted_alike w = (w.0, (w.1.0, (w.1.1.0, (w.1.1.1.0, (w.1.1.1.1.0, (alike.1 w.1.1.1.1.1.0, w.1.1.1.1.1.1))))))

  pub keys_alike : ReachKeys left bytes → ReachKeys requested bytes
  keys_alike w = (w.0, (w.1.0, (w.1.1.0, (alike.1 w.1.1.1.0, w.1.1.1.1))), w.2)

  later : {T P F G : Type 0} → (F → G) → T ⊎ (P × F) → T ⊎ (P × G)
  later so (inl reports) = inl reports
  later so (inr both) = inr (both.0, so both.1)

  last : {F : Type 0} {reported : ImageFault} → ((PassesDigest left bytes → ⊥) × (reported ≡ Digest)) ⊎ (PassesDigest left bytes × F)
      → ((PassesDigest requested bytes → ⊥) × (reported ≡ Digest)) ⊎ (PassesDigest requested bytes × F)
  last (inl reports) = inl ((λ passes. reports.0 (alike.0 passes)), reports.1)
  last (inr both) = inr (alike.1 both.0, both.1)

  pub fault_alike : (fault : ImageFault) → IsImageFault left bytes fault → IsImageFault requested bytes fault
  fault_alike fault reported = later (later (later (later (later last)))) reported

  pub rejected_alike : (fault : ImageFault) → (fault ≡ Memory) ⊎ IsImageFault left bytes fault → (fault ≡ Memory) ⊎ IsImageFault requested bytes fault
  rejected_alike fault (inl none) = inl none
  rejected_alike fault (inr reported) = inr (fault_alike fault reported)

-- bytes that end before the offset of the checksum have no checksum
pub too_short : (place : ℕ) (image : List ℕ) → length image < place → IsDigestAt Verified place image → ⊥
too_short place image short same =
    let following = length-drop place image in
    let digest = length-sha256 (take place image) in
    let both = ap length same in
    omega (arith, short, following, digest, both)
