-- How errors of the parts map to errors of a segmenter.
use Rattle.std.proofs.Common.{◌≡◌, ℕ, List, ◌∷◌, ◌++◌, [], refl, sym, subst, ◌⊎◌, inl, inr}
use Rattle.std.specs.Prelude.{Result, Ok, Err, IfErr, Some}
use Rattle.mj_model.specs.declared.image_fault.ImageFault.{ImageFault}
use Rattle.mj_model.specs.declared.image_fault.ImageFault.TheVariants as image
use Rattle.image_format.specs.declared.digest_test.DigestTest.{DigestTest}
use Rattle.image_format.specs.ImageFaults.{IsImageFault}
use Rattle.line_segmenter.specs.declared.fault.SegmentFault.{SegmentFault}
use Rattle.line_segmenter.specs.declared.fault.SegmentFault.TheVariants as segment
use Rattle.line_segmenter.specs.Segmenters.{Images}
use Rattle.line_segmenter.specs.Faults.{IsUserMisfit, IsFaultOf, IsImage, IsLoadUserError, IsLoadError, IsFirstOverlayFault}
use Rattle.line_segmenter.specs.FaultWords.{of_image_fault}
use Rattle.line_segmenter.proofs.OverlayLemmas.{same_fault}
use Rattle.line_segmenter.proofs.OutOfMemoryLemmas.{no_overlay}

-- what holds if memory runs out, and for an image's error of that kind, holds for the segmenter's
-- error
reported_if : (Is : ImageFault → Type 0) (P : SegmentFault → Type 0) (fault : ImageFault) → P segment.Memory → ((f : ImageFault) → Is f → P (segment.Image f)) → Is fault → P (of_image_fault fault)
reported_if Is P image.Truncated m k h = k _ h
reported_if Is P image.BadMagic m k h = k _ h
reported_if Is P (image.BadLayout n) m k h = k _ h
reported_if Is P (image.BadSection n) m k h = k _ h
reported_if Is P (image.BadKey n) m k h = k _ h
reported_if Is P (image.BadToken n) m k h = k _ h
reported_if Is P (image.BadText n) m k h = k _ h
reported_if Is P image.Digest m k h = k _ h
reported_if Is P image.Memory m k h = m

reported : (Is : ImageFault → Type 0) (P : SegmentFault → Type 0) (fault : ImageFault) → P segment.Memory → ((f : ImageFault) → Is f → P (segment.Image f)) → (fault ≡ image.Memory) ⊎ Is fault
    → P (of_image_fault fault)
reported Is P fault m k (inl e) = subst (λ (f : ImageFault). P (of_image_fault f)) (sym e) m
reported Is P fault m k (inr h) = reported_if Is P fault m k h

pub load_rejected : (digest : DigestTest) (bytes : List ℕ) (fault : ImageFault) → (fault ≡ image.Memory) ⊎ IsImageFault digest bytes fault → IsLoadError digest bytes (of_image_fault fault)
unfolding IsFaultOf
load_rejected digest bytes fault h = reported (IsImageFault digest bytes) (IsLoadError digest bytes) fault tt (λ f is. is) h

pub user_rejected : (digest : DigestTest) (images : Images) (bytes : List ℕ) (fault : ImageFault) → (fault ≡ image.Memory) ⊎ IsImageFault digest bytes fault → IsLoadUserError digest images bytes (of_image_fault fault)
unfolding IsFaultOf
user_rejected digest images bytes fault h = reported (IsImageFault digest bytes) (IsLoadUserError digest images bytes) fault tt (λ f is. is) h

add_fault : (digest : DigestTest) (images : Images) (user : List ℕ) (fault : SegmentFault) → IsImage digest user → IsUserMisfit images.system (images.users ++ user ∷ []) fault → IsLoadUserError digest images user fault
add_fault digest images user (segment.Image f) formed h = absurd h
add_fault digest images user (segment.Overlay f) formed h = (formed, h)
add_fault digest images user (segment.Format f) formed h = absurd h
add_fault digest images user segment.NotUtf8 formed h = absurd h
add_fault digest images user segment.TooLong formed h = absurd h
add_fault digest images user (segment.LineFeed n) formed h = absurd h
add_fault digest images user segment.NothingSegmented formed h = absurd h
add_fault digest images user segment.Shared formed h = absurd h
add_fault digest images user segment.BadGrouping formed h = absurd h
add_fault digest images user (segment.NoWord n) formed h = absurd h
add_fault digest images user segment.Memory formed h = tt

-- an error of adding a user dictionary to the others is an error of adding its image
pub add_rejected : {T : Type 0} (digest : DigestTest) (r : Result T SegmentFault) (images : Images) (user : List ℕ) → IsImage digest user → IfErr r (IsUserMisfit images.system (images.users ++ user ∷ []))
    → IfErr r (IsLoadUserError digest images user)
add_rejected digest (Ok x) images user formed h = tt
add_rejected digest (Err fault) images user formed h = add_fault digest images user fault formed h

-- the error of a user dictionary as a system dictionary is an error of loading its image, and never
-- out of memory
alone_fault : (digest : DigestTest) (system image : List ℕ) (fault : SegmentFault) → system ≡ image → IsImage digest image → IsFirstOverlayFault system [] fault
    → IsLoadError digest image fault × (fault ≡ segment.Memory → ⊥)
alone_fault digest system image (segment.Overlay f) same formed h = ((formed, same_fault system image [] [] (Some f) same refl h), no_overlay f)
alone_fault digest system image (segment.Image f) same formed h = absurd h
alone_fault digest system image (segment.Format f) same formed h = absurd h
alone_fault digest system image segment.NotUtf8 same formed h = absurd h
alone_fault digest system image segment.TooLong same formed h = absurd h
alone_fault digest system image (segment.LineFeed n) same formed h = absurd h
alone_fault digest system image segment.NothingSegmented same formed h = absurd h
alone_fault digest system image segment.Shared same formed h = absurd h
alone_fault digest system image segment.BadGrouping same formed h = absurd h
alone_fault digest system image (segment.NoWord n) same formed h = absurd h
alone_fault digest system image segment.Memory same formed h = absurd h

pub alone_rejected : {T : Type 0} (digest : DigestTest) (r : Result T SegmentFault) (system image : List ℕ) → system ≡ image → IsImage digest image → IfErr r (IsFirstOverlayFault system [])
    → IfErr r (IsLoadError digest image)
alone_rejected digest (Ok x) system image same formed h = tt
alone_rejected digest (Err fault) system image same formed h = (alone_fault digest system image fault same formed h).0

pub alone_takes_no_memory : {T : Type 0} (digest : DigestTest) (r : Result T SegmentFault) (system image : List ℕ) (P : Type 0) → system ≡ image → IsImage digest image → IfErr r (IsFirstOverlayFault system [])
    → IfErr r (λ fault. fault ≡ segment.Memory → P)
alone_takes_no_memory digest (Ok x) system image P same formed h = tt
alone_takes_no_memory digest (Err fault) system image P same formed h = λ reported. absurd ((alone_fault digest system image fault same formed h).1 reported)
