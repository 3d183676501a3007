-- The code of out of memory: an error has it only if memory ran out.
use Rattle.std.proofs.Common.{◌≡◌, ℕ, ◌<◌, List, arith, refl, sym, ap, ◌∙◌}
use Rattle.std.specs.Prelude.{Option, Some, None, Result, Ok, Err, IfErr}
use Rattle.mj_model.specs.declared.format_fault.FormatFault.{FormatFault}
use Rattle.mj_model.specs.declared.format_fault.FormatFault.TheVariants as format
use Rattle.mj_model.specs.declared.format_fault.FormatKind.TheVariants.{BadEscape, BadItem, BadIndex}
use Rattle.mj_model.specs.declared.image_fault.ImageFault.{ImageFault}
use Rattle.mj_model.specs.declared.image_fault.ImageFault.TheVariants as image
use Rattle.mj_model.specs.declared.overlay_fault.OverlayFault.{OverlayFault}
use Rattle.mj_model.specs.declared.overlay_fault.OverlayFault.TheVariants.{NotSystem, NotUser, OtherSizes}
use Rattle.image_format.specs.declared.digest_test.DigestTest.{DigestTest}
use Rattle.line_segmenter.specs.Segmenters.{SegmenterState, Images}
use Rattle.line_segmenter.specs.Faults.{IsLoadError, IsAddUserError, PassesTestsBeforeKeys}
use Rattle.line_segmenter.specs.declared.fault.SegmentFault.{SegmentFault}
use Rattle.line_segmenter.specs.declared.fault.SegmentFault.TheVariants as segment
use Rattle.line_segmenter.proofs.OutOfMemoryLemmas.{no_test_of_memory}
use Rattle.capi.specs.Calls.{IsUserFault}
use Rattle.capi.specs.Codes.{call_code, memory, result_code}
use Rattle.capi.specs.Handles.{IsFillError, IsCallError}
use Rattle.capi.specs.declared.fault.CallFault.{CallFault}
use Rattle.capi.specs.declared.fault.CallFault.TheVariants as call

-- no code of a letter and a digit is that of out of memory
other : (code : ℕ) → 1 < code → code ≡ memory → ⊥
other code more is = omega (arith, more, is)

of_image : (P : ImageFault → Type 0) (fault : ImageFault) → P image.Memory → call_code (call.Segment (segment.Image fault)) ≡ memory → P fault
of_image P image.Truncated p reported = absurd (other 0x4c01 (omega arith) reported)
of_image P image.BadMagic p reported = absurd (other 0x4c02 (omega arith) reported)
of_image P (image.BadLayout n) p reported = absurd (other 0x4c03 (omega arith) reported)
of_image P (image.BadSection n) p reported = absurd (other 0x4c04 (omega arith) reported)
of_image P (image.BadKey n) p reported = absurd (other 0x4c05 (omega arith) reported)
of_image P (image.BadToken n) p reported = absurd (other 0x4c06 (omega arith) reported)
of_image P (image.BadText n) p reported = absurd (other 0x4c07 (omega arith) reported)
of_image P image.Digest p reported = absurd (other 0x4c08 (omega arith) reported)
of_image P image.Memory p reported = p

no_overlay : (fault : OverlayFault) → call_code (call.Segment (segment.Overlay fault)) ≡ memory → ⊥
no_overlay NotSystem reported = other 0x4f01 (omega arith) reported
no_overlay (NotUser n) reported = other 0x4f02 (omega arith) reported
no_overlay (OtherSizes n) reported = other 0x4f03 (omega arith) reported

of_format : (P : FormatFault → Type 0) (fault : FormatFault) → P format.Memory → call_code (call.Segment (segment.Format fault)) ≡ memory → P fault
of_format P (format.Bad part at BadEscape) p reported = absurd (other 0x5001 (omega arith) reported)
of_format P (format.Bad part at BadItem) p reported = absurd (other 0x5002 (omega arith) reported)
of_format P (format.Bad part at BadIndex) p reported = absurd (other 0x5003 (omega arith) reported)
of_format P format.Memory p reported = p

-- what holds for out of memory, as an error of a segmenter, an image or a format, holds for each
-- error with its code
of_code : (P : SegmentFault → Type 0) (fault : SegmentFault) → P segment.Memory → P (segment.Image image.Memory) → P (segment.Format format.Memory) → call_code (call.Segment fault) ≡ memory → P fault
of_code P (segment.Image f) m i t reported = of_image (λ (g : ImageFault). P (segment.Image g)) f i reported
of_code P (segment.Overlay f) m i t reported = absurd (no_overlay f reported)
of_code P (segment.Format f) m i t reported = of_format (λ (g : FormatFault). P (segment.Format g)) f t reported
of_code P segment.NotUtf8 m i t reported = absurd (other 0x4703 (omega arith) reported)
of_code P segment.TooLong m i t reported = absurd (other 0x4704 (omega arith) reported)
of_code P (segment.LineFeed n) m i t reported = absurd (other 0x4b01 (omega arith) reported)
of_code P segment.NothingSegmented m i t reported = absurd (other 0x4b02 (omega arith) reported)
of_code P segment.Shared m i t reported = absurd (other 0x4b03 (omega arith) reported)
of_code P segment.BadGrouping m i t reported = absurd (other 0x4b04 (omega arith) reported)
of_code P (segment.NoWord n) m i t reported = absurd (other 0x4b08 (omega arith) reported)
of_code P segment.Memory m i t reported = m

module _ (digest : DigestTest) (image : List ℕ) where
  -- why an image is not loaded, and why a user dictionary is not added
  load_want : (fault : SegmentFault) → IsLoadError digest image fault → call_code (call.Segment fault) ≡ memory → fault ≡ segment.Memory
  load_want fault rejected reported = of_code (λ (f : SegmentFault). IsLoadError digest image f → f ≡ segment.Memory) fault (λ _. refl)
      (λ tests. absurd (no_test_of_memory digest image tests)) (λ none. absurd none) reported rejected

  user_want : (images : Images) (fault : SegmentFault) → IsAddUserError digest images image fault → call_code (call.Segment fault) ≡ memory → fault ≡ segment.Memory
  user_want images fault rejected reported = of_code (λ (f : SegmentFault). IsAddUserError digest images image f → f ≡ segment.Memory) fault (λ _. refl)
      (λ tests. absurd (no_test_of_memory digest image tests)) (λ none. absurd none) reported rejected

  fill_want : (old : Option SegmenterState) (fault : CallFault) → IsFillError old (IsLoadError digest image) fault → call_code fault ≡ memory → fault ≡ call.Segment segment.Memory
  fill_want None (call.Segment fault) rejected reported = ap call.Segment (load_want fault rejected reported)
  fill_want None call.EmptySegmenter rejected reported = absurd rejected
  fill_want None call.FullSegmenter rejected reported = absurd rejected
  fill_want None call.ShortBuffer rejected reported = absurd rejected
  fill_want (Some h) fault rejected reported = absurd (other 0x4b06 (omega arith) (ap call_code (sym rejected) ∙ reported))

  lay_want : (old : Option SegmenterState) (fault : CallFault) → IsCallError old (IsUserFault digest image) fault → call_code fault ≡ memory → fault ≡ call.Segment segment.Memory
  lay_want None fault rejected reported = absurd (other 0x4b05 (omega arith) (ap call_code (sym rejected) ∙ reported))
  lay_want (Some h) (call.Segment fault) rejected reported = ap call.Segment (user_want h.images fault rejected reported)
  lay_want (Some h) call.EmptySegmenter rejected reported = absurd rejected
  lay_want (Some h) call.FullSegmenter rejected reported = absurd rejected
  lay_want (Some h) call.ShortBuffer rejected reported = absurd rejected

  -- what holds if memory runs out holds if its code is returned
  reported_position : {T : Type 0} (Is : CallFault → Type 0) → ((fault : CallFault) → Is fault → call_code fault ≡ memory → fault ≡ call.Segment segment.Memory) → (outcome : Result T CallFault) (code : ℕ) → code ≡ result_code outcome
      → IfErr outcome Is → IfErr outcome (λ fault. fault ≡ call.Segment segment.Memory → PassesTestsBeforeKeys digest image) → code ≡ memory → PassesTestsBeforeKeys digest image
  reported_position Is want (Ok x) code is rejected no_memory reported = absurd (let done : 0 ≡ memory = sym is ∙ reported in omega (arith, done))
  reported_position Is want (Err fault) code is rejected no_memory reported = no_memory (want fault rejected (sym is ∙ reported))

  pub load_out_of_memory : {T : Type 0} (old : Option SegmenterState) (outcome : Result T CallFault) (code : ℕ) → code ≡ result_code outcome → IfErr outcome (IsFillError old (IsLoadError digest image))
      → IfErr outcome (λ fault. fault ≡ call.Segment segment.Memory → PassesTestsBeforeKeys digest image) → code ≡ memory → PassesTestsBeforeKeys digest image
  load_out_of_memory old = reported_position (IsFillError old (IsLoadError digest image)) (fill_want old)

  pub user_out_of_memory : {T : Type 0} (old : Option SegmenterState) (outcome : Result T CallFault) (code : ℕ) → code ≡ result_code outcome → IfErr outcome (IsCallError old (IsUserFault digest image))
      → IfErr outcome (λ fault. fault ≡ call.Segment segment.Memory → PassesTestsBeforeKeys digest image) → code ≡ memory → PassesTestsBeforeKeys digest image
  user_out_of_memory old = reported_position (IsCallError old (IsUserFault digest image)) (lay_want old)
