-- The text of each error's code.
use Rattle.std.proofs.Common.{◌≡◌, refl}
use Rattle.mj_model.specs.declared.format_fault.FormatFault.TheVariants as format
use Rattle.mj_model.specs.declared.format_fault.FormatKind.TheVariants.{BadEscape, BadItem, BadIndex}
use Rattle.mj_model.specs.declared.image_fault.ImageFault.TheVariants as image
use Rattle.mj_model.specs.declared.overlay_fault.OverlayFault.TheVariants.{NotSystem, NotUser, OtherSizes}
use Rattle.line_segmenter.specs.declared.fault.SegmentFault.TheVariants as segment
use Rattle.capi.specs.Codes.{call_code}
use Rattle.capi.specs.Texts.{fault_text, text_at}
use Rattle.capi.specs.declared.fault.CallFault.{CallFault}
use Rattle.capi.specs.declared.fault.CallFault.TheVariants as call

pub text_is : (fault : CallFault) → text_at (call_code fault) ≡ fault_text fault
text_is (call.Segment (segment.Image image.Truncated)) = refl
text_is (call.Segment (segment.Image image.BadMagic)) = refl
text_is (call.Segment (segment.Image (image.BadLayout n))) = refl
text_is (call.Segment (segment.Image (image.BadSection n))) = refl
text_is (call.Segment (segment.Image (image.BadKey n))) = refl
text_is (call.Segment (segment.Image (image.BadToken n))) = refl
text_is (call.Segment (segment.Image (image.BadText n))) = refl
text_is (call.Segment (segment.Image image.Digest)) = refl
text_is (call.Segment (segment.Image image.Memory)) = refl
text_is (call.Segment (segment.Overlay NotSystem)) = refl
text_is (call.Segment (segment.Overlay (NotUser n))) = refl
text_is (call.Segment (segment.Overlay (OtherSizes n))) = refl
text_is (call.Segment (segment.Format (format.Bad part at BadEscape))) = refl
text_is (call.Segment (segment.Format (format.Bad part at BadItem))) = refl
text_is (call.Segment (segment.Format (format.Bad part at BadIndex))) = refl
text_is (call.Segment (segment.Format format.Memory)) = refl
text_is (call.Segment segment.NotUtf8) = refl
text_is (call.Segment segment.TooLong) = refl
text_is (call.Segment (segment.LineFeed n)) = refl
text_is (call.Segment segment.NothingSegmented) = refl
text_is (call.Segment segment.Shared) = refl
text_is (call.Segment segment.BadGrouping) = refl
text_is (call.Segment (segment.NoWord n)) = refl
text_is (call.Segment segment.Memory) = refl
text_is call.EmptySegmenter = refl
text_is call.FullSegmenter = refl
text_is call.ShortBuffer = refl
