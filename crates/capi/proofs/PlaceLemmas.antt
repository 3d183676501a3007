-- The position of an error in a text: a position that is right for any text is right for a text
-- with that error.
use Rattle.std.proofs.Common.{◌≡◌, ◌≢◌, ℕ, List}
use Rattle.std.specs.Prelude.{Option, Some, None, Result, Ok, Err, IfErr}
use Rattle.line_segmenter.specs.Segmenters.{SegmenterState}
use Rattle.line_segmenter.specs.Faults.{IsLineError, IsTextError}
use Rattle.line_segmenter.specs.declared.fault.SegmentFault.{SegmentFault}
use Rattle.line_segmenter.specs.declared.fault.SegmentFault.TheVariants as segment
use Rattle.capi.specs.Codes.{result_code}
use Rattle.capi.specs.Handles.{IsCallError}
use Rattle.capi.specs.Outputs.{IsCallErrorPosition, IsPlaceIfBad, IsErrorPosition, PositionResult}
use Rattle.capi.specs.declared.segmenting.PathSize.{PathSize}
use Rattle.capi.specs.declared.fault.CallFault.{CallFault}
use Rattle.capi.specs.declared.fault.CallFault.TheVariants as call

module _ (text : List ℕ) (before at : ℕ) where
  pub text_placed : (fault : SegmentFault) → IsTextError text fault → IsPlaceIfBad text before at fault → IsErrorPosition text before at fault
  text_placed (segment.Image f) rejected found = found
  text_placed (segment.Overlay f) rejected found = found
  text_placed (segment.Format f) rejected found = found
  text_placed segment.NotUtf8 rejected found = found rejected.1
  text_placed segment.TooLong rejected found = found
  text_placed (segment.LineFeed n) rejected found = found
  text_placed segment.NothingSegmented rejected found = found
  text_placed segment.Shared rejected found = found
  text_placed segment.BadGrouping rejected found = found
  text_placed (segment.NoWord n) rejected found = found
  text_placed segment.Memory rejected found = found

  pub line_placed : (fault : SegmentFault) → IsLineError text fault → IsPlaceIfBad text before at fault → IsErrorPosition text before at fault
  line_placed (segment.Image f) rejected found = found
  line_placed (segment.Overlay f) rejected found = found
  line_placed (segment.Format f) rejected found = found
  line_placed segment.NotUtf8 rejected found = found rejected.1.1
  line_placed segment.TooLong rejected found = found
  line_placed (segment.LineFeed n) rejected found = found
  line_placed segment.NothingSegmented rejected found = found
  line_placed segment.Shared rejected found = found
  line_placed segment.BadGrouping rejected found = found
  line_placed (segment.NoWord n) rejected found = found
  line_placed segment.Memory rejected found = found

-- the code and the position of an error
module _ (old : Option SegmenterState) (text : List ℕ) (Rejected : List ℕ → SegmentFault → Type 0) (before at : ℕ)
    (so : (fault : SegmentFault) → Rejected text fault → IsPlaceIfBad text before at fault → IsErrorPosition text before at fault) where
  place_for : (kept : Option SegmenterState) (fault : CallFault) → IsCallError kept (λ _. Rejected text) fault → IsCallErrorPosition (IsPlaceIfBad text) before at fault → IsCallErrorPosition (IsErrorPosition text) before at fault
  place_for None (call.Segment f) rejected found = absurd (cc)
  place_for (Some h) (call.Segment f) rejected found = so f rejected found
  place_for kept call.EmptySegmenter rejected found = found
  place_for kept call.FullSegmenter rejected found = found
  place_for kept call.ShortBuffer rejected found = found

  pub reports_placed : (outcome : Result PathSize CallFault) (code : ℕ) → code ≡ result_code outcome → IfErr outcome (IsCallError old (λ _. Rejected text)) → IfErr outcome (IsCallErrorPosition (IsPlaceIfBad text) before at)
      → code ≢ 0 → PositionResult (IsCallError old (λ _. Rejected text)) (IsErrorPosition text) before at code
  reports_placed (Ok size) code is rejected found fails = absurd (fails is)
  reports_placed (Err fault) code is rejected found fails = record { fault = fault; is = rejected; reported = is; place = place_for old fault rejected found }
