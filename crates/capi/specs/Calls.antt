-- The effect of calls on a segmenter, except for those that set a format or a grouping.
use Rattle.std.specs.Prelude.{◌≡◌, ◌≢◌, ℕ, ℤ, List, [], length, Option, None}
use Rattle.line_segmenter.specs.Segmenters.{FitTogether, SegmentedLine, SegmenterState, IsLoaded, OfLastLine, with_added}
use Rattle.line_segmenter.specs.declared.fault.SegmentFault.{SegmentFault}
use Rattle.line_segmenter.specs.Faults.{IsImage, IsLineError, IsLoadError, IsOneLine, IsTextError, IsAddUserError}
use Rattle.capi.specs.declared.segmenting.Extent.{Extent}
use Rattle.capi.specs.declared.segmenting.Extent.TheVariants.{Line, Text}
use Rattle.capi.specs.declared.segmenting.PathSize.{PathSize}
use Rattle.capi.specs.Handles.{Fills, IsFillError, IsCallError, Moves, LoadingResult}
use Rattle.capi.specs.Outputs.{IsErrorPosition, OnlyFaultsSet, OnlyOkSets, PositionResult}
use Rattle.image_format.specs.declared.digest_test.DigestTest.{DigestTest}
use Rattle.line_stream.specs.GoodLines.{IsGood}
use Rattle.word_lookup.specs.Overlays.{fault_of_images}

-- the segmenter holds the image of a system dictionary alone, which passed the checks
pub record IsLoadedFrom (digest : DigestTest) (image : List ℕ) (h : SegmenterState) : Type 0 where
  pub loaded : IsLoaded image h
  pub accepted : IsImage digest image
  pub fits : fault_of_images image [] ≡ None

-- a user dictionary, which fits the others, was added to the segmenter
pub record IsExtended (digest : DigestTest) (image : List ℕ) (old new : SegmenterState) : Type 0 where
  pub extended : new ≡ with_added old image
  pub accepted : IsImage digest image
  pub fits : FitTogether new.images

-- the new segmenter shares dictionaries, format and grouping with the old one
abbrev pub IsShared : SegmenterState → SegmenterState → Type 0
IsShared old new = new ≡ record old { segmented = None }

-- why a user dictionary is not added to the segmenter
abbrev pub IsUserFault : DigestTest → List ℕ → SegmenterState → SegmentFault → Type 0
IsUserFault digest image h fault = IsAddUserError digest h.images image fault

-- the result of a load: an empty handle was filled with a segmenter for the image, or an error
abbrev pub LoadResult : DigestTest → List ℕ → Option SegmenterState → Option SegmenterState → ℕ → ℕ → ℕ → Type 0
LoadResult digest image old new = LoadingResult (Fills old new (IsLoadedFrom digest image)) (IsFillError old (IsLoadError digest image)) old new

-- the result of adding a user dictionary to a handle's segmenter
abbrev pub AddUserResult : DigestTest → List ℕ → Option SegmenterState → Option SegmenterState → ℕ → ℕ → ℕ → Type 0
AddUserResult digest image old new = LoadingResult (Moves old new (IsExtended digest image)) (IsCallError old (IsUserFault digest image)) old new

-- the path has this size
abbrev pub HasSize : PathSize → SegmentedLine → Type 0
HasSize size c = (size.count ≡ length c.words) × (size.total ≡ c.total)

-- the text was segmented into a path of this size, and nothing else changed
pub record IsSegmentedInto (text : List ℕ) (size : PathSize) (old new : SegmenterState) : Type 0 where
  pub best : OfLastLine new (λ c. c.text ≡ text)
  pub size_is : OfLastLine new (HasSize size)
  pub others : new ≡ record old { segmented = new.segmented }

-- the size in the outputs `count` and `total`
abbrev pub reported_size : ℕ → ℤ → PathSize
reported_size count total = record { count = count; total = total }

-- a valid text; proofs don't unfold it
unfoldable pub IsGoodText : List ℕ → Type 0
IsGoodText text = IsGood text

-- a valid text without an LF; proofs don't unfold it
unfoldable pub IsGoodLine : List ℕ → Type 0
IsGoodLine line = IsOneLine line × IsGood line

-- the input is valid as a line or as a text
abbrev pub IsGoodFor : Extent → List ℕ → Type 0
IsGoodFor Line = IsGoodLine
IsGoodFor Text = IsGoodText

-- why the input is not segmented
abbrev pub IsErrorFor : Extent → List ℕ → SegmentFault → Type 0
IsErrorFor Line = IsLineError
IsErrorFor Text = IsTextError

-- the result of segmenting: on 0 the size of the path of a valid text, otherwise an error, its
-- position and an unchanged segmenter
pub record SegmentResult (old new : Option SegmenterState) (text : List ℕ) (Accepted : List ℕ → Type 0) (Rejected : List ℕ → SegmentFault → Type 0) (size_before size : PathSize) (at_before at code : ℕ) : Type 0 where
  pub accepted : code ≡ 0 → Accepted text
  pub done : code ≡ 0 → Moves old new (IsSegmentedInto text size)
  pub rejected : code ≢ 0 → PositionResult (IsCallError old (λ _. Rejected text)) (IsErrorPosition text) at_before at code
  pub kept : code ≢ 0 → new ≡ old
  pub size_unset : OnlyOkSets code size_before size
  pub at_unset : OnlyFaultsSet code at_before at
