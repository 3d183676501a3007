-- The errors of a segmenter's calls. A call that allocates may run out of memory. If it does for a
-- text, a path or a word's feature, there is no other error. If it does for an image, its bytes
-- passed the checks that don't allocate.
use Rattle.std.specs.Prelude.{◌≡◌, ℕ, ◌<◌, List, [], ◌∷◌, ◌++◌, length, Some, None, IsSome, Err, slice_get}
use Rattle.std.specs.Option.{IsSomeAnd}
use Rattle.memchr.specs.Find.{IsFirstByte}
use Rattle.image_format.specs.ImageFaults.{IsAccepted, IsImageFault}
use Rattle.image_format.specs.declared.digest_test.DigestTest.{DigestTest}
use Rattle.dict_image.specs.Validation.BeforeMemory.{ReachKeys}
use Rattle.line_stream.specs.declared.line_fault.LineFault.TheVariants.{TooLong, NotUtf8}
use Rattle.line_stream.specs.GoodLines.{IsBad, IsGood}
use Rattle.mj_model.specs.Bytes.{is_line_feed}
use Rattle.mj_model.specs.declared.image_fault.ImageFault.{ImageFault}
use Rattle.mj_model.specs.declared.limits.TheConstants.{GROUPING_MAX}
use Rattle.out_format.specs.Formats.{FormatTexts, IsFormat}
use Rattle.word_lookup.specs.Overlays.{fault_of_images}
use Rattle.line_segmenter.specs.declared.fault.SegmentFault.{SegmentFault}
use Rattle.line_segmenter.specs.declared.fault.SegmentFault.TheVariants as segment
use Rattle.line_segmenter.specs.Segmenters.{SegmentedLine, SegmenterState, Images}

-- the image passes the selected checks; proofs don't unfold it
unfoldable pub IsImage : DigestTest → List ℕ → Type 0
IsImage digest image = IsAccepted digest image

-- the first error of an image that fails the selected checks; proofs don't unfold it
unfoldable pub IsFaultOf : DigestTest → List ℕ → ImageFault → Type 0
IsFaultOf digest image fault = IsImageFault digest image fault

-- the image passes the checks before those of its keys, which are the first that allocate; proofs
-- don't unfold it
unfoldable pub PassesTestsBeforeKeys : DigestTest → List ℕ → Type 0
PassesTestsBeforeKeys digest image = ReachKeys digest image

-- why a text is not segmented: it is too long or else not UTF-8, or memory runs out at a valid one
abbrev pub IsTextError : List ℕ → SegmentFault → Type 0
IsTextError bytes segment.Memory = IsGood bytes
IsTextError bytes segment.TooLong = IsBad bytes TooLong
IsTextError bytes segment.NotUtf8 = IsBad bytes NotUtf8
IsTextError bytes fault = ⊥

-- the text is one line: no byte is an LF
abbrev pub IsOneLine : List ℕ → Type 0
IsOneLine line = IsFirstByte is_line_feed line None

-- why a line is not segmented: the offset of its first LF, or otherwise the error of the text
abbrev pub IsLineError : List ℕ → SegmentFault → Type 0
IsLineError line (segment.LineFeed place) = IsFirstByte is_line_feed line (Some place)
IsLineError line fault = IsOneLine line × IsTextError line fault

-- why an image is not loaded as a system dictionary: it is invalid, or a user dictionary, or memory
-- runs out
abbrev pub IsLoadError : DigestTest → List ℕ → SegmentFault → Type 0
IsLoadError digest image segment.Memory = Unit {0}
IsLoadError digest image (segment.Image fault) = IsFaultOf digest image fault
IsLoadError digest image (segment.Overlay fault) = IsImage digest image × (fault_of_images image [] ≡ Some fault)
IsLoadError digest image fault = ⊥

-- the first error of an overlay of these dictionaries
abbrev pub IsFirstOverlayFault : List ℕ → List (List ℕ) → SegmentFault → Type 0
IsFirstOverlayFault system users (segment.Overlay fault) = fault_of_images system users ≡ Some fault
IsFirstOverlayFault system users fault = ⊥

-- why an image is not added as a user dictionary: it is invalid, or does not fit the others, or
-- memory runs out
abbrev pub IsLoadUserError : DigestTest → Images → List ℕ → SegmentFault → Type 0
IsLoadUserError digest images user segment.Memory = Unit {0}
IsLoadUserError digest images user (segment.Image fault) = IsFaultOf digest user fault
IsLoadUserError digest images user (segment.Overlay fault) = IsImage digest user × (fault_of_images images.system (images.users ++ user ∷ []) ≡ Some fault)
IsLoadUserError digest images user fault = ⊥

-- why a segmenter does not add a user dictionary: another segmenter shares its dictionaries, or the
-- image is invalid or does not fit, or memory runs out
abbrev pub IsAddUserError : DigestTest → Images → List ℕ → SegmentFault → Type 0
IsAddUserError digest images user segment.Shared = Unit {0}
IsAddUserError digest images user fault = IsLoadUserError digest images user fault

-- why a user dictionary is not added to the others: the first error of the overlay, or memory runs
-- out
abbrev pub IsUserMisfit : List ℕ → List (List ℕ) → SegmentFault → Type 0
IsUserMisfit system users segment.Memory = Unit {0}
IsUserMisfit system users (segment.Overlay fault) = fault_of_images system users ≡ Some fault
IsUserMisfit system users fault = ⊥

-- why texts are not set as the format: they are invalid, or memory runs out
abbrev pub IsSetFormatError : FormatTexts → SegmentFault → Type 0
IsSetFormatError texts segment.Memory = Unit {0}
IsSetFormatError texts (segment.Format fault) = IsFormat texts (Err fault)
IsSetFormatError texts fault = ⊥

-- why a number is not set as the grouping: it is too great
abbrev pub IsGroupingError : ℕ → SegmentFault → Type 0
IsGroupingError grouping segment.BadGrouping = GROUPING_MAX < grouping
IsGroupingError grouping fault = ⊥

-- no text was segmented, and the error reports it
pub record IsNothingSegmented (h : SegmenterState) (fault : SegmentFault) : Type 0 where
  pub reported : fault ≡ segment.NothingSegmented
  pub none : h.segmented ≡ None

-- the last path has a word of this number
abbrev pub HasWord : SegmenterState → ℕ → Type 0
HasWord h i = IsSomeAnd h.segmented (λ (c : SegmentedLine). i < length c.words)

-- why the last path is not printed, or its lattice or features are not returned: there is no last
-- path, or memory runs out
abbrev pub IsLastLineError : SegmenterState → SegmentFault → Type 0
IsLastLineError h segment.Memory = IsSome h.segmented
IsLastLineError h segment.NothingSegmented = h.segmented ≡ None
IsLastLineError h fault = ⊥

-- why word `i` has no result: no text was segmented, or its path has no such word
abbrev pub IsWordError : SegmenterState → ℕ → SegmentFault → Type 0
IsWordError h i segment.NothingSegmented = h.segmented ≡ None
IsWordError h i (segment.NoWord n) = (n ≡ i) × IsSomeAnd h.segmented (λ (c : SegmentedLine). slice_get c.words i ≡ None)
IsWordError h i fault = ⊥

-- why the feature of word `i` is not appended: the word does not exist, or memory runs out for a
-- word that does
abbrev pub IsFeatureError : SegmenterState → ℕ → SegmentFault → Type 0
IsFeatureError h i segment.Memory = HasWord h i
IsFeatureError h i fault = IsWordError h i fault
