-- The effect of the calls that set a format or a grouping on a segmenter.
use Rattle.std.specs.Prelude.{◌≡◌, ℕ, List, [], ◌∷◌, slice_get, take, All, Some, None, IsUtf8}
use Rattle.std.specs.Str.{IsValidUpTo}
use Rattle.mj_model.specs.declared.format_fault.FormatFault.TheVariants as format
use Rattle.mj_model.specs.declared.format_fault.FormatPart.{FormatPart}
use Rattle.mj_model.specs.declared.format_fault.FormatPart.TheVariants.{Node, Unk, Bos, Eos}
use Rattle.line_segmenter.specs.Segmenters.{SegmenterState}
use Rattle.line_segmenter.specs.declared.fault.SegmentFault.{SegmentFault}
use Rattle.line_segmenter.specs.declared.fault.SegmentFault.TheVariants as segment
use Rattle.line_segmenter.specs.Faults.{IsSetFormatError}
use Rattle.capi.specs.declared.settings.Texts.{Texts}
use Rattle.out_format.specs.Formats.{FormatTexts, ReadsFormat}

-- the bytes are not UTF-8
abbrev pub IsNotUtf8 : List ℕ → SegmentFault → Type 0
IsNotUtf8 bytes segment.NotUtf8 = IsUtf8 bytes → ⊥
IsNotUtf8 bytes fault = ⊥

-- the texts of a format, with one for unknown words
abbrev pub texts_in : List ℕ → List ℕ → List ℕ → List ℕ → FormatTexts
texts_in node unk bos eos = record { node = node; unk = Some unk; bos = bos; eos = eos }

-- the format is the parse of these texts, and nothing else changed
pub record SetsFormat (texts : FormatTexts) (old new : SegmenterState) : Type 0 where
  pub reads : ReadsFormat texts new.format
  pub others : new ≡ record old { format = new.format }

-- the four texts are all UTF-8
abbrev pub AreUtf8 : List ℕ → List ℕ → List ℕ → List ℕ → Type 0
AreUtf8 node unk bos eos = IsUtf8 node × IsUtf8 unk × IsUtf8 bos × IsUtf8 eos

-- why texts are not set: one is not UTF-8, or they are not a valid format
abbrev pub IsSettingError : List ℕ → List ℕ → List ℕ → List ℕ → SegmentFault → Type 0
IsSettingError node unk bos eos segment.NotUtf8 = AreUtf8 node unk bos eos → ⊥
IsSettingError node unk bos eos fault = AreUtf8 node unk bos eos × IsSetFormatError (texts_in node unk bos eos) fault

-- the number of a format's text, in the order of the texts
abbrev pub part_number : FormatPart → ℕ
part_number Node = 0
part_number Unk = 1
part_number Bos = 2
part_number Eos = 3

-- the number of a format's text, and a byte offset in it
pub record FormatPlace : Type 0 where
  pub part : ℕ
  pub at : ℕ

-- the position in the outputs `part` and `at`
abbrev pub place_at : ℕ → ℕ → FormatPlace
place_at part at = record { part = part; at = at }

-- the text with this number is the first one that is not UTF-8, and its valid prefix ends at this
-- offset
pub record IsNoTextAt (texts : List (List ℕ)) (place : FormatPlace) : Type 0 where
  pub bytes : List ℕ
  pub there : slice_get texts place.part ≡ Some bytes
  pub up_to : IsValidUpTo bytes place.at
  pub before : All IsUtf8 (take place.part texts)

-- the position of an error in the four texts: number and offset; unchanged if the error has no
-- position
abbrev pub IsPlaceInTexts : List (List ℕ) → FormatPlace → FormatPlace → SegmentFault → Type 0
IsPlaceInTexts texts before place (segment.Format (format.Bad part at kind)) = place ≡ place_at (part_number part) at
IsPlaceInTexts texts before place segment.NotUtf8 = IsNoTextAt texts place
IsPlaceInTexts texts before place fault = place ≡ before

-- the four texts in their order
abbrev pub four : List ℕ → List ℕ → List ℕ → List ℕ → List (List ℕ)
four node unk bos eos = node ∷ unk ∷ bos ∷ eos ∷ []

-- the texts of a format, from borrowed bytes
abbrev pub borrowed_texts : Texts → FormatTexts
borrowed_texts t = texts_in t.node.now t.unk.now t.bos.now t.eos.now

-- the borrowed texts are all UTF-8
abbrev pub AreBorrowedUtf8 : Texts → Type 0
AreBorrowedUtf8 t = AreUtf8 t.node.now t.unk.now t.bos.now t.eos.now

-- why the borrowed texts are not set
abbrev pub IsErrorIn : Texts → SegmentFault → Type 0
IsErrorIn t fault = IsSettingError t.node.now t.unk.now t.bos.now t.eos.now fault

-- the position of an error in the borrowed texts
abbrev pub IsPlaceInBorrowed : Texts → FormatPlace → FormatPlace → SegmentFault → Type 0
IsPlaceInBorrowed t before place fault = IsPlaceInTexts (four t.node.now t.unk.now t.bos.now t.eos.now) before place fault

-- the grouping is set, and there is no last line
abbrev pub IsRegrouped : ℕ → SegmenterState → SegmenterState → Type 0
IsRegrouped grouping old new = new ≡ record old { grouping = grouping; segmented = None }
