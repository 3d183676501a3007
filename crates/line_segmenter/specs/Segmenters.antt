-- The state of a segmenter, and the meaning of its last line.
use Rattle.std.specs.Prelude.{◌≡◌, ℕ, ℤ, ◌+◌, ◌<◌, ◌≤◌, List, ◌∷◌, [], ◌++◌, length, map, Option, Some, None, slice_get, IsUtf8}
use Rattle.std.specs.Option.{IsSomeAnd}
use Rattle.image_format.specs.ImageMeaning.{image_tables}
use Rattle.lattice.specs.declared.marking.MarkedLattice.{MarkedLattice}
use Rattle.lattice.specs.TextOver.{IsMarkedOver}
use Rattle.mj_model.specs.declared.limits.TheConstants.{GROUPING_DEFAULT, GROUPING_MAX, SENTENCE_MAX}
use Rattle.mj_model.specs.declared.word.Word.{Word}
use Rattle.mj_model.specs.Printed.{feature_of}
use Rattle.mj_model.specs.Tables.{Overlay}
use Rattle.out_format.specs.Formats.{Format, ReadsFormat}
use Rattle.out_format.specs.PrintedPaths.{PrintsPath, first_category}
use Rattle.out_format.specs.Texts.{default_texts}
use Rattle.mj_model.specs.BestOver.{IsBestPathOver, cost_over}
use Rattle.mj_model.specs.Blanks.{chars_from}
use Rattle.word_lookup.specs.Fitting.{IsOverlay}
use Rattle.word_lookup.specs.Overlays.{fault_of_images}

-- the images of a system dictionary and of user dictionaries, in the order in which these were
-- added
pub record Images : Type 0 where
  pub system : List ℕ
  pub users : List (List ℕ)

-- the user dictionaries fit the system dictionary: the overlay has no error, and meets the search's
-- precondition
pub record FitOver (system : List ℕ) (users : List (List ℕ)) : Type 0 where
  pub no_fault : fault_of_images system users ≡ None
  pub fitting : IsOverlay (image_tables system) (map image_tables users)

-- a text that was segmented: the words of its best path, and the cost of the path
pub record SegmentedLine : Type 0 where
  pub text : List ℕ
  pub words : List Word
  pub total : ℤ

-- the state of a segmenter: the images of its dictionaries, the grouping (how many characters may
-- follow the first one of a grouped word), the format, and the last line, if there is one
pub record SegmenterState : Type 0 where
  pub images : Images
  pub grouping : ℕ
  pub format : Format
  pub segmented : Option SegmentedLine

-- the overlay of the images, with this grouping
abbrev pub overlay_with : Images → ℕ → Overlay
overlay_with images grouping = record { system = image_tables images.system; users = map image_tables images.users; grouping = grouping }

-- the overlay of the images, with this grouping; proofs don't unfold it
unfoldable pub overlay_in : Images → ℕ → Overlay
overlay_in images grouping = overlay_with images grouping

-- the overlay that a segmenter uses
abbrev pub overlay_of_state : SegmenterState → Overlay
overlay_of_state held = overlay_in held.images held.grouping

-- the images with a further user dictionary
abbrev pub with_user : Images → List ℕ → Images
with_user images user = record { system = images.system; users = images.users ++ user ∷ [] }

-- the segmenter with a further user dictionary, and without a last line
abbrev pub with_added : SegmenterState → List ℕ → SegmenterState
with_added h user = record h { images = with_user h.images user; segmented = None }

-- the overlay of the images has no error
abbrev pub FitTogether : Images → Type 0
FitTogether images = fault_of_images images.system images.users ≡ None

-- the text is valid, the words are its best path, and the total is the cost of the path
pub record IsSegmentedOver (o : Overlay) (c : SegmentedLine) : Type 0 where
  pub short : length c.text ≤ SENTENCE_MAX
  pub is_utf8 : IsUtf8 c.text
  pub best : IsBestPathOver o c.text c.words
  pub total_is : c.total ≡ cost_over o c.words

-- the last line, if there is one, was segmented with this overlay
abbrev pub IsLastOver : Overlay → Option SegmentedLine → Type 0
IsLastOver o None = Unit {0}
IsLastOver o (Some c) = IsSegmentedOver o c

-- the invariant of a segmenter
pub record IsSegmenterState (h : SegmenterState) : Type 0 where
  pub low : h.grouping ≤ GROUPING_MAX
  pub last : IsLastOver (overlay_of_state h) h.segmented

-- a segmenter with these images, the default grouping and format, and no last line
pub record IsNew (over : Images) (h : SegmenterState) : Type 0 where
  pub images : h.images ≡ over
  pub grouping : h.grouping ≡ GROUPING_DEFAULT
  pub format : ReadsFormat default_texts h.format
  pub segmented : h.segmented ≡ None

-- a new segmenter with the image of a system dictionary alone
abbrev pub IsLoaded : List ℕ → SegmenterState → Type 0
IsLoaded image = IsNew (record { system = image; users = [] })

-- there is a last line, segmented with the segmenter's dictionaries, and `Is` holds for it
abbrev pub OfLastLine : SegmenterState → (SegmentedLine → Type 0) → Type 0
OfLastLine h Is = IsSomeAnd h.segmented (λ c. IsSegmentedOver (overlay_of_state h) c × Is c)

-- `shown` is the output of the last path in the segmenter's format
abbrev pub PrintsLastLine : SegmenterState → SegmentedLine → List ℕ → Type 0
PrintsLastLine h c shown = PrintsPath (overlay_of_state h) h.format c.text c.words shown

-- the lattice of the last line, with the words of the path marked
abbrev pub IsLatticeOfLastLine : SegmenterState → MarkedLattice → SegmentedLine → Type 0
IsLatticeOfLastLine h lattice c = IsMarkedOver (overlay_of_state h) c.text c.words lattice

-- the output grows by the feature of word `i`
abbrev pub GrowsByFeature : SegmenterState → ℕ → List ℕ → List ℕ → SegmentedLine → Type 0
GrowsByFeature h i old new c = IsSomeAnd (slice_get c.words i) (λ (w : Word). new ≡ old ++ feature_of (overlay_of_state h) w.origin)

-- an output with `count` bytes has no capacity for these bytes
abbrev pub ExceedsCapacity : ℕ → ℕ → List ℕ → Type 0
ExceedsCapacity capacity count bytes = capacity < count + length bytes

-- an output with `count` bytes has no capacity for the feature of word `i`
abbrev pub FeatureExceedsCapacity : SegmenterState → ℕ → ℕ → ℕ → SegmentedLine → Type 0
FeatureExceedsCapacity h i capacity count c = IsSomeAnd (slice_get c.words i) (λ (w : Word). ExceedsCapacity capacity count (feature_of (overlay_of_state h) w.origin))

-- the first category of the character that starts at this position
abbrev pub first_category_at : Overlay → List ℕ → ℕ → ℕ
first_category_at o text place = first_category o (chars_from text place)

-- the first category of the first character of word `i`
abbrev pub HasCategory : SegmenterState → ℕ → ℕ → SegmentedLine → Type 0
HasCategory h i category c = IsSomeAnd (slice_get c.words i) (λ (w : Word). category ≡ first_category_at (overlay_of_state h) c.text w.start)
