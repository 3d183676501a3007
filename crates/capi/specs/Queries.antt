-- Queries about the last line, and their results in a buffer.
use Rattle.std.specs.Prelude.{◌≡◌, ℕ, ◌<◌, List, ◌++◌, Bool, if◌then◌else◌, length, drop}
use Rattle.mj_model.specs.declared.word.Origin.{Origin}
use Rattle.mj_model.specs.declared.word.Origin.TheVariants.{Known, Unknown}
use Rattle.mj_model.specs.Printed.{feature_of}
use Rattle.line_segmenter.specs.Segmenters.{SegmenterState, OfLastLine, PrintsLastLine, overlay_of_state}
use Rattle.line_segmenter.specs.declared.fault.SegmentFault.{SegmentFault}
use Rattle.line_segmenter.specs.declared.fault.SegmentFault.TheVariants as segment
use Rattle.line_segmenter.specs.Faults.{IsLastLineError}
use Rattle.line_segmenter.specs.PathEnds.{features_of}
use Rattle.capi.specs.declared.fault.CallFault.{CallFault}
use Rattle.capi.specs.declared.fault.CallFault.TheVariants as call
use Rattle.capi.specs.declared.queries.Query.{Query}
use Rattle.capi.specs.declared.queries.Query.TheVariants.{Path, Features, EntryFeature}

-- the entry by its number, in the lexicon of a dictionary or among the unknown entries of the
-- system dictionary
abbrev pub entry_by : Bool → ℕ → ℕ → Origin
entry_by known dictionary token = if known then Known dictionary token else Unknown token

-- the bytes are the result of the query: the path in the format, all features, or the feature of an
-- entry
abbrev pub IsQueryResult : Query → SegmenterState → List ℕ → Type 0
IsQueryResult Path h bytes = OfLastLine h (λ c. PrintsLastLine h c bytes)
IsQueryResult Features h bytes = OfLastLine h (λ c. bytes ≡ features_of (overlay_of_state h) c.words)
IsQueryResult (EntryFeature origin) h bytes = bytes ≡ feature_of (overlay_of_state h) origin

-- why a query fails
abbrev pub IsQueryError : Query → SegmenterState → SegmentFault → Type 0
IsQueryError Path h fault = IsLastLineError h fault
IsQueryError Features h fault = IsLastLineError h fault
IsQueryError (EntryFeature origin) h fault = fault ≡ segment.Memory

-- the bytes are copied to the start of the buffer, and the remainder is unchanged
abbrev pub IsCopied : List ℕ → List ℕ → List ℕ → Type 0
IsCopied bytes old new = new ≡ bytes ++ drop (length bytes) old

-- a buffer of `room` bytes is too short for `needed` bytes
abbrev pub NeedsMore : ℕ → ℕ → CallFault → Type 0
NeedsMore needed room call.ShortBuffer = room < needed
NeedsMore needed room fault = ⊥
