-- The last line of a segmenter, as contracts describe it.
use Rattle.std.specs.Prelude.{ℕ, Bool, if◌then◌else◌, List, Option, Some, None}
use Rattle.std.specs.Borrow.{Bor}
use Rattle.mj_model.specs.declared.paths.path.Path.{Path}
use Rattle.line_segmenter.specs.Segmenters.{SegmentedLine}

-- a text with its path
abbrev pub segmented_line : List ℕ → Path → SegmentedLine
segmented_line text path = record { text = text; words = path.words.items; total = path.total }

-- the last line, if the flag is set
abbrev pub last_line_if : Bool → List ℕ → Path → Option SegmentedLine
last_line_if there text path = if there then Some (segmented_line text path) else None

-- the value of a borrowed text and path
abbrev pub borrowed_line : Bor (List ℕ) × Bor Path → SegmentedLine
borrowed_line borrowed = segmented_line borrowed.0.now borrowed.1.now

-- the value of a borrowed text and path, if there is one
abbrev pub borrowed_if : Option (Bor (List ℕ) × Bor Path) → Option SegmentedLine
borrowed_if None = None
borrowed_if (Some borrowed) = Some (borrowed_line borrowed)
