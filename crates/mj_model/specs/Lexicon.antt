-- The lines of a lexicon: `surface,left id,right id,word cost,feature` (MeCab, dic-detail). The
-- feature is everything after the fourth comma, byte for byte.
use Rattle.std.specs.Prelude.{◌≡◌, ℕ, ◌+◌, ◌≤◌, ℤ, IsTrue, IsFalse, ◌==◌, nat_le, nat_lt, if◌then◌else◌, List, [], ◌∷◌, length, count_by, filter_map, map, Option, Some, None, option_and_then, option_map, Result, Ok, Err, IsUtf8, Bool, true, false, sum}
use Rattle.std.specs.Cow.{cow_str_bytes}
use Rattle.std.specs.List.{AllZip}
use Rattle.mj_model.specs.declared.limits.TheConstants.{SURFACE_MAX, ENTRIES_MAX}
use Rattle.mj_model.specs.declared.source_fault.SourceFault.{SourceFault}
use Rattle.mj_model.specs.declared.source_fault.SourceKind.{SourceKind}
use Rattle.mj_model.specs.declared.source_fault.SourceKind.TheVariants.{NotUtf8, TooFewFields, BadNumber, SurfaceTooLong, TooManyEntries}
use Rattle.mj_model.specs.declared.entry.Record.{Record}
use Rattle.mj_model.specs.Lines.{numbered_lines, is_blank_line}
use Rattle.mj_model.specs.Fields.{AreFields, AreFirstFields}
use Rattle.mj_model.specs.Numbers.{context_id, cost}

-- an accepted line: the contents of a record
pub record Row : Type 0 where
  pub line : ℕ
  pub surface : List ℕ
  pub left : ℕ
  pub right : ℕ
  pub cost : ℤ
  pub feature : List ℕ

abbrev pub row_of : Record → Row
row_of r = record { line = r.line; surface = cow_str_bytes r.surface; left = r.entry.left; right = r.entry.right; cost = r.entry.cost; feature = r.entry.feature.now }

abbrev pub rows_of : List Record → List Row
rows_of = map row_of

-- the first four fields of a line, and the remainder
pub record Parts : Type 0 where
  pub surface : List ℕ
  pub left : List ℕ
  pub right : List ℕ
  pub cost : List ℕ
  pub feature : List ℕ

-- the row of a line's parts, if its numbers are in range
abbrev pub row_from : ℕ → Parts → Option Row
row_from line parts =
    option_and_then (λ left. option_and_then (λ right. option_map (λ price.
    record { line = line; surface = parts.surface; left = left; right = right; cost = price; feature = parts.feature })
    (cost parts.cost)) (context_id parts.right)) (context_id parts.left)

-- the outcome of a line: blank and ignored; skipped and counted because its surface is empty;
-- rejected; or accepted
pub data Outcome : Type 0 where
  Blank : Outcome
  Skipped : Outcome
  Rejected : SourceKind → Outcome
  Accepted : Row → Outcome

abbrev pub accept_short : Option Row → Outcome
accept_short None = Rejected BadNumber
accept_short (Some row) = if nat_le (length row.surface) SURFACE_MAX then Accepted row else Rejected SurfaceTooLong

-- the outcome of a lexicon line with four fields and a remainder
abbrev pub lexicon_outcome : ℕ → Parts → Outcome
lexicon_outcome line parts = if length parts.surface == 0 then Skipped else accept_short (row_from line parts)

-- the outcome of a numbered line, if `outcome_from` maps its parts to an outcome
pub data IsOutcome (outcome_from : ℕ → Parts → Outcome) (number : ℕ) (line : List ℕ) : Outcome → Type 0 where
  is_blank : IsTrue (is_blank_line line) → IsOutcome outcome_from number line Blank
  not_text : IsFalse (is_blank_line line) → (IsUtf8 line → ⊥) → IsOutcome outcome_from number line (Rejected NotUtf8)
  too_few : IsFalse (is_blank_line line) → IsUtf8 line → (fields : List (List ℕ)) → AreFields line fields → length fields ≤ 4 → IsOutcome outcome_from number line (Rejected TooFewFields)
  has_parts : IsFalse (is_blank_line line) → IsUtf8 line → (parts : Parts)
      → AreFirstFields line (parts.surface ∷ parts.left ∷ parts.right ∷ parts.cost ∷ []) parts.feature → IsOutcome outcome_from number line (outcome_from number parts)

-- the outcomes of numbered lines, one after another
abbrev pub AreOutcomes : (ℕ → Parts → Outcome) → List (ℕ × List ℕ) → List Outcome → Type 0
AreOutcomes outcome_from [] [] = Unit {0}
AreOutcomes outcome_from [] (o ∷ os) = ⊥
AreOutcomes outcome_from (line ∷ lines) [] = ⊥
AreOutcomes outcome_from (line ∷ lines) (o ∷ os) = IsOutcome outcome_from line.0 line.1 o × AreOutcomes outcome_from lines os

-- the error of the first rejected line of a file, with lines counted from `number` on and `held`
-- earlier entries; an entry above the limit is rejected
abbrev pub first_rejected : ℕ → ℕ → ℕ → List Outcome → Option SourceFault
first_rejected file number held [] = None
first_rejected file number held (Blank ∷ more) = first_rejected file (number + 1) held more
first_rejected file number held (Skipped ∷ more) = first_rejected file (number + 1) held more
first_rejected file number held (Rejected kind ∷ more) = Some (record { file = file; line = number; kind = kind })
first_rejected file number held (Accepted row ∷ more) =
    if nat_lt held ENTRIES_MAX
    then first_rejected file (number + 1) (held + 1) more
    else Some (record { file = file; line = number; kind = TooManyEntries })

abbrev pub accepted_row : Outcome → Option Row
accepted_row Blank = None
accepted_row Skipped = None
accepted_row (Rejected kind) = None
accepted_row (Accepted row) = Some row

abbrev pub accepted_rows : List Outcome → List Row
accepted_rows outcomes = filter_map accepted_row outcomes

abbrev pub is_skipped : Outcome → Bool
is_skipped Blank = false
is_skipped Skipped = true
is_skipped (Rejected kind) = false
is_skipped (Accepted row) = false

-- the contents of a file: its accepted lines, and how many were skipped
pub record Reading : Type 0 where
  pub rows : List Row
  pub skipped : ℕ

abbrev pub reading_unless : Option SourceFault → List Outcome → Result Reading SourceFault
reading_unless None outcomes = Ok (record { rows = accepted_rows outcomes; skipped = count_by is_skipped outcomes })
reading_unless (Some fault) outcomes = Err fault

-- the reading of file number `file` after `held` earlier entries: its contents, or its first error
abbrev pub ReadsAs : (ℕ → Parts → Outcome) → ℕ → ℕ → List ℕ → Result Reading SourceFault → Type 0
ReadsAs outcome_from file held bytes reading =
    (outcomes : List Outcome) × AreOutcomes outcome_from (numbered_lines bytes) outcomes × (reading ≡ reading_unless (first_rejected file 1 held outcomes) outcomes)

-- the reading of a lexicon
abbrev pub IsLexicon : ℕ → ℕ → List ℕ → Result Reading SourceFault → Type 0
IsLexicon file held bytes reading = ReadsAs lexicon_outcome file held bytes reading

-- each lexicon has exactly one reading
abbrev pub HasOneReading : Type 0
HasOneReading = (file held : ℕ) (bytes : List ℕ) → (reading : Result Reading SourceFault) × IsLexicon file held bytes reading
    × ((other : Result Reading SourceFault) → IsLexicon file held bytes other → other ≡ reading)

-- ---- the number of skipped lines

-- the number of lines that a lexicon skips
abbrev pub SkipsLines : List ℕ → ℕ → Type 0
SkipsLines bytes skipped =
    (outcomes : List Outcome) × AreOutcomes lexicon_outcome (numbered_lines bytes) outcomes × (skipped ≡ count_by is_skipped outcomes)

-- the number of lines that all lexicons skip together
abbrev pub SkipLines : List (List ℕ) → ℕ → Type 0
SkipLines lexicons skipped = (counts : List ℕ) × AllZip SkipsLines lexicons counts × (skipped ≡ sum counts)
