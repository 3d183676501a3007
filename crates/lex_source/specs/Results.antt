-- The results of the readers of lines and lexicons.
use Rattle.std.specs.Prelude.{◌≡◌, ◌⊎◌, ℕ, Bool, false, ◌==◌, List, [], ◌++◌, length, slice_get, is_some, unwrap_or, IsTrue, Option, Some, None, Result, Ok, Err, MatchOption, MatchResult}
use Rattle.std.specs.Borrow.{Bor}
use Rattle.std.specs.List.{list_any}
use Rattle.mj_model.specs.declared.entry.Record.{Record}
use Rattle.mj_model.specs.declared.source_fault.SourceFault.{SourceFault}
use Rattle.mj_model.specs.declared.source_fault.SourceKind.{SourceKind}
use Rattle.mj_model.specs.declared.source_fault.SourceKind.TheVariants.{Memory, BadNumber}
use Rattle.mj_model.specs.Fields.{AreFields}
use Rattle.mj_model.specs.FirstFault.{IsMemoryOr}
use Rattle.mj_model.specs.Lexicon.{Row, Parts, Outcome, Rejected, Accepted, IsOutcome, IsLexicon, lexicon_outcome, row_of, rows_of}
use Rattle.mj_model.specs.Lines.{is_blank_line}
use Rattle.lex_source.specs.declared.outcome.LineOutcome.{LineOutcome}
use Rattle.lex_source.specs.declared.parts.LineParts.{LineParts}
use Rattle.lex_source.specs.declared.raw_field.RawField.{RawField}
use Rattle.lex_source.specs.Splits.{IsSplit}
use Rattle.lex_source.specs.Spelled.{HasEntry, IsFieldAt}
use Rattle.lex_source.specs.Steps.{IsReadLine, IsRejectedLine, outcome_of, record_outcome, row_outcome}

-- the bytes before and after the first occurrence of a byte, if there is one
abbrev pub IsSplitAt : ℕ → List ℕ → Option (Bor (List ℕ) × Bor (List ℕ)) → Type 0
IsSplitAt byte bytes cut =
    MatchOption cut (list_any (λ c. c == byte) bytes ≡ false) (λ parts. IsSplit (λ c. c == byte) bytes parts.0.now parts.1.now)

-- ---- fields

-- field n of a text, if it exists
abbrev pub IsField : List ℕ → ℕ → Option (List ℕ) → Type 0
IsField text n found = (fields : List (List ℕ)) × AreFields text fields × (found ≡ slice_get fields n)

-- field n of a text is appended to an output, if it exists
abbrev pub GrowsByField : List ℕ → ℕ → Bool → List ℕ → List ℕ → Type 0
GrowsByField text n found old new =
    (fields : List (List ℕ)) × AreFields text fields × (found ≡ is_some (slice_get fields n)) × (new ≡ old ++ unwrap_or (slice_get fields n) [])

-- the field that was found is appended to an output, for any text and number that it is found for
abbrev pub GrowsByFound : Option RawField → Bool → List ℕ → List ℕ → Type 0
GrowsByFound found there old new = (text : List ℕ) (n : ℕ) → IsFieldAt text n found → GrowsByField text n there old new

-- ---- lines

-- the error is a failed allocation, or it has this cause
abbrev pub IsOrMemory : SourceKind → Type 0 → Type 0
IsOrMemory kind Cause = (kind ≡ Memory) ⊎ Cause

-- the outcome of a line
abbrev pub IsLineResult : ℕ → List ℕ → Result LineOutcome SourceKind → Type 0
IsLineResult number line outcome =
    MatchResult outcome (λ read. IsOutcome lexicon_outcome number line (outcome_of read))
    (λ kind. IsOrMemory kind (IsOutcome lexicon_outcome number line (Rejected kind)))

-- the record of a line with any surface
abbrev pub IsRecordResult : ℕ → List ℕ → Result (Option Record) SourceKind → Type 0
IsRecordResult number line outcome =
    MatchResult outcome (λ found. IsOutcome row_outcome number line (record_outcome found))
    (λ kind. IsOrMemory kind (IsOutcome row_outcome number line (Rejected kind)))

-- the record that an outcome accepts
abbrev pub IsAcceptedRecord : Outcome → Result Record SourceKind → Type 0
IsAcceptedRecord outcome returned =
    MatchResult returned (λ made. outcome ≡ Accepted (row_of made)) (λ kind. IsOrMemory kind (outcome ≡ Rejected kind))

-- the row, or an error because one of its numbers is invalid
abbrev pub IsRowResult : Option Row → Result Record SourceKind → Type 0
IsRowResult row outcome =
    MatchResult outcome (λ made. row ≡ Some (row_of made)) (λ kind. IsOrMemory kind ((kind ≡ BadNumber) × (row ≡ None)))

-- the parts of a line, None if it is blank, or an error with which every reader of such lines
-- rejects it
abbrev pub IsPartsResult : List ℕ → Result (Option LineParts) SourceKind → Type 0
IsPartsResult line outcome =
    MatchResult outcome (λ found. MatchOption found (IsTrue (is_blank_line line)) (HasEntry line))
    (λ kind. (outcome_from : ℕ → Parts → Outcome) (number : ℕ) → IsOutcome outcome_from number line (Rejected kind))

-- ---- lexicons

-- the records of an accepted or ignored line were appended
abbrev pub AppendsLine : ℕ → List ℕ → List Record → List Record → Bool → Type 0
AppendsLine number line old new counts =
    (more : List Record) × (new ≡ old ++ more) × IsReadLine lexicon_outcome number line (length old) counts (rows_of more)

-- the records of a lexicon were appended
abbrev pub AppendsLexicon : ℕ → List ℕ → List Record → List Record → ℕ → Type 0
AppendsLexicon file bytes old new skipped =
    (rows : List Row) × IsLexicon file (length old) bytes (Ok (record { rows = rows; skipped = skipped })) × (rows_of new ≡ rows_of old ++ rows)

-- the records of a lexicon were appended, or the lexicon is rejected with its first error
abbrev pub IsLexiconResult : ℕ → List ℕ → List Record → List Record → Result ℕ SourceFault → Type 0
IsLexiconResult file bytes old new outcome =
    MatchResult outcome (AppendsLexicon file bytes old new)
    (λ fault. IsMemoryOr fault (IsLexicon file (length old) bytes (Err fault)))

-- the error of a line, after `held` entries
abbrev pub IsLineError : ℕ → List ℕ → ℕ → SourceKind → Type 0
IsLineError number line held kind = IsOrMemory kind (IsRejectedLine lexicon_outcome number line held kind)
