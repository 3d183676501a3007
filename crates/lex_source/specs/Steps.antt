-- Reading of a lexicon or of `unk.def`, line by line.
use Rattle.std.specs.Prelude.{◌≡◌, ℕ, ◌+◌, Bool, List, [], ◌∷◌, ◌++◌, length, count_by, Option, Some, None}
use Rattle.std.specs.List.{enumerate_from}
use Rattle.mj_model.specs.declared.entry.Record.{Record}
use Rattle.mj_model.specs.declared.source_fault.SourceKind.{SourceKind}
use Rattle.mj_model.specs.declared.source_fault.SourceKind.TheVariants.{BadNumber}
use Rattle.mj_model.specs.Lexicon.{Row, row_of, row_from, rows_of, Parts, Outcome, Blank, Skipped, Rejected, Accepted, lexicon_outcome, IsOutcome, AreOutcomes, first_rejected, accepted_rows, is_skipped}
use Rattle.lex_source.specs.declared.outcome.LineOutcome.{LineOutcome}
use Rattle.lex_source.specs.declared.outcome.LineOutcome.TheVariants as line
use Rattle.lex_source.specs.declared.outcome.IdsAndCost.{IdsAndCost}

-- the outcome of a line, as the definition has it
abbrev pub outcome_of : LineOutcome → Outcome
outcome_of line.Blank = Blank
outcome_of line.Skipped = Skipped
outcome_of (line.Accepted record') = Accepted (row_of record')

-- the outcome of a line whose parts form this row, if any surface is accepted
abbrev pub accept_any : Option Row → Outcome
accept_any None = Rejected BadNumber
accept_any (Some row) = Accepted row

abbrev pub row_outcome : ℕ → Parts → Outcome
row_outcome number parts = accept_any (row_from number parts)

-- the outcome of a line with this record; without a record it is blank
abbrev pub record_outcome : Option Record → Outcome
record_outcome None = Blank
record_outcome (Some made) = Accepted (row_of made)

-- the row of a line's parts with these numbers
abbrev pub row_with : ℕ → Parts → IdsAndCost → Row
row_with number parts n = record { line = number; surface = parts.surface; left = n.left; right = n.right; cost = n.cost; feature = parts.feature }

-- after `held` entries a line is not rejected, and it adds these rows
pub record IsReadLine (outcome_from : ℕ → Parts → Outcome) (number : ℕ) (text : List ℕ) (held : ℕ) (skipped : Bool) (rows : List Row) : Type 0 where
  pub outcome : Outcome
  pub is : IsOutcome outcome_from number text outcome
  pub fits : (file : ℕ) → first_rejected file number held (outcome ∷ []) ≡ None
  pub appended : rows ≡ accepted_rows (outcome ∷ [])
  pub counted : skipped ≡ is_skipped outcome

-- after `held` entries a line is rejected for this reason
pub record IsRejectedLine (outcome_from : ℕ → Parts → Outcome) (number : ℕ) (text : List ℕ) (held : ℕ) (kind : SourceKind) : Type 0 where
  pub outcome : Outcome
  pub is : IsOutcome outcome_from number text outcome
  pub rejected : (file : ℕ) → first_rejected file number held (outcome ∷ []) ≡ Some (record { file = file; line = number; kind = kind })

-- the lines before `left` are not rejected, and they add these rows
pub record IsReadUpTo (outcome_from : ℕ → Parts → Outcome) (held : ℕ) (all left : List (ℕ × List ℕ)) (rows : List Row) (skipped : ℕ) : Type 0 where
  pub lines : List (ℕ × List ℕ)
  pub outcomes : List Outcome
  pub parts : all ≡ lines ++ left
  pub are : AreOutcomes outcome_from lines outcomes
  pub none : (file : ℕ) → first_rejected file 1 held outcomes ≡ None
  pub rows_are : rows ≡ accepted_rows outcomes
  pub skipped_are : skipped ≡ count_by is_skipped outcomes
  pub rest : List (List ℕ)
  pub numbers : left ≡ enumerate_from (1 + length outcomes) rest

-- the records of the lines before `left` were appended
pub record HasRead (old now : List Record) (all left : List (ℕ × List ℕ)) (skipped : ℕ) : Type 0 where
  pub more : List Record
  pub appended : now ≡ old ++ more
  pub read : IsReadUpTo lexicon_outcome (length old) all left (rows_of more) skipped
