-- The rows of a file without an error: their lines rise, their costs have 16 bits, there are few
-- enough of them, and each line is accepted.
use Rattle.std.proofs.Common.{◌≡◌, ℕ, ◌+◌, ◌<◌, ◌≤◌, ◌^◌, Bool, true, false, cond, ◌&&◌, List, [], ◌∷◌, length, refl, sym, ap, subst, arith}
use Rattle.std.specs.Prelude.{ℤ, pos, neg_ℤ, int_le, Option, Some, None, Result, Ok, Err, nat_lt, option_and_then, option_map}
use Rattle.std.specs.List.{AllByRecursion, enumerate_from}
use Rattle.std.proofs.lemmas.Bool.{ltb-true}
use Rattle.std.proofs.lemmas.Int.{ints}
use Rattle.mj_model.specs.declared.limits.TheConstants.{ENTRIES_MAX}
use Rattle.mj_model.specs.declared.source_fault.SourceFault.{SourceFault}
use Rattle.mj_model.specs.declared.source_fault.SourceKind.TheVariants.{TooManyEntries}
use Rattle.mj_model.specs.Bounds.{IsWithin}
use Rattle.mj_model.specs.Lexicon.{Row, Parts, Outcome, Blank, Skipped, Rejected, Accepted, IsOutcome, AreOutcomes, row_from, first_rejected, accepted_rows, Reading, reading_unless, ReadsAs}
use Rattle.mj_model.specs.Lines.{source_lines}
use Rattle.mj_model.specs.Numbers.{number, context_id, cost}

-- ---- the row of a line's parts

abbrev HasCost : Option ℤ → Type 0
HasCost None = Unit {0}
HasCost (Some z) = IsWithin (2 ^ 15) z

in_range_by : (z : ℤ) (low high : Bool) → (low ≡ true → high ≡ true → IsWithin (2 ^ 15) z) → HasCost (cond (low && high) (Some z) None)
in_range_by z true true h = h refl refl
in_range_by z true false h = tt
in_range_by z false true h = tt
in_range_by z false false h = tt

in_range : (o : Option ℤ) → HasCost (option_and_then (λ z. cond (int_le (neg_ℤ (pos 32768)) z && int_le z (pos 32767)) (Some z) None) o)
in_range None = tt
in_range (Some z) = in_range_by z (int_le (neg_ℤ (pos 32768)) z) (int_le z (pos 32767)) (λ low high. (grind (arith, ints, low, high), grind (arith, ints, low, high)))

cost_fits : (text : List ℕ) → HasCost (cost text)
cost_fits text = in_range (number text)

-- a row of a line with this number
pub record IsRowOf (line : ℕ) (row : Row) : Type 0 where
  pub line_is : row.line ≡ line
  pub cost_fits : IsWithin (2 ^ 15) row.cost

abbrev pub OnRow : (Row → Type 0) → Option Row → Type 0
OnRow P None = Unit {0}
OnRow P (Some row) = P row

row_by : (line : ℕ) (parts : Parts) (left right : Option ℕ) (price : Option ℤ) → HasCost price
    → OnRow (IsRowOf line) (option_and_then (λ left. option_and_then (λ right. option_map (λ price.
    record { line = line; surface = parts.surface; left = left; right = right; cost = price; feature = parts.feature }) price) right) left)
row_by line parts None right price h = tt
row_by line parts (Some left) None price h = tt
row_by line parts (Some left) (Some right) None h = tt
row_by line parts (Some left) (Some right) (Some z) h = record { line_is = refl; cost_fits = h }

pub row_is : (line : ℕ) (parts : Parts) → OnRow (IsRowOf line) (row_from line parts)
row_is line parts = row_by line parts (context_id parts.left) (context_id parts.right) (cost parts.cost) (cost_fits parts.cost)

-- ---- the rows of outcomes

abbrev pub OnAccepted : (Row → Type 0) → Outcome → Type 0
OnAccepted P Blank = Unit {0}
OnAccepted P Skipped = Unit {0}
OnAccepted P (Rejected kind) = Unit {0}
OnAccepted P (Accepted row) = P row

-- the rows are on lines from this one on, each on a later line than the row before
abbrev pub LinesRise : ℕ → List Row → Type 0
LinesRise from [] = Unit {0}
LinesRise from (row ∷ rows) = (from ≤ row.line) × LinesRise (row.line + 1) rows

rise_later : (from later : ℕ) (rows : List Row) → from ≤ later → LinesRise later rows → LinesRise from rows
rise_later from later [] less h = tt
rise_later from later (row ∷ rows) less h = (omega (arith, less, h.0), h.1)

few_by : (b : Bool) (held : ℕ) (fault : SourceFault) (others : Option SourceFault) → nat_lt held ENTRIES_MAX ≡ b → cond b others (Some fault) ≡ None → (held < ENTRIES_MAX) × (others ≡ None)
few_by true held fault others e h = (ltb-true held ENTRIES_MAX e, h)
few_by false held fault others e h = absurd (cc)

few_rows : (file number held : ℕ) (os : List Outcome) → held ≤ ENTRIES_MAX → first_rejected file number held os ≡ None → held + length (accepted_rows os) ≤ ENTRIES_MAX
few_rows file number held [] low h = omega (arith, low)
few_rows file number held (Blank ∷ os) low h = few_rows file (number + 1) held os low h
few_rows file number held (Skipped ∷ os) low h = few_rows file (number + 1) held os low h
few_rows file number held (Rejected kind ∷ os) low h = absurd (cc)
few_rows file number held (Accepted row ∷ os) low h =
    let p = few_by (nat_lt held ENTRIES_MAX) held (record { file = file; line = number; kind = TooManyEntries }) (first_rejected file (number + 1) (held + 1) os) refl h in
    let rest = few_rows file (number + 1) (held + 1) os (omega (arith, p.0)) p.1 in
    omega (arith, rest)

-- rows that all have a property, after this many
pub record AreReadRows (Is : Row → Type 0) (held : ℕ) (rows : List Row) : Type 0 where
  pub each : AllByRecursion Is rows
  pub rise : LinesRise 1 rows
  pub few : held ≤ ENTRIES_MAX → held + length rows ≤ ENTRIES_MAX

abbrev rows_in : Result Reading SourceFault → List Row
rows_in (Ok lines) = lines.rows
rows_in (Err fault) = []

module _ (outcome_from : ℕ → Parts → Outcome) (Is : Row → Type 0) (judged : (number : ℕ) (parts : Parts) → OnAccepted (λ (row : Row). (row.line ≡ number) × Is row) (outcome_from number parts)) where
  outcome_has : (number : ℕ) (line : List ℕ) (o : Outcome) → IsOutcome outcome_from number line o → OnAccepted (λ (row : Row). (row.line ≡ number) × Is row) o
  outcome_has number line o (IsOutcome.is_blank b) = tt
  outcome_has number line o (IsOutcome.not_text b n) = tt
  outcome_has number line o (IsOutcome.too_few b u fields a few) = tt
  outcome_has number line o (IsOutcome.has_parts b u parts a) = judged number parts

  rows_have : (lines : List (ℕ × List ℕ)) (os : List Outcome) → AreOutcomes outcome_from lines os → AllByRecursion Is (accepted_rows os)
  rows_have [] [] h = tt
  rows_have [] (o ∷ os) h = absurd h
  rows_have (line ∷ lines) [] h = absurd h
  rows_have (line ∷ lines) (Blank ∷ os) h = rows_have lines os h.1
  rows_have (line ∷ lines) (Skipped ∷ os) h = rows_have lines os h.1
  rows_have (line ∷ lines) (Rejected kind ∷ os) h = rows_have lines os h.1
  rows_have (line ∷ lines) (Accepted row ∷ os) h = ((outcome_has line.0 line.1 (Accepted row) h.0).1, rows_have lines os h.1)

  rows_rise : (n : ℕ) (lines : List (List ℕ)) (os : List Outcome) → AreOutcomes outcome_from (enumerate_from n lines) os → LinesRise n (accepted_rows os)
  rows_rise n [] [] h = tt
  rows_rise n [] (o ∷ os) h = absurd h
  rows_rise n (line ∷ lines) [] h = absurd h
  rows_rise n (line ∷ lines) (Blank ∷ os) h = rise_later n (n + 1) (accepted_rows os) (omega arith) (rows_rise (n + 1) lines os h.1)
  rows_rise n (line ∷ lines) (Skipped ∷ os) h = rise_later n (n + 1) (accepted_rows os) (omega arith) (rows_rise (n + 1) lines os h.1)
  rows_rise n (line ∷ lines) (Rejected kind ∷ os) h = rise_later n (n + 1) (accepted_rows os) (omega arith) (rows_rise (n + 1) lines os h.1)
  rows_rise n (line ∷ lines) (Accepted row ∷ os) h =
      let is = (outcome_has n line (Accepted row) h.0).0 in
      (omega (arith, is), subst (λ m. LinesRise (m + 1) (accepted_rows os)) (sym is) (rows_rise (n + 1) lines os h.1))

  read_by : (file held : ℕ) (lines : Reading) (bytes : List ℕ) (os : List Outcome) (rejected : Option SourceFault) → AreOutcomes outcome_from (enumerate_from 1 (source_lines bytes)) os
      → first_rejected file 1 held os ≡ rejected → ◌≡◌ {A = Result Reading SourceFault} (Ok lines) (reading_unless rejected os) → AreReadRows Is held lines.rows
  read_by file held lines bytes os None are e h =
      subst (AreReadRows Is held) (sym (ap rows_in h)) (record {
        each = rows_have (enumerate_from 1 (source_lines bytes)) os are;
        rise = rows_rise 1 (source_lines bytes) os are;
        few = λ low. few_rows file 1 held os low e;
      })
  read_by file held lines bytes os (Some fault) are e h = absurd (cc)

  -- the rows of a file without an error
  pub rows_read : (file held : ℕ) (bytes : List ℕ) (lines : Reading) → ReadsAs outcome_from file held bytes (Ok lines) → AreReadRows Is held lines.rows
  rows_read file held bytes lines h = read_by file held lines bytes h.0 (first_rejected file 1 held h.0) h.1 refl h.2
