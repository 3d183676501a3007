-- Reading of a lexicon line by line: each line has an outcome, and reading a line extends the lines
-- read so far by one.
use Rattle.std.proofs.Common.{◌≡◌, ℕ, suc, ◌+◌, ◌<◌, Bool, false, cond, ltb, List, [], ◌∷◌, ◌++◌, length, refl, sym, ◌∙◌, ap, subst, arith, Option, Some, None, inl, inr, length-append, append_assoc}
use Rattle.std.specs.Prelude.{count_by, Ok, Err}
use Rattle.std.specs.List.{enumerate_from}
use Rattle.std.specs.Str.{IsUtf8, is_utf8}
use Rattle.std.proofs.lemmas.Bool.{cases_Bool, cond-true, cond-false, both_ways}
use Rattle.std.proofs.lemmas.List.{append-nil}
use Rattle.std.proofs.lemmas.List.Elements.{filter_map-append}
use Rattle.std.proofs.lemmas.List.Sums.{sum_by_push, count_by-le-length}
use Rattle.std.proofs.lemmas.Str.{IsUtf8-from_is_utf8, is_utf8-from_IsUtf8}
use Rattle.mj_model.specs.declared.limits.TheConstants.{ENTRIES_MAX}
use Rattle.mj_model.specs.declared.source_fault.SourceFault.{SourceFault}
use Rattle.mj_model.specs.declared.source_fault.SourceKind.{SourceKind}
use Rattle.mj_model.specs.declared.source_fault.SourceKind.TheVariants.{NotUtf8, TooFewFields, TooManyEntries}
use Rattle.mj_model.specs.Lines.{is_blank_line, numbered_lines, source_lines}
use Rattle.mj_model.specs.Fields.{AreFields, without_leading_blanks}
use Rattle.mj_model.specs.Lexicon.{Row, Parts, Outcome, Blank, Skipped, Rejected, Accepted, IsOutcome, is_blank, not_text, too_few, has_parts, AreOutcomes, first_rejected, accepted_row, accepted_rows, is_skipped, reading_unless, ReadsAs, Reading}
use Rattle.mj_model.proofs.FieldLemmas.{a_field}
use Rattle.lex_source.specs.Steps.{IsReadLine, IsRejectedLine, IsReadUpTo}
use Rattle.lex_source.proofs.FieldsLemmas.{fields_from}

-- ---- each line has an outcome

of_fields : (outcome_from : ℕ → Parts → Outcome) (number : ℕ) (line : List ℕ) (fields : List (List ℕ)) → is_blank_line line ≡ false → IsUtf8 line → AreFields line fields → (o : Outcome) × IsOutcome outcome_from number line o
of_fields outcome_from number line [] some utf8 are = absurd are
of_fields outcome_from number line (a ∷ []) some utf8 are = (Rejected TooFewFields, too_few some utf8 (a ∷ []) are (omega arith))
of_fields outcome_from number line (a ∷ b ∷ []) some utf8 are = (Rejected TooFewFields, too_few some utf8 (a ∷ b ∷ []) are (omega arith))
of_fields outcome_from number line (a ∷ b ∷ c ∷ []) some utf8 are = (Rejected TooFewFields, too_few some utf8 (a ∷ b ∷ c ∷ []) are (omega arith))
of_fields outcome_from number line (a ∷ b ∷ c ∷ d ∷ []) some utf8 are = (Rejected TooFewFields, too_few some utf8 (a ∷ b ∷ c ∷ d ∷ []) are (omega arith))
of_fields outcome_from number line (a ∷ b ∷ c ∷ d ∷ e ∷ more) some utf8 are =
    let two = are.2 in
    let three = two.2 in
    let four = three.2 in
    let parts : Parts = record { surface = a; left = b; right = c; cost = d; feature = four.0 } in
    (outcome_from number parts, has_parts some utf8 parts (are.0, are.1, (two.0, two.1, (three.0, three.1, (four.0, four.1, refl)))))

an_outcome : (outcome_from : ℕ → Parts → Outcome) (number : ℕ) (line : List ℕ) → (o : Outcome) × IsOutcome outcome_from number line o
an_outcome outcome_from number line = elim (cases_Bool (is_blank_line line)) [
  | inl blank ↦ (Blank, is_blank blank)
  | inr some ↦ elim (cases_Bool (is_utf8 line)) [
    | inl text ↦
        let f = a_field (without_leading_blanks line) in
        let more = fields_from line f.0 f.1 f.2 in of_fields outcome_from number line (f.0 ∷ more.0) some (IsUtf8-from_is_utf8 line text) more.1
    | inr no_text ↦ (Rejected NotUtf8, not_text some (λ utf8. both_ways (is_utf8 line) no_text (is_utf8-from_IsUtf8 line utf8)))
  ]
]

later_outcomes : (outcome_from : ℕ → Parts → Outcome) (lines : List (ℕ × List ℕ)) → (os : List Outcome) × AreOutcomes outcome_from lines os
later_outcomes outcome_from [] = ([], tt)
later_outcomes outcome_from (line ∷ lines) =
    let o = an_outcome outcome_from line.0 line.1 in
    let more = later_outcomes outcome_from lines in
    (o.0 ∷ more.0, (o.1, more.1))

-- ---- outcomes one after another

outcomes-append : (outcome_from : ℕ → Parts → Outcome) (xs ys : List (ℕ × List ℕ)) (os ps : List Outcome) → AreOutcomes outcome_from xs os → AreOutcomes outcome_from ys ps → AreOutcomes outcome_from (xs ++ ys) (os ++ ps)
outcomes-append outcome_from [] ys [] ps a b = b
outcomes-append outcome_from [] ys (o ∷ os) ps a b = absurd a
outcomes-append outcome_from (x ∷ xs) ys [] ps a b = absurd a
outcomes-append outcome_from (x ∷ xs) ys (o ∷ os) ps a b = (a.0, outcomes-append outcome_from xs ys os ps a.1 b)

-- if none of these is rejected, the first rejected line is among the following ones
rejected-append : (file number held : ℕ) (os ps : List Outcome) → first_rejected file number held os ≡ None
    → first_rejected file number held (os ++ ps) ≡ first_rejected file (number + length os) (held + length (accepted_rows os)) ps
rejected-append file number held [] ps none =
    ap (λ (n : ℕ). first_rejected file n held ps) (let e : number ≡ number + 0 = omega arith in e) ∙ ap (λ (n : ℕ). first_rejected file (number + 0) n ps) (let e : held ≡ held + 0 = omega arith in e)
rejected-append file number held (Blank ∷ os) ps none =
    rejected-append file (number + 1) held os ps none ∙ ap (λ (n : ℕ). first_rejected file n (held + length (accepted_rows os)) ps) (let e : number + 1 + length os ≡ number + length (Blank ∷ os) = omega arith in e)
rejected-append file number held (Skipped ∷ os) ps none =
    rejected-append file (number + 1) held os ps none ∙ ap (λ (n : ℕ). first_rejected file n (held + length (accepted_rows os)) ps) (let e : number + 1 + length os ≡ number + length (Skipped ∷ os) = omega arith in e)
rejected-append file number held (Rejected kind ∷ os) ps none = absurd (cc)
rejected-append file number held (Accepted row ∷ os) ps none =
    let there : Option SourceFault = Some (record { file = file; line = number; kind = TooManyEntries }) in
    elim (cases_Bool (ltb held ENTRIES_MAX)) [
      | inl fits ↦
          let rest : first_rejected file (number + 1) (held + 1) os ≡ None = sym (cond-true (ltb held ENTRIES_MAX) (first_rejected file (number + 1) (held + 1) os) there fits) ∙ none in
          cond-true (ltb held ENTRIES_MAX) (first_rejected file (number + 1) (held + 1) (os ++ ps)) there fits
          ∙ rejected-append file (number + 1) (held + 1) os ps rest
          ∙ ap (λ (n : ℕ). first_rejected file n (held + 1 + length (accepted_rows os)) ps) (let e : number + 1 + length os ≡ number + length (Accepted row ∷ os) = omega arith in e)
          ∙ ap (λ (n : ℕ). first_rejected file (number + length (Accepted row ∷ os)) n ps) (let e : held + 1 + length (accepted_rows os) ≡ held + suc (length (accepted_rows os)) = omega arith in e)
      | inr full ↦
          let e : there ≡ None = sym (cond-false (ltb held ENTRIES_MAX) (first_rejected file (number + 1) (held + 1) os) there full) ∙ none in
          absurd (cc)
    ]

-- a rejected line is rejected whatever follows it
rejected_first : (file number held : ℕ) (o : Outcome) (ps : List Outcome) (fault : SourceFault) → first_rejected file number held (o ∷ []) ≡ Some fault → first_rejected file number held (o ∷ ps) ≡ Some fault
rejected_first file number held Blank ps fault is = absurd (cc)
rejected_first file number held Skipped ps fault is = absurd (cc)
rejected_first file number held (Rejected kind) ps fault is = is
rejected_first file number held (Accepted row) ps fault is =
    let there : Option SourceFault = Some (record { file = file; line = number; kind = TooManyEntries }) in
    elim (cases_Bool (ltb held ENTRIES_MAX)) [
      | inl fits ↦ let e : None ≡ Some fault = sym (cond-true (ltb held ENTRIES_MAX) None there fits) ∙ is in absurd (cc)
      | inr full ↦
          cond-false (ltb held ENTRIES_MAX) (first_rejected file (number + 1) (held + 1) ps) there full
          ∙ sym (cond-false (ltb held ENTRIES_MAX) None there full) ∙ is
    ]

-- ---- the lines read so far

pub read_none : (outcome_from : ℕ → Parts → Outcome) (held : ℕ) (bytes : List ℕ) → IsReadUpTo outcome_from held (numbered_lines bytes) (numbered_lines bytes) [] 0
read_none outcome_from held bytes = record {
  lines = [];
  outcomes = [];
  parts = refl;
  are = tt;
  none = λ file. refl;
  rows_are = refl;
  skipped_are = refl;
  rest = source_lines bytes;
  numbers = refl;
}

first_number : List (ℕ × List ℕ) → ℕ
first_number [] = 0
first_number (line ∷ lines) = line.0

lines_after : List (ℕ × List ℕ) → List (ℕ × List ℕ)
lines_after [] = []
lines_after (line ∷ lines) = lines

line_number : (n number : ℕ) (line : List ℕ) (left : List (ℕ × List ℕ)) (rest : List (List ℕ)) → (number, line) ∷ left ≡ enumerate_from n rest
    → (number ≡ n) × ((others : List (List ℕ)) × (left ≡ enumerate_from (n + 1) others))
unfolding first_number lines_after
line_number n number line left [] is = absurd (cc)
line_number n number line left (r ∷ rest) is = (ap first_number is, (rest, ap lines_after is))

-- fewer lines are skipped than the next one's number
pub skipped_below : (outcome_from : ℕ → Parts → Outcome) (held : ℕ) (all : List (ℕ × List ℕ)) (number : ℕ) (line : List ℕ) (left now : List (ℕ × List ℕ)) (rows : List Row) (skipped : ℕ)
    → now ≡ (number, line) ∷ left → IsReadUpTo outcome_from held all now rows skipped → skipped < number
skipped_below outcome_from held all number line left now rows skipped is r =
    let n = line_number (1 + length r.outcomes) number line left r.rest (sym is ∙ r.numbers) in
    let e : number ≡ 1 + length r.outcomes = n.0 in
    let s : skipped ≡ count_by is_skipped r.outcomes = r.skipped_are in
    omega (arith, count_by-le-length is_skipped r.outcomes)

pub line_taken : (outcome_from : ℕ → Parts → Outcome) (held : ℕ) (all : List (ℕ × List ℕ)) (number : ℕ) (line : List ℕ) (left now : List (ℕ × List ℕ)) (rows more : List Row) (skipped held_now : ℕ) (counts : Bool)
    → now ≡ (number, line) ∷ left → IsReadUpTo outcome_from held all now rows skipped → held_now ≡ held + length rows → IsReadLine outcome_from number line held_now counts more
    → IsReadUpTo outcome_from held all left (rows ++ more) (skipped + cond counts 1 0)
line_taken outcome_from held all number line left now rows more skipped held_now counts is r room t =
    let n = line_number (1 + length r.outcomes) number line left r.rest (sym is ∙ r.numbers) in
    let here : ℕ × List ℕ = (number, line) in
    let rows_then : held + length rows ≡ held + length (accepted_rows r.outcomes) = ap (λ (xs : List Row). held + length xs) r.rows_are in
    record {
      lines = r.lines ++ here ∷ [];
      outcomes = r.outcomes ++ t.outcome ∷ [];
      parts = r.parts ∙ ap (λ (xs : List (ℕ × List ℕ)). r.lines ++ xs) is ∙ sym (append_assoc r.lines (here ∷ []) left);
      are = outcomes-append outcome_from r.lines (here ∷ []) r.outcomes (t.outcome ∷ []) r.are (t.is, tt);
      none = λ file.
          rejected-append file 1 held r.outcomes (t.outcome ∷ []) (r.none file)
          ∙ ap (λ (k : ℕ). first_rejected file k (held + length (accepted_rows r.outcomes)) (t.outcome ∷ [])) (sym n.0)
          ∙ ap (λ (k : ℕ). first_rejected file number k (t.outcome ∷ [])) (sym (room ∙ rows_then)) ∙ t.fits file;
      rows_are = ap (λ (xs : List Row). xs ++ more) r.rows_are ∙ ap (λ (xs : List Row). accepted_rows r.outcomes ++ xs) t.appended ∙ sym (filter_map-append accepted_row r.outcomes (t.outcome ∷ []));
      skipped_are = ap (λ (k : ℕ). k + cond counts 1 0) r.skipped_are ∙ ap (λ (b : Bool). count_by is_skipped r.outcomes + cond b 1 0) t.counted
          ∙ sym (sum_by_push (λ o. cond (is_skipped o) 1 0) r.outcomes t.outcome);
      rest = n.1.0;
      numbers = n.1.1 ∙ ap (λ (k : ℕ). enumerate_from k n.1.0) (let e : 1 + length r.outcomes + 1 ≡ 1 + length (r.outcomes ++ t.outcome ∷ []) = omega (arith, length-append r.outcomes (t.outcome ∷ [])) in e);
    }

pub line_rejected : (outcome_from : ℕ → Parts → Outcome) (file held : ℕ) (bytes : List ℕ) (number : ℕ) (line : List ℕ) (left now : List (ℕ × List ℕ)) (rows : List Row) (skipped held_now : ℕ) (kind : SourceKind)
    → now ≡ (number, line) ∷ left → IsReadUpTo outcome_from held (numbered_lines bytes) now rows skipped → held_now ≡ held + length rows → IsRejectedLine outcome_from number line held_now kind
    → ReadsAs outcome_from file held bytes (Err (record { file = file; line = number; kind = kind }))
line_rejected outcome_from file held bytes number line left now rows skipped held_now kind is r room t =
    let n = line_number (1 + length r.outcomes) number line left r.rest (sym is ∙ r.numbers) in
    let later = later_outcomes outcome_from left in
    let here : ℕ × List ℕ = (number, line) in
    let fault : SourceFault = record { file = file; line = number; kind = kind } in
    let rows_then : held + length rows ≡ held + length (accepted_rows r.outcomes) = ap (λ (xs : List Row). held + length xs) r.rows_are in
    let all : List Outcome = r.outcomes ++ t.outcome ∷ later.0 in
    let first : first_rejected file 1 held all ≡ Some fault =
    rejected-append file 1 held r.outcomes (t.outcome ∷ later.0) (r.none file)
    ∙ ap (λ (k : ℕ). first_rejected file k (held + length (accepted_rows r.outcomes)) (t.outcome ∷ later.0)) (sym n.0)
    ∙ ap (λ (k : ℕ). first_rejected file number k (t.outcome ∷ later.0)) (sym (room ∙ rows_then))
    ∙ rejected_first file number held_now t.outcome later.0 fault (t.rejected file) in
    let are : AreOutcomes outcome_from (r.lines ++ here ∷ left) all = outcomes-append outcome_from r.lines (here ∷ left) r.outcomes (t.outcome ∷ later.0) r.are (t.is, later.1) in (
      all,
      subst (λ (ls : List (ℕ × List ℕ)). AreOutcomes outcome_from ls all) (sym (r.parts ∙ ap (λ (xs : List (ℕ × List ℕ)). r.lines ++ xs) is)) are,
      sym (ap (λ (f : Option SourceFault). reading_unless f all) first),
    )

pub all_read : (outcome_from : ℕ → Parts → Outcome) (file held : ℕ) (bytes : List ℕ) (now : List (ℕ × List ℕ)) (rows : List Row) (skipped : ℕ) → now ≡ [] → IsReadUpTo outcome_from held (numbered_lines bytes) now rows skipped
    → ReadsAs outcome_from file held bytes (Ok (record { rows = rows; skipped = skipped }))
all_read outcome_from file held bytes now rows skipped is r =
    let read : Reading = record { rows = rows; skipped = skipped } in
    let same : read ≡ record { rows = accepted_rows r.outcomes; skipped = count_by is_skipped r.outcomes } =
    ap (λ (xs : List Row). record { rows = xs; skipped = skipped }) r.rows_are ∙ ap (λ (k : ℕ). record { rows = accepted_rows r.outcomes; skipped = k }) r.skipped_are in (
      r.outcomes,
      subst (λ (ls : List (ℕ × List ℕ)). AreOutcomes outcome_from ls r.outcomes) (sym (r.parts ∙ ap (λ (xs : List (ℕ × List ℕ)). r.lines ++ xs) is ∙ append-nil r.lines)) r.are,
      ap (λ (x : Reading). Ok x) same ∙ sym (ap (λ (f : Option SourceFault). reading_unless f r.outcomes) (r.none file)),
    )
