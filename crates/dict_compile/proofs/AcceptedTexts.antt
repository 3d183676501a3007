-- The surfaces of valid lines are UTF-8, and so are those of a lexicon.
use Rattle.std.proofs.Common.{◌≡◌, ℕ, ◌+◌, Bool, true, false, cond, List, [], ◌∷◌, ◌++◌, length, map, inl, inr, sym, subst}
use Rattle.std.specs.Prelude.{ℤ, IsUtf8, Option, Some, None, Result, Ok, ◌==◌, nat_le, option_and_then, option_map}
use Rattle.std.specs.List.{AllByRecursion, enumerate_from}
use Rattle.std.proofs.lemmas.List.Elements.{All-from_recursion, recursion_from_All}
use Rattle.std.proofs.lemmas.List.Sorted.{All-permutation}
use Rattle.mj_model.specs.declared.limits.TheConstants.{SURFACE_MAX}
use Rattle.mj_model.specs.declared.matrix_sizes.MatrixSizes.{MatrixSizes}
use Rattle.mj_model.specs.declared.source_fault.SourceFault.{SourceFault}
use Rattle.mj_model.specs.declared.source_fault.SourceKind.TheVariants.{SurfaceTooLong}
use Rattle.mj_model.specs.Dictionary.{AreLexicons, IsLexiconOf, lexeme_of, next_file}
use Rattle.mj_model.specs.Lexicon.{Row, Parts, Outcome, Blank, Skipped, Rejected, Accepted, IsOutcome, AreOutcomes, IsLexicon, Reading, accept_short, accepted_rows, first_rejected, lexicon_outcome, reading_unless, row_from}
use Rattle.mj_model.specs.Lines.{numbered_lines}
use Rattle.mj_model.specs.Numbers.{context_id, cost}
use Rattle.mj_model.specs.Tables.{HasText, Lexeme}
use Rattle.mj_model.proofs.AcceptedRows.{OnAccepted, OnRow}
use Rattle.mj_model.proofs.Basics.{all_append}
use Rattle.dict_compile.proofs.SourceFaults.{both, same_read}
use Rattle.dict_compile.proofs.TextFields.{first_is_text}

abbrev IsTextRow : Row → Type 0
IsTextRow row = IsUtf8 row.surface

-- ---- the row of a line's parts

row_by : (line : ℕ) (parts : Parts) (left right : Option ℕ) (price : Option ℤ) → IsUtf8 parts.surface
    → OnRow IsTextRow (option_and_then (λ left. option_and_then (λ right. option_map (λ price.
    record { line = line; surface = parts.surface; left = left; right = right; cost = price; feature = parts.feature }) price) right) left)
row_by line parts None right price u = tt
row_by line parts (Some left) None price u = tt
row_by line parts (Some left) (Some right) None u = tt
row_by line parts (Some left) (Some right) (Some z) u = u

short_by : (row : Row) (b : Bool) → IsTextRow row → OnAccepted IsTextRow (cond b (Accepted row) (Rejected SurfaceTooLong))
short_by row true u = u
short_by row false u = tt

of_row : (found : Option Row) → OnRow IsTextRow found → OnAccepted IsTextRow (accept_short found)
of_row None h = tt
of_row (Some row) h = short_by row (nat_le (length row.surface) SURFACE_MAX) h

unless_skipped : (b : Bool) (o : Outcome) → OnAccepted IsTextRow o → OnAccepted IsTextRow (cond b Skipped o)
unless_skipped true o h = tt
unless_skipped false o h = h

of_parts : (number : ℕ) (parts : Parts) → IsUtf8 parts.surface → OnAccepted IsTextRow (lexicon_outcome number parts)
of_parts number parts u = unless_skipped (length parts.surface == 0) (accept_short (row_from number parts))
    (of_row (row_from number parts) (row_by number parts (context_id parts.left) (context_id parts.right) (cost parts.cost) u))

-- ---- the rows of lines

of_outcome : (number : ℕ) (line : List ℕ) (o : Outcome) → IsOutcome lexicon_outcome number line o → OnAccepted IsTextRow o
of_outcome number line o (IsOutcome.is_blank b) = tt
of_outcome number line o (IsOutcome.not_text b n) = tt
of_outcome number line o (IsOutcome.too_few b u fields a few) = tt
of_outcome number line o (IsOutcome.has_parts b u parts a) = of_parts number parts (first_is_text line parts.surface (Some a.0) u a.1)

of_outcomes : (lines : List (ℕ × List ℕ)) (os : List Outcome) → AreOutcomes lexicon_outcome lines os → AllByRecursion IsTextRow (accepted_rows os)
of_outcomes [] [] h = tt
of_outcomes [] (o ∷ os) h = absurd h
of_outcomes (line ∷ lines) [] h = absurd h
of_outcomes (line ∷ lines) (Blank ∷ os) h = of_outcomes lines os h.1
of_outcomes (line ∷ lines) (Skipped ∷ os) h = of_outcomes lines os h.1
of_outcomes (line ∷ lines) (Rejected kind ∷ os) h = of_outcomes lines os h.1
of_outcomes (line ∷ lines) (Accepted row ∷ os) h = (of_outcome line.0 line.1 (Accepted row) h.0, of_outcomes lines os h.1)

of_reading : (rejected : Option SourceFault) (os : List Outcome) (lines : Reading) → ◌≡◌ {A = Result Reading SourceFault} (Ok lines) (reading_unless rejected os)
    → AllByRecursion IsTextRow (accepted_rows os) → AllByRecursion IsTextRow lines.rows
of_reading None os lines h all = subst (λ (r : Reading). AllByRecursion IsTextRow r.rows) (sym (same_read h)) all
of_reading (Some fault) os lines h all = absurd (cc)

of_lexicon : (file held : ℕ) (bytes : List ℕ) (lines : Reading) → IsLexicon file held bytes (Ok lines) → AllByRecursion IsTextRow lines.rows
of_lexicon file held bytes lines h = of_reading (first_rejected file 1 held h.0) h.0 lines h.2 (of_outcomes (numbered_lines bytes) h.0 h.1)

-- the rows of lexicons after others
of_lexicons : (sizes : MatrixSizes) (file : ℕ) (before : List Row) (lexicons : List (List ℕ)) (rows : List Row) → AllByRecursion IsTextRow before
    → AreLexicons sizes file before lexicons (Ok rows) → AllByRecursion IsTextRow rows
of_lexicons sizes file before [] rows all h = subst (AllByRecursion IsTextRow) (sym (same_read h)) all
of_lexicons sizes file before (bytes ∷ more) rows all (inl h) = absurd (both (sym h.2))
of_lexicons sizes file before (bytes ∷ more) rows all (inr (inl h)) = absurd (both (sym h.4))
of_lexicons sizes file before (bytes ∷ more) rows all (inr (inr h)) =
    of_lexicons sizes (next_file file) (before ++ h.0.rows) more rows
    (all_append IsTextRow before h.0.rows all (of_lexicon file (length before) bytes h.0 h.1)) h.3

-- ---- the lexicon

numbered_texts : (n : ℕ) (rows : List Row) → AllByRecursion IsTextRow rows → AllByRecursion HasText (map lexeme_of (enumerate_from n rows))
numbered_texts n [] all = tt
numbered_texts n (row ∷ rows) all = (all.0, numbered_texts (n + 1) rows all.1)

-- the surfaces of valid lexicons are UTF-8
pub lexicon_is_text : (sizes : MatrixSizes) (lexicons : List (List ℕ)) (rows : List Row) (lexicon : List Lexeme) → AreLexicons sizes 3 [] lexicons (Ok rows) → IsLexiconOf rows lexicon
    → AllByRecursion HasText lexicon
lexicon_is_text sizes lexicons rows lexicon are is =
    let texts = All-from_recursion IsTextRow rows (of_lexicons sizes 3 [] lexicons rows tt are) in
    let ordered = recursion_from_All IsTextRow is.0 (All-permutation IsTextRow rows is.0 is.1.same_rows texts) in
    subst (AllByRecursion HasText) (sym is.2) (numbered_texts 0 is.0 ordered)
