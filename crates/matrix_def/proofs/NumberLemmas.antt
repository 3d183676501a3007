-- The reported numbers of lines. The contents of lines do not depend on their numbers, and lines
-- that 64 bits can count have their own numbers.
use Rattle.std.proofs.Common.{◌≡◌, ℕ, suc, ◌+◌, ◌*◌, ◌<◌, ◌≤◌, ◌^◌, Bool, true, false, cond, List, [], ◌∷◌, length, refl, sym, ap, ◌∙◌, subst, arith, inl, inr}
use Rattle.std.specs.Prelude.{map, not, nat_le, Option, Some, None, Result, Ok, Err}
use Rattle.std.specs.List.{cons_option, enumerate_from, onto_first, slice_split}
use Rattle.std.proofs.lemmas.Bool.{cases_Bool}
use Rattle.std.proofs.lemmas.List.{length-map}
use Rattle.std.proofs.lemmas.List.Splits.{slice_split-cons_yes, slice_split-cons_no}
use Rattle.mj_model.specs.declared.limits.TheConstants.{MATRIX_CELLS_MAX}
use Rattle.mj_model.specs.declared.matrix_sizes.MatrixSizes.{MatrixSizes}
use Rattle.mj_model.specs.declared.source_fault.SourceFault.{SourceFault}
use Rattle.mj_model.specs.declared.source_fault.SourceKind.{SourceKind}
use Rattle.mj_model.specs.declared.source_fault.SourceKind.TheVariants.{TooLarge}
use Rattle.mj_model.specs.Bytes.{is_line_feed}
use Rattle.mj_model.specs.Connection.{Connection, cell_from, connection_from, connection_of, connection_under, connection_unless, matrix_fault, row_fault, sizes_from, words_of}
use Rattle.mj_model.specs.FirstFault.{IsMemoryOr, fault_or, first_fault}
use Rattle.mj_model.specs.Lines.{is_blank_line, pieces, source_lines, without_last_empty, without_return}
use Rattle.lex_source.specs.NonblankLines.{nonblank_lines}
use Rattle.matrix_def.specs.Reading.{reported_connection, reported_lines, reported_number}
use Rattle.matrix_def.specs.Rows.{cells_of}

abbrev pub reported_line : (ℕ × List ℕ) → ℕ × List ℕ
reported_line line = (reported_number line.0, line.1)

-- ---- the contents of lines under other numbers

filled_by : (line : ℕ × List ℕ) (reported rows : List (ℕ × List ℕ)) (b : Bool) → reported ≡ map reported_line rows → cond b (reported_line line ∷ reported) reported ≡ map reported_line (cond b (line ∷ rows) rows)
filled_by line reported rows true is = ap (λ (ls : List (ℕ × List ℕ)). reported_line line ∷ ls) is
filled_by line reported rows false is = is

reported_filled : (lines : List (ℕ × List ℕ)) → nonblank_lines (map reported_line lines) ≡ map reported_line (nonblank_lines lines)
reported_filled [] = refl
reported_filled (line ∷ lines) = filled_by line (nonblank_lines (map reported_line lines)) (nonblank_lines lines) (not (is_blank_line line.1)) (reported_filled lines)

no_fault_by : (file n m : ℕ) (found : Option SourceKind) (reported others : Option SourceFault) → (reported ≡ None → others ≡ None) → fault_or file n found reported ≡ None → fault_or file m found others ≡ None
no_fault_by file n m None reported others h e = h e
no_fault_by file n m (Some kind) reported others h e = absurd (cc)

no_fault : (sizes : MatrixSizes) (rows : List (ℕ × List ℕ)) → first_fault 0 (row_fault sizes) (map reported_line rows) ≡ None → first_fault 0 (row_fault sizes) rows ≡ None
no_fault sizes [] e = refl
no_fault sizes (row ∷ rows) e = no_fault_by 0 (reported_number row.0) row.0 (row_fault sizes row.1) (first_fault 0 (row_fault sizes) (map reported_line rows)) (first_fault 0 (row_fault sizes) rows) (no_fault sizes rows) e

reported_cells : (rows : List (ℕ × List ℕ)) → cells_of (map reported_line rows) ≡ cells_of rows
reported_cells [] = refl
reported_cells (row ∷ rows) = ap (cons_option (cell_from (words_of row.1))) (reported_cells rows)

accepted_unless : (reported found : Option SourceFault) (sizes : MatrixSizes) (rows : List (ℕ × List ℕ)) (c : Connection) → (reported ≡ None → found ≡ None)
    → connection_unless reported sizes (map reported_line rows) ≡ Ok c → connection_unless found sizes rows ≡ Ok c
accepted_unless None found sizes rows c h e =
    ap (λ (o : Option SourceFault). connection_unless o sizes rows) (h refl) ∙ ap (λ cells. Ok (record { sizes = sizes; cells = cells })) (sym (reported_cells rows)) ∙ e
accepted_unless (Some fault) found sizes rows c h e = absurd (cc)

accepted_by : (b : Bool) (reported read : Result Connection SourceFault) (f g : SourceFault) (c : Connection) → (reported ≡ Ok c → read ≡ Ok c) → cond b reported (Err f) ≡ Ok c → cond b read (Err g) ≡ Ok c
accepted_by true reported read f g c h e = h e
accepted_by false reported read f g c h e = absurd (cc)

accepted_under : (n : ℕ) (sizes : Option MatrixSizes) (rows : List (ℕ × List ℕ)) (c : Connection) → connection_under (reported_number n) sizes (map reported_line rows) ≡ Ok c → connection_under n sizes rows ≡ Ok c
accepted_under n None rows c e = absurd (cc)
accepted_under n (Some sizes) rows c e =
    accepted_by (nat_le (sizes.right * sizes.left) MATRIX_CELLS_MAX) _ (connection_unless (first_fault 0 (row_fault sizes) rows) sizes rows) _ (matrix_fault n TooLarge) c
    (accepted_unless (first_fault 0 (row_fault sizes) (map reported_line rows)) (first_fault 0 (row_fault sizes) rows) sizes rows c (no_fault sizes rows)) e

accepted_from : (lines : List (ℕ × List ℕ)) (c : Connection) → connection_from (map reported_line lines) ≡ Ok c → connection_from lines ≡ Ok c
accepted_from [] c e = e
accepted_from (header ∷ rows) c e = accepted_under header.0 (sizes_from (words_of header.1)) rows c e

pub reported_accepted : (bytes : List ℕ) (c : Connection) → reported_connection bytes ≡ Ok c → connection_of bytes ≡ Ok c
reported_accepted bytes c e =
    let lines : List (ℕ × List ℕ) = enumerate_from 1 (source_lines bytes) in accepted_from (nonblank_lines lines) c (ap connection_from (sym (reported_filled lines)) ∙ e)

-- ---- lines that 64 bits can count

reported_as_they_are : (n : ℕ) (lines : List (List ℕ)) → n + length lines ≤ 2 ^ 64 → reported_lines n lines ≡ enumerate_from n lines
reported_as_they_are n [] few = refl
reported_as_they_are n (line ∷ lines) few =
    let same : reported_number n ≡ n = omega (arith, few) in
    ap (λ (k : ℕ). (k, line) ∷ reported_lines (n + 1) lines) same ∙ ap (λ (ls : List (ℕ × List ℕ)). (n, line) ∷ ls) (reported_as_they_are (n + 1) lines (omega (arith, few)))

few_onto : (c : ℕ) (parts : List (List ℕ)) (n : ℕ) → length (without_last_empty parts) ≤ n → length (without_last_empty (onto_first c parts)) ≤ suc n
few_onto c [] n few = omega arith
few_onto c (first ∷ []) n few = omega arith
few_onto c ([] ∷ next ∷ rest) n few = omega (arith, few)
few_onto c ((d ∷ ds) ∷ next ∷ rest) n few = omega (arith, few)

few_after : (parts : List (List ℕ)) (n : ℕ) → length (without_last_empty parts) ≤ n → length (without_last_empty ([] ∷ parts)) ≤ suc n
few_after [] n few = omega arith
few_after (part ∷ parts) n few = omega (arith, few)

few_pieces : (bytes : List ℕ) → length (pieces bytes) ≤ length bytes
few_pieces [] = omega arith
few_pieces (c ∷ cs) = elim (cases_Bool (is_line_feed c)) [
  | inl feed ↦
      subst (λ (parts : List (List ℕ)). length (without_last_empty parts) ≤ suc (length cs)) (sym (slice_split-cons_yes is_line_feed c cs feed))
      (few_after (slice_split is_line_feed cs) (length cs) (few_pieces cs))
  | inr other ↦
      subst (λ (parts : List (List ℕ)). length (without_last_empty parts) ≤ suc (length cs)) (sym (slice_split-cons_no is_line_feed c cs other))
      (few_onto c (slice_split is_line_feed cs) (length cs) (few_pieces cs))
]

-- the bytes of a slice have no more lines than 64 bits can count
reported_of_slice : (bytes : List ℕ) → length bytes < 2 ^ 64 → reported_connection bytes ≡ connection_of bytes
reported_of_slice bytes short =
    let few = few_pieces bytes in
    let lines = length-map (pieces bytes) without_return in
    ap (λ (ls : List (ℕ × List ℕ)). connection_from (nonblank_lines ls)) (reported_as_they_are 1 (source_lines bytes) (omega (arith, short, few, lines)))

pub reported_error : (bytes : List ℕ) (fault : SourceFault) → length bytes < 2 ^ 64 → IsMemoryOr fault (reported_connection bytes ≡ Err fault) → IsMemoryOr fault (connection_of bytes ≡ Err fault)
reported_error bytes fault short (inl memory) = inl memory
reported_error bytes fault short (inr is) = inr (sym (reported_of_slice bytes short) ∙ is)
