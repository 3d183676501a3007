-- `matrix.def` line by line: each complete line leads to the next state.
use Rattle.std.proofs.Common.{◌≡◌, ℕ, ◌+◌, ◌*◌, ◌<◌, Bool, true, false, cond, List, [], ◌∷◌, ◌++◌, length, refl, sym, ◌∙◌, ap, subst, arith, Option, Some, inl, inr, append_assoc, get_or}
use Rattle.std.proofs.Math.Seq.{take-append-add, take-append_seam, drop-append-add}
use Rattle.std.specs.Prelude.{map, not, ◌||◌, take, drop, nat_le, slice_set, Err}
use Rattle.std.specs.List.{after_first, before_first, enumerate_from, list_any, position_or_len}
use Rattle.std.proofs.lemmas.Bool.{cases_Bool, cond-true, or_from, or_parts}
use Rattle.std.proofs.lemmas.List.{append-nil, length-append, map-append}
use Rattle.std.proofs.lemmas.List.Elements.{filter-append}
use Rattle.std.proofs.lemmas.List.Folds.{list_any-append}
use Rattle.mj_model.specs.declared.limits.TheConstants.{MATRIX_CELLS_MAX}
use Rattle.mj_model.specs.declared.matrix_sizes.MatrixSizes.{MatrixSizes}
use Rattle.mj_model.specs.declared.source_fault.SourceFault.{SourceFault}
use Rattle.mj_model.specs.declared.source_fault.SourceKind.{SourceKind}
use Rattle.mj_model.specs.declared.source_fault.SourceKind.TheVariants.{BadHeader}
use Rattle.mj_model.specs.Bytes.{is_line_feed, line_feed}
use Rattle.mj_model.specs.Connection.{Cell, connection_from, connection_under, connection_unless, row_fault}
use Rattle.mj_model.specs.FirstFault.{first_fault}
use Rattle.mj_model.specs.Lines.{is_blank_line, numbered_lines, source_lines, without_return}
use Rattle.lex_source.specs.Splits.{IsSplit}
use Rattle.lex_source.specs.NonblankLines.{nonblank_lines}
use Rattle.lex_source.proofs.LineLemmas.{cut_lines, last_line}
use Rattle.matrix_def.specs.Costs.{CostTable, IsMatrix, cell_at}
use Rattle.matrix_def.specs.declared.reader_state.ReaderState.{ReaderState}
use Rattle.matrix_def.specs.declared.reader_state.ReaderState.TheVariants.{Header}
use Rattle.matrix_def.specs.Headers.{IsNoHeader}
use Rattle.matrix_def.specs.Reading.{Fill, HasNoFeed, HasRead, ReaderView, IsStateAfter, row_of, reported_connection, reported_lines, reported_number}
use Rattle.matrix_def.specs.Rows.{IsRow}
use Rattle.matrix_def.proofs.NumberLemmas.{reported_line}
use Rattle.matrix_def.proofs.RowLemmas.{row_bad, row_filled}

-- ---- lines

feed_at : (line more : List ℕ) → HasNoFeed line → position_or_len is_line_feed (line ++ line_feed ∷ more) ≡ length line
feed_at [] more none = refl
feed_at (c ∷ cs) more none =
    let p = or_parts (is_line_feed c) (list_any is_line_feed cs) none in
    ap (λ (b : Bool). cond (not b) (1 + position_or_len is_line_feed (cs ++ line_feed ∷ more)) 0) p.0 ∙ omega (arith, feed_at cs more p.1)

cut_at_feed : (line more : List ℕ) → HasNoFeed line → IsSplit is_line_feed (line ++ line_feed ∷ more) line more
cut_at_feed line more none =
    let all : List ℕ = line ++ line_feed ∷ more in
    let at : position_or_len is_line_feed all ≡ length line = feed_at line more none in
    record {
      found = list_any-append is_line_feed line (line_feed ∷ more) ∙ ap (λ (b : Bool). b || list_any is_line_feed (line_feed ∷ more)) none;
      before_is = sym (ap (λ (n : ℕ). take n all) at ∙ take-append_seam line (line_feed ∷ more));
      following_is = sym (ap (λ (n : ℕ). drop (n + 1) all) at ∙ drop-append-add line (line_feed ∷ more) 1);
    }

pub feed_append : (xs ys : List ℕ) → HasNoFeed xs → HasNoFeed ys → HasNoFeed (xs ++ ys)
feed_append xs ys before following = list_any-append is_line_feed xs ys ∙ or_from (list_any is_line_feed xs) (list_any is_line_feed ys) before following

-- a complete line is the first one
line_first : (line more : List ℕ) → HasNoFeed line → source_lines (line ++ line_feed ∷ more) ≡ without_return line ∷ source_lines more
line_first line more none = cut_lines (line ++ line_feed ∷ more) line more (without_return line) (cut_at_feed line more none) refl

-- bytes without a line feed are one line, if there are any
pub row_is : (number : ℕ) (bytes : List ℕ) → HasNoFeed bytes → row_of number bytes ≡ nonblank_lines ((number, without_return bytes) ∷ [])
row_is number [] none = refl
row_is number (c ∷ cs) none =
    ap (λ (lines : List (List ℕ)). nonblank_lines (enumerate_from number lines)) (last_line (c ∷ cs) (without_return (c ∷ cs)) [] (omega arith) none refl refl)

one_filled : (number : ℕ) (line : List ℕ) (b : Bool) → is_blank_line line ≡ b → nonblank_lines ((number, line) ∷ []) ≡ cond b [] ((number, line) ∷ [])
one_filled number line true is = ap (λ (b : Bool). cond (not b) ((number, line) ∷ []) []) is
one_filled number line false is = ap (λ (b : Bool). cond (not b) ((number, line) ∷ []) []) is

-- the first of them that is not blank
line_found : (n : ℕ) (bytes line : List ℕ) (rest : List (ℕ × List ℕ)) → HasNoFeed bytes → nonblank_lines (numbered_lines bytes) ≡ (n, line) ∷ rest
    → (line ≡ without_return bytes) × (is_blank_line (without_return bytes) ≡ false)
line_found n bytes line rest none is =
    let w : List ℕ = without_return bytes in
    let first : (n, line) ∷ rest ≡ nonblank_lines ((1, w) ∷ []) = sym is ∙ row_is 1 bytes none in
    elim (cases_Bool (is_blank_line w)) [
      | inl blank ↦ let no : (n, line) ∷ rest ≡ [] = first ∙ one_filled 1 w true blank in absurd (cc)
      | inr full ↦
          let same : (n, line) ∷ rest ≡ (1, w) ∷ [] = first ∙ one_filled 1 w false full in
          (ap (λ (rows : List (ℕ × List ℕ)). (get_or rows 0 (0, [])).1) same, full)
    ]

-- they are a line with another number
pub row_found : (number n : ℕ) (bytes line : List ℕ) (rest : List (ℕ × List ℕ)) → HasNoFeed bytes → nonblank_lines (numbered_lines bytes) ≡ (n, line) ∷ rest → row_of number bytes ≡ (number, line) ∷ []
row_found number n bytes line rest none is =
    let found = line_found n bytes line rest none is in
    row_is number bytes none ∙ one_filled number (without_return bytes) false found.1 ∙ ap (λ (l : List ℕ). (number, l) ∷ []) (sym found.0)

pub row_missing : (number : ℕ) (bytes : List ℕ) → HasNoFeed bytes → nonblank_lines (numbered_lines bytes) ≡ [] → row_of number bytes ≡ []
row_missing number bytes none is =
    let w : List ℕ = without_return bytes in
    let first : [] ≡ nonblank_lines ((1, w) ∷ []) = sym is ∙ row_is 1 bytes none in
    elim (cases_Bool (is_blank_line w)) [
      | inl blank ↦ row_is number bytes none ∙ one_filled number w true blank
      | inr full ↦
          let no : 0 ≡ 1 = ap (λ (rows : List (ℕ × List ℕ)). length rows) (first ∙ one_filled 1 w false full) in
          absurd (omega (arith, no))
    ]

enumerate-append : {X : Type 0} (n m : ℕ) (xs ys : List X) → m ≡ n + length xs → enumerate_from n (xs ++ ys) ≡ enumerate_from n xs ++ enumerate_from m ys
enumerate-append {X = X} n m [] ys is = ap (λ (k : ℕ). enumerate_from k ys) (omega (arith, is))
enumerate-append {X = X} n m (x ∷ xs) ys is = ap (λ (rest : List (ℕ × X)). (n, x) ∷ rest) (enumerate-append (n + 1) m xs ys (omega (arith, is)))

reported-append : (n m : ℕ) (xs ys : List (List ℕ)) → m ≡ n + length xs → reported_lines n (xs ++ ys) ≡ reported_lines n xs ++ reported_lines m ys
reported-append n m xs ys is =
    ap (map reported_line) (enumerate-append n m xs ys is) ∙ map-append reported_line (enumerate_from n xs) (enumerate_from m ys)

-- the lines that are not blank, and the following ones
filled-append : (n m : ℕ) (xs ys : List (List ℕ)) → m ≡ n + length xs → nonblank_lines (reported_lines n (xs ++ ys)) ≡ nonblank_lines (reported_lines n xs) ++ nonblank_lines (reported_lines m ys)
filled-append n m xs ys is =
    ap nonblank_lines (reported-append n m xs ys is) ∙ filter-append (λ (line : ℕ × List ℕ). not (is_blank_line line.1)) (reported_lines n xs) (reported_lines m ys)

-- bytes without a line feed are one line, with its reported number
reported_row : (n number : ℕ) (bytes : List ℕ) → HasNoFeed bytes → number ≡ reported_number n → nonblank_lines (reported_lines n (source_lines bytes)) ≡ row_of number bytes
reported_row n number [] none is = refl
reported_row n number (c ∷ cs) none is =
    let w : List ℕ = without_return (c ∷ cs) in
    ap (λ (lines : List (List ℕ)). nonblank_lines (reported_lines n lines)) (last_line (c ∷ cs) w [] (omega arith) none refl refl)
    ∙ ap (λ (k : ℕ). nonblank_lines ((k, w) ∷ [])) (sym is) ∙ sym (row_is number (c ∷ cs) none)

-- ---- rows

-- a valid row after a header and valid rows
pub fill_more : (lines : List (ℕ × List ℕ)) (m new : CostTable) (number : ℕ) (line : List ℕ) (cell : Cell) → Fill lines m → IsRow m.sizes line cell
    → new ≡ record m { costs = slice_set m.costs (cell_at m cell.right cell.left) cell.cost } → IsMatrix new → Fill (lines ++ (number, line) ∷ []) new
fill_more lines m new number line cell f r is formed =
    let row : ℕ × List ℕ = (number, line) in
    let set_one : CostTable = record m { costs = slice_set m.costs (cell_at m cell.right cell.left) cell.cost } in
    subst (λ (t : CostTable). Fill (lines ++ row ∷ []) t) (sym is) (record {
      header = f.header;
      rows = f.rows ++ row ∷ [];
      parts = ap (λ (ls : List (ℕ × List ℕ)). ls ++ row ∷ []) f.parts;
      sizes = f.sizes;
      few = f.few;
      formed = subst IsMatrix is formed;
      filled_by = row_filled m.sizes f.rows m set_one row cell f.filled_by f.formed r refl;
    })

-- an invalid row after them
pub fill_rejected : (lines : List (ℕ × List ℕ)) (m : CostTable) (number : ℕ) (line : List ℕ) (kind : SourceKind) → Fill lines m → row_fault m.sizes line ≡ Some kind
    → (more : List (ℕ × List ℕ)) → connection_from ((lines ++ (number, line) ∷ []) ++ more) ≡ Err (record { file = 0; line = number; kind = kind })
fill_rejected lines m number line kind f bad more =
    let row : ℕ × List ℕ = (number, line) in
    let rest : List (ℕ × List ℕ) = f.rows ++ row ∷ more in
    let joined : (lines ++ row ∷ []) ++ more ≡ f.header ∷ rest = append_assoc lines (row ∷ []) more ∙ ap (λ (ls : List (ℕ × List ℕ)). ls ++ row ∷ more) f.parts in
    ap connection_from joined
    ∙ ap (λ (sizes : Option MatrixSizes). connection_under f.header.0 sizes rest) f.sizes
    ∙ cond-true (nat_le (m.sizes.right * m.sizes.left) MATRIX_CELLS_MAX) (connection_unless (first_fault 0 (row_fault m.sizes) rest) m.sizes rest) (Err _) f.few
    ∙ ap (λ (found : Option SourceFault). connection_unless found m.sizes rest) (row_bad m.sizes f.rows more m row kind f.filled_by bad)

-- ---- the bytes that the reader has read

-- all lines that are not blank: the complete ones, and the unfinished one
lines_read : (bytes : List ℕ) (number : ℕ) (r : ReaderView) (h : HasRead bytes r) → number ≡ reported_number (r.complete_lines + 1)
    → nonblank_lines (reported_lines 1 (source_lines bytes)) ≡ nonblank_lines (reported_lines 1 h.lines) ++ row_of number r.unfinished
lines_read bytes number r h number_is =
    ap (λ (bs : List ℕ). nonblank_lines (reported_lines 1 (source_lines bs))) h.parts ∙ ap (λ (ls : List (List ℕ)). nonblank_lines (reported_lines 1 ls)) (h.cut r.unfinished)
    ∙ filled-append 1 (1 + length h.lines) h.lines (source_lines r.unfinished) refl
    ∙ ap (λ (rows : List (ℕ × List ℕ)). nonblank_lines (reported_lines 1 h.lines) ++ rows) (reported_row (1 + length h.lines) number r.unfinished h.unended (omega (arith, number_is, h.counted)))

-- the state with the unfinished line, if no more follows
pub all_read : (bytes line : List ℕ) (number : ℕ) (r : ReaderView) (new : ReaderState) → HasRead bytes r → number ≡ reported_number (r.complete_lines + 1) → line ≡ r.unfinished
    → ((lines : List (ℕ × List ℕ)) → IsStateAfter lines r.state → HasNoFeed line → IsStateAfter (lines ++ row_of number line) new)
    → IsStateAfter (nonblank_lines (reported_lines 1 (source_lines bytes))) new
all_read bytes line number r new h number_is line_is after =
    let lines : List (ℕ × List ℕ) = nonblank_lines (reported_lines 1 h.lines) in
    let all : nonblank_lines (reported_lines 1 (source_lines bytes)) ≡ lines ++ row_of number line =
    lines_read bytes number r h number_is ∙ ap (λ (bs : List ℕ). lines ++ row_of number bs) (sym line_is) in
    subst (λ (rows : List (ℕ × List ℕ)). IsStateAfter rows new) (sym all) (after lines h.lies (subst HasNoFeed (sym line_is) h.unended))

-- the unfinished line ends
pub line_read : (bytes part line : List ℕ) (r new : ReaderView) → HasRead bytes r → HasNoFeed part → line ≡ r.unfinished ++ part → new.unfinished ≡ [] → new.complete_lines ≡ reported_number (r.complete_lines + 1)
    → ((lines : List (ℕ × List ℕ)) → IsStateAfter lines r.state → HasNoFeed line → IsStateAfter (lines ++ row_of new.complete_lines line) new.state)
    → HasRead ((bytes ++ part) ++ line_feed ∷ []) new
line_read bytes part line r new h none_more line_is unfinished complete after =
    let none : HasNoFeed line = subst HasNoFeed (sym line_is) (feed_append r.unfinished part h.unended none_more) in
    let w : List ℕ = without_return line in
    let all : List ℕ = (bytes ++ part) ++ line_feed ∷ [] in
    let turned : (more : List ℕ) → all ++ more ≡ h.closed ++ (line ++ line_feed ∷ more) = λ more.
    ap (λ (bs : List ℕ). ((bs ++ part) ++ line_feed ∷ []) ++ more) h.parts
    ∙ append_assoc ((h.closed ++ r.unfinished) ++ part) (line_feed ∷ []) more
    ∙ ap (λ (bs : List ℕ). bs ++ line_feed ∷ more) (append_assoc h.closed r.unfinished part ∙ ap (λ (bs : List ℕ). h.closed ++ bs) (sym line_is))
    ∙ append_assoc h.closed line (line_feed ∷ more) in
    let number : reported_number (1 + length h.lines) ≡ new.complete_lines = omega (arith, complete, h.counted) in
    let rows : nonblank_lines (reported_lines 1 (h.lines ++ w ∷ [])) ≡ nonblank_lines (reported_lines 1 h.lines) ++ row_of new.complete_lines line =
    filled-append 1 (1 + length h.lines) h.lines (w ∷ []) refl
    ∙ ap (λ (n : ℕ). nonblank_lines (reported_lines 1 h.lines) ++ nonblank_lines ((n, w) ∷ [])) number
    ∙ ap (λ (rows : List (ℕ × List ℕ)). nonblank_lines (reported_lines 1 h.lines) ++ rows) (sym (row_is new.complete_lines line none)) in
    record {
      closed = all;
      lines = h.lines ++ w ∷ [];
      parts = sym (append-nil all) ∙ ap (λ (bs : List ℕ). all ++ bs) (sym unfinished);
      unended = ap (list_any is_line_feed) unfinished;
      cut = λ more.
          ap source_lines (turned more) ∙ h.cut (line ++ line_feed ∷ more) ∙ ap (λ (ls : List (List ℕ)). h.lines ++ ls) (line_first line more none)
          ∙ sym (append_assoc h.lines (w ∷ []) (source_lines more));
      counted = let long = length-append h.lines (w ∷ []) in omega (arith, complete, h.counted, long);
      lies = subst (λ (rows : List (ℕ × List ℕ)). IsStateAfter rows new.state) (sym rows) (after (nonblank_lines (reported_lines 1 h.lines)) h.lies none);
    }

-- more of the unfinished line
pub part_read : (bytes part : List ℕ) (r new : ReaderView) → HasRead bytes r → HasNoFeed part → new.complete_lines ≡ r.complete_lines → new.state ≡ r.state → new.unfinished ≡ r.unfinished ++ part
    → HasRead (bytes ++ part) new
part_read bytes part r new h none complete state unfinished = record {
  closed = h.closed;
  lines = h.lines;
  parts = ap (λ (bs : List ℕ). bs ++ part) h.parts ∙ append_assoc h.closed r.unfinished part ∙ ap (λ (bs : List ℕ). h.closed ++ bs) (sym unfinished);
  unended = subst HasNoFeed (sym unfinished) (feed_append r.unfinished part h.unended none);
  cut = h.cut;
  counted = complete ∙ h.counted;
  lies = subst (IsStateAfter (nonblank_lines (reported_lines 1 h.lines))) (sym state) h.lies;
}

-- ---- a piece

-- a line of a piece follows the lines that were read
pub piece_cut : (piece done rest part following : List ℕ) → piece ≡ done ++ rest → rest ≡ part ++ line_feed ∷ following → piece ≡ ((done ++ part) ++ line_feed ∷ []) ++ following
piece_cut piece done rest part following whole cut =
    whole ∙ ap (λ (bs : List ℕ). done ++ bs) cut ∙ sym (append_assoc done part (line_feed ∷ following)) ∙ sym (append_assoc (done ++ part) (line_feed ∷ []) following)

-- bytes that were read one part after another
pub parts_joined : (bytes done part : List ℕ) → ((bytes ++ done) ++ part) ++ line_feed ∷ [] ≡ bytes ++ ((done ++ part) ++ line_feed ∷ [])
parts_joined bytes done part =
    ap (λ (bs : List ℕ). bs ++ line_feed ∷ []) (append_assoc bytes done part) ∙ append_assoc bytes (done ++ part) (line_feed ∷ [])

-- ---- an invalid header

feed_after : (came more : List ℕ) → HasNoFeed came → position_or_len is_line_feed (came ++ more) ≡ length came + position_or_len is_line_feed more
feed_after [] more none = omega arith
feed_after (c ∷ cs) more none =
    let p = or_parts (is_line_feed c) (list_any is_line_feed cs) none in
    ap (λ (b : Bool). cond (not b) (1 + position_or_len is_line_feed (cs ++ more)) 0) p.0 ∙ omega (arith, feed_after cs more p.1)

-- the first line continues the bytes that were read of it
pub record FirstLine (start more : List ℕ) : Type 0 where
  pub part : List ℕ
  pub rest : List (List ℕ)
  pub lines : source_lines (start ++ more) ≡ without_return (start ++ part) ∷ rest

first_line : (start more : List ℕ) → HasNoFeed start → 0 < length start → FirstLine start more
first_line start more none some =
    let all : List ℕ = start ++ more in
    let long : 0 < length all = omega (arith, some, length-append start more) in
    let n : ℕ = position_or_len is_line_feed more in
    elim (cases_Bool (list_any is_line_feed all)) [
      | inl feed ↦
          let before : before_first is_line_feed all ≡ start ++ take n more = ap (λ (k : ℕ). take k all) (feed_after start more none) ∙ take-append-add start more n in
          record {
            part = take n more;
            rest = source_lines (after_first is_line_feed all);
            lines = cut_lines all (start ++ take n more) (after_first is_line_feed all) (without_return (start ++ take n more)) (record { found = feed; before_is = sym before; following_is = refl }) refl;
          }
      | inr none_at_all ↦ record { part = more; rest = []; lines = last_line all (without_return all) [] long none_at_all refl refl }
    ]

start_some : (start : List ℕ) → IsNoHeader start → 0 < length start
start_some [] none = let no : true ≡ false = (none []).0 in absurd (cc)
start_some (c ∷ cs) none = omega arith

-- the unfinished line is no header: the file is rejected for it, whatever follows
pub header_rejected : (bytes : List ℕ) (number : ℕ) (r : ReaderView) → HasRead bytes r → r.state ≡ Header → number ≡ reported_number (r.complete_lines + 1) → IsNoHeader r.unfinished
    → (more : List ℕ) → reported_connection (bytes ++ more) ≡ Err (record { file = 0; line = number; kind = BadHeader })
header_rejected bytes number r h state number_is rejected more =
    let first = first_line r.unfinished more h.unended (start_some r.unfinished rejected) in
    let w : List ℕ = without_return (r.unfinished ++ first.part) in
    let n : ℕ = 1 + length h.lines in
    let reported : reported_number n ≡ number = omega (arith, number_is, h.counted) in
    let nothing : nonblank_lines (reported_lines 1 h.lines) ≡ [] = subst (IsStateAfter (nonblank_lines (reported_lines 1 h.lines))) state h.lies in
    let rows : List (ℕ × List ℕ) = nonblank_lines (reported_lines (n + 1) first.rest) in
    let all : source_lines (bytes ++ more) ≡ h.lines ++ w ∷ first.rest =
    ap (λ (bs : List ℕ). source_lines (bs ++ more)) h.parts ∙ ap source_lines (append_assoc h.closed r.unfinished more) ∙ h.cut (r.unfinished ++ more)
    ∙ ap (λ (ls : List (List ℕ)). h.lines ++ ls) first.lines in
    let header : nonblank_lines (reported_lines n (w ∷ first.rest)) ≡ (reported_number n, w) ∷ rows =
    ap (λ (b : Bool). cond (not b) ((reported_number n, w) ∷ rows) rows) (rejected first.part).0 in
    let filled : nonblank_lines (reported_lines 1 (source_lines (bytes ++ more))) ≡ (reported_number n, w) ∷ rows =
    ap (λ (ls : List (List ℕ)). nonblank_lines (reported_lines 1 ls)) all ∙ filled-append 1 n h.lines (w ∷ first.rest) refl
    ∙ ap (λ (ls : List (ℕ × List ℕ)). ls ++ nonblank_lines (reported_lines n (w ∷ first.rest))) nothing ∙ header in
    ap connection_from filled
    ∙ ap (λ (sizes : Option MatrixSizes). connection_under (reported_number n) sizes rows) (rejected first.part).1
    ∙ ap (λ (line : ℕ). Err (record { file = 0; line = line; kind = BadHeader })) reported
