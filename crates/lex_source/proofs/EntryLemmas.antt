-- Entries of lexicons: those of accepted lines are valid, and stay so when they are sorted.
use Rattle.std.proofs.Common.{◌≡◌, ℕ, suc, ◌+◌, ◌-◌, ◌<◌, ◌≤◌, Bool, true, false, cond, List, [], ◌∷◌, ◌++◌, length, take, drop, get_or, refl, sym, ap, ◌∙◌, subst, arith, drop-cons, drop_at, length-append, length-drop, take_all, zero}
use Rattle.std.proofs.Math.Seq.{take-append_seam}
use Rattle.std.specs.Prelude.{All, Option, Some, None, Result, Ok, Err, IfOk, OnErr, ℤ, nat_le, nat_eq, option_and_then, option_map}
use Rattle.std.specs.List.{AllByRecursion}
use Rattle.std.specs.Result.{is_err}
use Rattle.std.proofs.lemmas.Bool.{eqb-false, leb-true}
use Rattle.std.proofs.lemmas.List.{length-map}
use Rattle.std.proofs.lemmas.List.Elements.{All-append, All-cons, All-nil}
use Rattle.std.proofs.lemmas.List.Sorted.{All-permutation, length_permutation}
use Rattle.mj_model.specs.declared.entry.Record.{Record}
use Rattle.mj_model.specs.declared.limits.TheConstants.{SURFACE_MAX}
use Rattle.mj_model.specs.declared.matrix_sizes.MatrixSizes.{MatrixSizes}
use Rattle.mj_model.specs.declared.source_fault.SourceFault.{SourceFault}
use Rattle.mj_model.specs.declared.source_fault.SourceKind.TheVariants.{SurfaceTooLong, IdOutside}
use Rattle.mj_model.specs.Connection.{is_pair}
use Rattle.mj_model.specs.Dictionary.{IsInOrder, first_outside}
use Rattle.mj_model.specs.Lexicon.{Row, Parts, Skipped, Rejected, Accepted, Reading, IsLexicon, accept_short, lexicon_outcome, row_from, row_of, rows_of}
use Rattle.mj_model.specs.Numbers.{context_id, cost}
use Rattle.mj_model.proofs.AcceptedRows.{IsRowOf, OnAccepted, OnRow, row_is, rows_read}
use Rattle.lex_source.specs.AddedLexicon.{AddsLexicon}
use Rattle.lex_source.specs.Lexicons.{AreLexiconRows, AreSortedRows, IsLexiconRow, LexiconRows, entries_in}

-- ---- the first record whose ids lie outside

-- the rows from record i on: the row of record i, and those after it
rest_rows : (records : List Record) (i : ℕ) (r : Record) → i < length records → r ≡ get_or records i r → rows_of (drop i records) ≡ row_of r ∷ rows_of (drop (i + 1) records)
rest_rows records i r low is =
    ap rows_of (drop-cons records i r low ∙ ap (λ n. get_or records i r ∷ drop n records) {x = suc i} {y = i + 1} (omega arith))
    ∙ ap (λ x. row_of x ∷ rows_of (drop (i + 1) records)) (sym is)

-- the records before i were skipped, and so is record i, whose ids lie within the sizes
pub outside_more : (sizes : MatrixSizes) (records : List Record) (i : ℕ) (r : Record) → i < length records → r ≡ get_or records i r → is_pair sizes r.entry.right r.entry.left ≡ true
    → ((file : ℕ) → first_outside file sizes (rows_of records) ≡ first_outside file sizes (rows_of (drop i records)))
    → (file : ℕ) → first_outside file sizes (rows_of records) ≡ first_outside file sizes (rows_of (drop (i + 1) records))
outside_more sizes records i r low is pair before file =
    let fault : Option SourceFault = Some (record { file = file; line = r.line; kind = IdOutside }) in
    before file ∙ ap (first_outside file sizes) (rest_rows records i r low is)
    ∙ ap (λ (b : Bool). cond b (first_outside file sizes (rows_of (drop (i + 1) records))) fault) pair

-- ---- the rows that a lexicon adds

rows_drop : (n : ℕ) (records : List Record) → rows_of (drop n records) ≡ drop n (rows_of records)
rows_drop zero records = refl
rows_drop (suc n) [] = refl
rows_drop (suc n) (r ∷ records) = rows_drop n records

-- the rows after those that were held
pub added_slice : (old new items : List Record) (held : ℕ) (rows : List Row) → items ≡ new → rows_of new ≡ rows_of old ++ rows → held ≡ length old
    → rows_of (take (length items - held) (drop held items)) ≡ rows
added_slice old new items held rows value e h =
    let left = length-drop held items in
    ap rows_of (take_all (length items - held) (drop held items) (omega (arith, left)) ∙ ap (drop held) value)
    ∙ rows_drop held new ∙ ap (drop held) e ∙ drop_at (rows_of old) rows held (length-map old row_of ∙ sym h)

-- as many rows are held as records
pub as_held : (file : ℕ) (old : List Record) (bytes : List ℕ) (reading : Result Reading SourceFault) → IsLexicon file (length old) bytes reading
    → IsLexicon file (length (rows_of old)) bytes reading
as_held file old bytes reading h = subst (λ n. IsLexicon file n bytes reading) (sym (length-map old row_of)) h

-- the rows that were held
pub held_rows : (old new : List Record) (rows : List Row) → rows_of new ≡ rows_of old ++ rows → take (length old) (rows_of new) ≡ rows_of old
held_rows old new rows e = ap (take (length old)) e ∙ ap (λ n. take n (rows_of old ++ rows)) (sym (length-map old row_of)) ∙ take-append_seam (rows_of old) rows

rows_take : (n : ℕ) (records : List Record) → rows_of (take n records) ≡ take n (rows_of records)
rows_take zero records = refl
rows_take (suc n) [] = refl
rows_take (suc n) (r ∷ records) = ap (λ (rows : List Row). row_of r ∷ rows) (rows_take n records)

-- the rows that remain after the added ones are dropped
pub entries_back : (sizes : MatrixSizes) (old new back : List Record) (n : ℕ) → back ≡ take n new → n ≡ length old → take (length old) (rows_of new) ≡ rows_of old
    → entries_in sizes back ≡ entries_in sizes old
entries_back sizes old new back n cut is e =
    ap (entries_in sizes) cut ∙ ap (λ (rows : List Row). record { sizes = sizes; rows = rows }) (rows_take n new ∙ ap (λ m. take m (rows_of new)) is ∙ e)

-- what holds anyway holds on an error
pub on_error : {T E P : Type 0} (read : Result T E) → P → OnErr read P
on_error (Ok x) h = tt
on_error (Err e) h = h

-- ---- the surfaces of accepted lines

-- a surface of 1 to `SURFACE_MAX` bytes
abbrev HasSurface : Row → Type 0
HasSurface row = (1 ≤ length row.surface) × (length row.surface ≤ SURFACE_MAX)

-- the row of a line with this number
abbrev FitsLine : ℕ → Row → Type 0
FitsLine line row = (row.line ≡ line) × HasSurface row

abbrev HasSome : Row → Type 0
HasSome row = 1 ≤ length row.surface

both_of : (line : ℕ) (o : Option Row) → OnRow (IsRowOf line) o → OnRow HasSome o → OnRow (λ (row : Row). (row.line ≡ line) × HasSome row) o
both_of line None h k = tt
both_of line (Some row) h k = (h.line_is, k)

some_by : (line : ℕ) (parts : Parts) (left right : Option ℕ) (price : Option ℤ) → 1 ≤ length parts.surface
    → OnRow HasSome (option_and_then (λ left. option_and_then (λ right. option_map (λ price.
    record { line = line; surface = parts.surface; left = left; right = right; cost = price; feature = parts.feature }) price) right) left)
some_by line parts None right price h = tt
some_by line parts (Some left) None price h = tt
some_by line parts (Some left) (Some right) None h = tt
some_by line parts (Some left) (Some right) (Some z) h = h

short_by : (line : ℕ) (b : Bool) (row : Row) → nat_le (length row.surface) SURFACE_MAX ≡ b → (row.line ≡ line) × HasSome row → OnAccepted (FitsLine line) (cond b (Accepted row) (Rejected SurfaceTooLong))
short_by line true row e h = (h.0, (h.1, leb-true (length row.surface) SURFACE_MAX e))
short_by line false row e h = tt

short_fits : (line : ℕ) (o : Option Row) → OnRow (λ (row : Row). (row.line ≡ line) × HasSome row) o → OnAccepted (FitsLine line) (accept_short o)
short_fits line None h = tt
short_fits line (Some row) h = short_by line (nat_le (length row.surface) SURFACE_MAX) row refl h

one_of : (n : ℕ) → nat_eq n 0 ≡ false → 1 ≤ n
one_of n e = let p = eqb-false n 0 e in omega (arith, p)

skipped_by : (line : ℕ) (parts : Parts) (b : Bool) → nat_eq (length parts.surface) 0 ≡ b → OnAccepted (FitsLine line) (cond b Skipped (accept_short (row_from line parts)))
skipped_by line parts true e = tt
skipped_by line parts false e = short_fits line (row_from line parts) (both_of line (row_from line parts) (row_is line parts)
    (some_by line parts (context_id parts.left) (context_id parts.right) (cost parts.cost) (one_of (length parts.surface) e)))

tested_fits : (line : ℕ) (parts : Parts) → OnAccepted (FitsLine line) (lexicon_outcome line parts)
tested_fits line parts = skipped_by line parts (nat_eq (length parts.surface) 0) refl

-- ---- accepted lines whose ids lie within the sizes

within_by : (b : Bool) (fault : SourceFault) (others : Option SourceFault) → cond b others (Some fault) ≡ None → (b ≡ true) × (others ≡ None)
within_by true fault others h = (refl, h)
within_by false fault others h = absurd (cc)

fitting_rows : (file : ℕ) (sizes : MatrixSizes) (rows : List Row) → first_outside file sizes rows ≡ None → AllByRecursion HasSurface rows → All (IsLexiconRow sizes) rows
fitting_rows file sizes [] e h = All-nil (IsLexiconRow sizes)
fitting_rows file sizes (row ∷ rows) e h =
    let p = within_by (is_pair sizes row.right row.left) (record { file = file; line = row.line; kind = IdOutside }) (first_outside file sizes rows) e in
    All-cons (IsLexiconRow sizes) row rows (record { ids = p.0; some = h.0.0; short = h.0.1 }) (fitting_rows file sizes rows p.1 h.1)

-- the entries with one more lexicon
with_lexicon : (file : ℕ) (bytes : List ℕ) (old new : LexiconRows) (skipped : ℕ) → AreLexiconRows old → AddsLexicon file bytes old new skipped → AreLexiconRows new
with_lexicon file bytes old new skipped h a =
    let r = rows_read lexicon_outcome HasSurface tested_fits file (length old.rows) bytes a.lines a.reads in
    let few = r.few h.few in
    let total = length-append old.rows a.lines.rows in
    let all : AreLexiconRows (record { sizes = old.sizes; rows = old.rows ++ a.lines.rows }) = record {
      each = All-append (IsLexiconRow old.sizes) old.rows a.lines.rows h.each (fitting_rows file old.sizes a.lines.rows a.within r.each);
      few = omega (arith, few, total);
    } in
    subst AreLexiconRows (let e : record { sizes = old.sizes; rows = old.rows ++ a.lines.rows } ≡ new = λ i. record { sizes = sym a.sizes i; rows = sym a.added i } in e) all

pub after_reading : (file : ℕ) (bytes : List ℕ) (old new : LexiconRows) (read : Result ℕ SourceFault) → AreLexiconRows old → is_err read ≡ false
    → IfOk read (AddsLexicon file bytes old new) → AreLexiconRows new
after_reading file bytes old new (Ok skipped) h is a = with_lexicon file bytes old new skipped h a
after_reading file bytes old new (Err fault) h is a = absurd (cc)

-- sorted entries are the same entries
pub sorted_rows : (sizes : MatrixSizes) (rows ordered : List Row) → IsInOrder rows ordered → AreLexiconRows (record { sizes = sizes; rows = rows })
    → AreSortedRows (record { sizes = sizes; rows = ordered })
sorted_rows sizes rows ordered o h =
    let same = length_permutation rows ordered o.same_rows in
    let few = h.few in
    record {
      entries = record { each = All-permutation (IsLexiconRow sizes) rows ordered o.same_rows h.each; few = omega (arith, few, same) };
      sorted = o.by_surface;
    }
