-- `unk.def`, line by line: the outcome of a line, and the list that its row is added to.
use Rattle.std.proofs.Common.{◌≡◌, ℕ, zero, suc, ◌+◌, ◌<◌, ◌≤◌, Bool, true, false, cond, ltb, ◌==◌, List, [], ◌∷◌, ◌++◌, length, get_or, set, map, refl, sym, ◌∙◌, ap, subst, arith, Option, Some, None, ◌⊎◌, inl, inr, length-append}
use Rattle.std.specs.Prelude.{filter, replicate, Ok, Err}
use Rattle.std.specs.List.{enumerate_from}
use Rattle.std.specs.declared.alloc.Global.{Global}
use Rattle.std.specs.declared.vec.Vec.{Vec}
use Rattle.std.proofs.lemmas.Bool.{cond-true, cond-false, ne_eqb, eq-eqb, lt-ltb, le-ltb}
use Rattle.std.proofs.lemmas.List.{append-nil, map-append, map-set, length-map, length-replicate, get_or-map}
use Rattle.std.proofs.lemmas.List.Sums.{position_or_len_is}
use Rattle.mj_model.specs.declared.entry.Record.{Record}
use Rattle.mj_model.specs.declared.limits.TheConstants.{ENTRIES_MAX}
use Rattle.mj_model.specs.declared.source_fault.SourceFault.{SourceFault}
use Rattle.mj_model.specs.declared.source_fault.SourceKind.{SourceKind}
use Rattle.mj_model.specs.declared.source_fault.SourceKind.TheVariants.{NoSuchCategory, TooManyEntries, MissingCategory, Memory}
use Rattle.mj_model.specs.FirstFault.{IsMemoryOr}
use Rattle.mj_model.specs.Lines.{numbered_lines}
use Rattle.mj_model.specs.Lexicon.{Row, row_of, rows_of, Reading, ReadsAs, Outcome, Blank, Skipped, Rejected, Accepted, IsOutcome, is_blank, not_text, too_few, has_parts, row_from}
use Rattle.mj_model.specs.CharDef.{NamedCategory, is_defined, category_number}
use Rattle.mj_model.specs.UnkDef.{accept_defined, unk_outcome, rows_by_category, first_without_rows, check_missing, IsUnkDef}
use Rattle.lex_source.specs.Steps.{IsReadLine, IsRejectedLine, IsReadUpTo, accept_any, row_outcome}
use Rattle.lex_source.proofs.LexiconLemmas.{read_none, line_taken, line_rejected, all_read}
use Rattle.char_def.specs.Definitions.{HasNumber}
use Rattle.char_def.specs.UnkRows.{lists_are, HasAdded, HasReadUnk}

-- ---- the outcome of a line

-- the outcome of a line whose row is accepted with any surface
retested : List NamedCategory → Outcome → Outcome
retested categories Blank = Blank
retested categories Skipped = Skipped
retested categories (Rejected kind) = Rejected kind
retested categories (Accepted row) = accept_defined categories (Some row)

retested_row : (categories : List NamedCategory) (found : Option Row) → accept_defined categories found ≡ retested categories (accept_any found)
unfolding retested
retested_row categories None = refl
retested_row categories (Some row) = refl

retest : (categories : List NamedCategory) (number : ℕ) (line : List ℕ) (o : Outcome) → IsOutcome row_outcome number line o → IsOutcome (unk_outcome categories) number line (retested categories o)
unfolding retested
retest categories number line _ (is_blank blank) = is_blank blank
retest categories number line _ (not_text some bad) = not_text some bad
retest categories number line _ (too_few some utf8 fields are few) = too_few some utf8 fields are few
retest categories number line _ (has_parts some utf8 parts are) =
    subst (λ (o : Outcome). IsOutcome (unk_outcome categories) number line o) (retested_row categories (row_from number parts)) (has_parts some utf8 parts are)

pub blank_taken : (categories : List NamedCategory) (number : ℕ) (line : List ℕ) (held : ℕ) → IsOutcome row_outcome number line Blank → IsReadLine (unk_outcome categories) number line held false []
unfolding retested
blank_taken categories number line held is = record { outcome = Blank; is = retest categories number line Blank is; fits = λ file. refl; appended = refl; counted = refl }

pub rejected_before : (categories : List NamedCategory) (number : ℕ) (line : List ℕ) (held : ℕ) (kind : SourceKind) → IsOutcome row_outcome number line (Rejected kind) → IsRejectedLine (unk_outcome categories) number line held kind
unfolding retested
rejected_before categories number line held kind is = record { outcome = Rejected kind; is = retest categories number line (Rejected kind) is; rejected = λ file. refl }

named_row : (categories : List NamedCategory) (number : ℕ) (line : List ℕ) (row : Row) → IsOutcome row_outcome number line (Accepted row) → is_defined categories row.surface ≡ true → IsOutcome (unk_outcome categories) number line (Accepted row)
unfolding retested
named_row categories number line row is defined =
    subst (λ (o : Outcome). IsOutcome (unk_outcome categories) number line o) (cond-true (is_defined categories row.surface) (Accepted row) (Rejected NoSuchCategory) defined) (retest categories number line (Accepted row) is)

pub unnamed_rejected : (categories : List NamedCategory) (number : ℕ) (line : List ℕ) (held : ℕ) (row : Row) → IsOutcome row_outcome number line (Accepted row) → is_defined categories row.surface ≡ false
    → IsRejectedLine (unk_outcome categories) number line held NoSuchCategory
unfolding retested
unnamed_rejected categories number line held row is undefined = record {
  outcome = Rejected NoSuchCategory;
  is = subst (λ (o : Outcome). IsOutcome (unk_outcome categories) number line o) (cond-false (is_defined categories row.surface) (Accepted row) (Rejected NoSuchCategory) undefined) (retest categories number line (Accepted row) is);
  rejected = λ file. refl;
}

too_many : ℕ → ℕ → Option SourceFault
too_many file number = Some (record { file = file; line = number; kind = TooManyEntries })

pub row_taken : (categories : List NamedCategory) (number : ℕ) (line : List ℕ) (held : ℕ) (row : Row) → IsOutcome row_outcome number line (Accepted row) → is_defined categories row.surface ≡ true → ltb held ENTRIES_MAX ≡ true
    → IsReadLine (unk_outcome categories) number line held false (row ∷ [])
unfolding too_many
row_taken categories number line held row is defined fits = record {
  outcome = Accepted row;
  is = named_row categories number line row is defined;
  fits = λ file. cond-true (ltb held ENTRIES_MAX) None (too_many file number) fits;
  appended = refl;
  counted = refl;
}

pub full_rejected : (categories : List NamedCategory) (number : ℕ) (line : List ℕ) (held : ℕ) (row : Row) → IsOutcome row_outcome number line (Accepted row) → is_defined categories row.surface ≡ true → ltb held ENTRIES_MAX ≡ false
    → IsRejectedLine (unk_outcome categories) number line held TooManyEntries
unfolding too_many
full_rejected categories number line held row is defined full = record {
  outcome = Accepted row;
  is = named_row categories number line row is defined;
  rejected = λ file. cond-false (ltb held ENTRIES_MAX) None (too_many file number) full;
}

-- ---- the list that a row is added to

-- the rows of categories numbered from n on, if `number` gives the category of a row
unfoldable pub rows_from : (Row → ℕ) → ℕ → List NamedCategory → List Row → List (List Row)
rows_from number n categories rows = map (λ (category : ℕ × NamedCategory). filter (λ row. number row == category.0) rows) (enumerate_from n categories)

filter-append_one : (test : Row → Bool) (rows : List Row) (row : Row) → filter test (rows ++ row ∷ []) ≡ filter test rows ++ cond (test row) (row ∷ []) []
filter-append_one test [] row = refl
filter-append_one test (r ∷ rows) row = elim (test r) as (λ b. cond b (r ∷ filter test (rows ++ row ∷ [])) (filter test (rows ++ row ∷ [])) ≡ cond b (r ∷ filter test rows) (filter test rows) ++ cond (test row) (row ∷ []) []) [
  | true ↦ ap (λ (xs : List Row). r ∷ xs) (filter-append_one test rows row)
  | false ↦ filter-append_one test rows row
]

other_rows : (number : Row → ℕ) (n : ℕ) (rows : List Row) (row : Row) → (number row ≡ n → ⊥) → filter (λ r. number r == n) (rows ++ row ∷ []) ≡ filter (λ r. number r == n) rows
other_rows number n rows row other =
    filter-append_one (λ r. number r == n) rows row ∙ ap (λ (b : Bool). filter (λ r. number r == n) rows ++ cond b (row ∷ []) []) (ne_eqb (number row) n other)
    ∙ append-nil (filter (λ r. number r == n) rows)

its_rows : (number : Row → ℕ) (n : ℕ) (rows : List Row) (row : Row) → number row ≡ n → filter (λ r. number r == n) (rows ++ row ∷ []) ≡ filter (λ r. number r == n) rows ++ row ∷ []
its_rows number n rows row is =
    filter-append_one (λ r. number r == n) rows row
    ∙ ap (λ (b : Bool). filter (λ r. number r == n) rows ++ cond b (row ∷ []) []) (eq-eqb (number row) n is)

rows_before : (number : Row → ℕ) (n : ℕ) (categories : List NamedCategory) (rows : List Row) (row : Row) → number row < n → rows_from number n categories (rows ++ row ∷ []) ≡ rows_from number n categories rows
unfolding rows_from
rows_before number n [] rows row low = refl
rows_before number n (c ∷ cs) rows row low =
    ap (λ (xs : List Row). xs ∷ rows_from number (n + 1) cs (rows ++ row ∷ [])) (other_rows number n rows row (λ e. omega arith))
    ∙ ap (λ (xs : List (List Row)). filter (λ r. number r == n) rows ∷ xs) (rows_before number (n + 1) cs rows row (omega arith))

rows_added : (number : Row → ℕ) (n i : ℕ) (categories : List NamedCategory) (rows : List Row) (row : Row) (d : List Row) → number row ≡ n + i → i < length categories
    → rows_from number n categories (rows ++ row ∷ []) ≡ set (rows_from number n categories rows) i (get_or (rows_from number n categories rows) i d ++ row ∷ [])
unfolding rows_from
rows_added number n i [] rows row d is in' = absurd (omega arith)
rows_added number n zero (c ∷ cs) rows row d is in' =
    ap (λ (xs : List Row). xs ∷ rows_from number (n + 1) cs (rows ++ row ∷ [])) (its_rows number n rows row (omega arith))
    ∙ ap (λ (xs : List (List Row)). (filter (λ r. number r == n) rows ++ row ∷ []) ∷ xs) (rows_before number (n + 1) cs rows row (omega arith))
rows_added number n (suc i) (c ∷ cs) rows row d is in' =
    ap (λ (xs : List Row). xs ∷ rows_from number (n + 1) cs (rows ++ row ∷ [])) (other_rows number n rows row (λ e. omega arith))
    ∙ ap (λ (xs : List (List Row)). filter (λ r. number r == n) rows ∷ xs) (rows_added number (n + 1) i cs rows row d (omega arith) (omega arith))

pub row_added : (categories : List NamedCategory) (rows : List Row) (row : Row) (i : ℕ) (d : List Row) → i ≡ category_number categories row.surface → i < length categories
    → rows_by_category categories (rows ++ row ∷ []) ≡ set (rows_by_category categories rows) i (get_or (rows_by_category categories rows) i d ++ row ∷ [])
unfolding rows_from
row_added categories rows row i d is in' = rows_added (λ r. category_number categories r.surface) 0 i categories rows row d (omega (arith, is)) in'

no_rows : (number : Row → ℕ) (n : ℕ) (categories : List NamedCategory) → rows_from number n categories [] ≡ replicate (length categories) []
unfolding rows_from
no_rows number n [] = refl
no_rows number n (c ∷ cs) = ap (λ (xs : List (List Row)). [] ∷ xs) (no_rows number (n + 1) cs)

pub none_added : (categories : List NamedCategory) → rows_by_category categories [] ≡ replicate (length categories) []
unfolding rows_from
none_added categories = no_rows (λ r. category_number categories r.surface) 0 categories

-- a line's row in the list of its category
pub row_held : (categories : List NamedCategory) (number : ℕ) (line : List ℕ) (held i : ℕ) (row : Row) (old new : List (Vec Record Global)) → IsOutcome row_outcome number line (Accepted row)
    → HasNumber categories row.surface i → held < ENTRIES_MAX → lists_are new ≡ set (lists_are old) i (get_or (lists_are old) i [] ++ row ∷ []) → HasAdded categories number line held (held + 1) old new
row_held categories number line held i row old new is named fits set_is = record {
  more = row ∷ [];
  taken = row_taken categories number line held row is named.defined (lt-ltb held ENTRIES_MAX fits);
  counted = refl;
  added = λ rows are. set_is ∙ ap (λ (lists : List (List Row)). set lists i (get_or lists i [] ++ row ∷ [])) are ∙ sym (row_added categories rows row i [] named.is named.within);
}

pub nothing_held : (categories : List NamedCategory) (number : ℕ) (line : List ℕ) (held : ℕ) (lists : List (Vec Record Global)) → IsOutcome row_outcome number line Blank
    → HasAdded categories number line held held lists lists
nothing_held categories number line held lists is = record {
  more = [];
  taken = blank_taken categories number line held is;
  counted = omega arith;
  added = λ rows are. are ∙ ap (rows_by_category categories) (sym (append-nil rows));
}

pub line_bad : (categories : List NamedCategory) (number : ℕ) (line : List ℕ) (held : ℕ) (kind : SourceKind) → (kind ≡ Memory) ⊎ IsOutcome row_outcome number line (Rejected kind)
    → (kind ≡ Memory) ⊎ IsRejectedLine (unk_outcome categories) number line held kind
line_bad categories number line held kind (inl memory) = inl memory
line_bad categories number line held kind (inr cause) = inr (rejected_before categories number line held kind cause)

-- ---- the lines read so far

pub unk_started : (categories : List NamedCategory) (bytes : List ℕ) (left : List (ℕ × List ℕ)) (count : ℕ) (lists : List (Vec Record Global)) → left ≡ numbered_lines bytes → lists_are lists ≡ replicate count []
    → count ≡ length categories → HasReadUnk categories (numbered_lines bytes) left 0 lists
unk_started categories bytes left count lists is empty count_is = record {
  held_rows = [];
  read = subst (λ (ls : List (ℕ × List ℕ)). IsReadUpTo (unk_outcome categories) 0 (numbered_lines bytes) ls [] 0) (sym is) (read_none (unk_outcome categories) 0 bytes);
  held_is = refl;
  lists_is = empty ∙ ap (λ (n : ℕ). replicate n []) count_is ∙ sym (none_added categories);
}

pub as_many : (categories : List NamedCategory) (count : ℕ) (lists : List (Vec Record Global)) → lists_are lists ≡ replicate count [] → count ≡ length categories → length lists ≡ length categories
as_many categories count lists empty count_is =
    sym (length-map lists (λ (list : Vec Record Global). rows_of list.items)) ∙ ap (λ (xs : List (List Row)). length xs) empty ∙ length-replicate count [] ∙ count_is

pub unk_more : (categories : List NamedCategory) (all left lines : List (ℕ × List ℕ)) (number : ℕ) (line : List ℕ) (held now : ℕ) (old new : List (Vec Record Global)) → HasReadUnk categories all lines held old
    → lines ≡ (number, line) ∷ left → HasAdded categories number line held now old new → HasReadUnk categories all left now new
unk_more categories all left lines number line held now old new r is a = record {
  held_rows = r.held_rows ++ a.more;
  read = line_taken (unk_outcome categories) 0 all number line left lines r.held_rows a.more 0 held false is r.read (r.held_is ∙ (let e : length r.held_rows ≡ 0 + length r.held_rows = omega arith in e)) a.taken;
  held_is = a.counted ∙ ap (λ (n : ℕ). n + length a.more) r.held_is ∙ sym (length-append r.held_rows a.more);
  lists_is = a.added r.held_rows r.lists_is;
}

pub unk_rejected : (categories : List NamedCategory) (bytes : List ℕ) (left lines : List (ℕ × List ℕ)) (number : ℕ) (line : List ℕ) (held : ℕ) (kind : SourceKind) (lists : List (Vec Record Global))
    → HasReadUnk categories (numbered_lines bytes) lines held lists → lines ≡ (number, line) ∷ left → (kind ≡ Memory) ⊎ IsRejectedLine (unk_outcome categories) number line held kind
    → (kind ≡ Memory) ⊎ ReadsAs (unk_outcome categories) 2 0 bytes (Err (record { file = 2; line = number; kind = kind }))
unk_rejected categories bytes left lines number line held kind lists r is (inl memory) = inl memory
unk_rejected categories bytes left lines number line held kind lists r is (inr cause) =
    inr (line_rejected (unk_outcome categories) 2 0 bytes number line left lines r.held_rows 0 held kind is r.read (r.held_is ∙ (let e : length r.held_rows ≡ 0 + length r.held_rows = omega arith in e)) cause)

pub unk_read : (categories : List NamedCategory) (bytes : List ℕ) (lines : List (ℕ × List ℕ)) (held : ℕ) (lists : List (Vec Record Global)) → HasReadUnk categories (numbered_lines bytes) lines held lists → lines ≡ []
    → (reading : Reading) × ReadsAs (unk_outcome categories) 2 0 bytes (Ok reading) × (lists_are lists ≡ rows_by_category categories reading.rows)
unk_read categories bytes lines held lists r is = (record { rows = r.held_rows; skipped = 0 }, all_read (unk_outcome categories) 2 0 bytes lines r.held_rows 0 is r.read, r.lists_is)

-- ---- the first category without a line

lists_at : (lists : List (Vec Record Global)) (k : ℕ) (d : Vec Record Global) → k < length lists → (length (get_or (lists_are lists) k (rows_of d.items)) == 0) ≡ (length (get_or lists k d).items == 0)
lists_at lists k d in' =
    ap (λ (rows : List Row). length rows == 0) (get_or-map (λ (list : Vec Record Global). rows_of list.items) lists k d (rows_of d.items) in')
    ∙ ap (λ (n : ℕ). n == 0) (length-map (get_or lists k d).items row_of)

pub first_is : (lists : List (Vec Record Global)) (i : ℕ) (d : Vec Record Global) → i ≤ length lists → ((k : ℕ) (d : Vec Record Global) → k < i → (length (get_or lists k d).items == 0) ≡ false)
    → (i < length lists → (length (get_or lists i d).items == 0) ≡ true) → i ≡ first_without_rows (lists_are lists)
first_is lists i d in' before here =
    let long : length (lists_are lists) ≡ length lists = length-map lists (λ (list : Vec Record Global). rows_of list.items) in
    sym (position_or_len_is (λ rows. length rows == 0) (lists_are lists) i (rows_of d.items) (omega arith) (λ k low. lists_at lists k d (omega arith) ∙ before k d low)
    (λ h. let h' : i < length lists = omega arith in lists_at lists i d h' ∙ here h'))

pub no_list : (lists : List (Vec Record Global)) (n : ℕ) → n ≡ length lists → ((k : ℕ) (d : Vec Record Global) → k < n → (length (get_or lists k d).items == 0) ≡ false) → length lists ≡ first_without_rows (lists_are lists)
no_list [] n is before = refl
no_list (x ∷ xs) n is before = first_is (x ∷ xs) (length (x ∷ xs)) x (omega arith) (λ k d low. before k d (omega arith)) (λ h. absurd (omega arith))

-- ---- the whole file

pub rejected_whole : (categories : List NamedCategory) (bytes : List ℕ) (fault : SourceFault) → IsMemoryOr fault (ReadsAs (unk_outcome categories) 2 0 bytes (Err fault)) → IsMemoryOr fault (IsUnkDef categories bytes (Err fault))
rejected_whole categories bytes fault (inl memory) = inl memory
rejected_whole categories bytes fault (inr cause) = inr (Err fault, cause, refl)

-- what is read, and how many categories there are
pub missing_rejected : (categories : List NamedCategory) (bytes : List ℕ) (lists : List (Vec Record Global)) (missing : ℕ)
    → (reading : Reading) × ReadsAs (unk_outcome categories) 2 0 bytes (Ok reading) × (lists_are lists ≡ rows_by_category categories reading.rows) → missing ≡ first_without_rows (lists_are lists) → missing < length lists
    → IsUnkDef categories bytes (Err (record { file = 2; line = 0; kind = MissingCategory missing }))
missing_rejected categories bytes lists missing r is in' =
    let u : List (List Row) = lists_are lists in
    let long : length u ≡ length lists = length-map lists (λ (list : Vec Record Global). rows_of list.items) in
    let low : first_without_rows u < length u = omega (arith, is) in
    let reported : check_missing u ≡ Err (record { file = 2; line = 0; kind = MissingCategory (first_without_rows u) }) =
    cond-true (ltb (first_without_rows u) (length u)) (Err (record { file = 2; line = 0; kind = MissingCategory (first_without_rows u) })) (Ok u) (lt-ltb (first_without_rows u) (length u) low) in
    (Ok r.0, r.1, ap (λ (i : ℕ). Err (record { file = 2; line = 0; kind = MissingCategory i })) is ∙ sym reported ∙ ap check_missing r.2)

pub none_missing : (categories : List NamedCategory) (bytes : List ℕ) (lists : List (Vec Record Global)) (missing : ℕ)
    → (reading : Reading) × ReadsAs (unk_outcome categories) 2 0 bytes (Ok reading) × (lists_are lists ≡ rows_by_category categories reading.rows) → missing ≡ first_without_rows (lists_are lists) → length lists ≤ missing
    → IsUnkDef categories bytes (Ok (lists_are lists))
none_missing categories bytes lists missing r is out =
    let u : List (List Row) = lists_are lists in
    let long : length u ≡ length lists = length-map lists (λ (list : Vec Record Global). rows_of list.items) in
    let high : length u ≤ first_without_rows u = omega (arith, is) in
    let reported : check_missing u ≡ Ok u = cond-false (ltb (first_without_rows u) (length u)) (Err (record { file = 2; line = 0; kind = MissingCategory (first_without_rows u) })) (Ok u) (le-ltb (first_without_rows u) (length u) high) in
    (Ok r.0, r.1, sym reported ∙ ap check_missing r.2)

-- ---- a list with one more record

pub list_added : (lists : List (Vec Record Global)) (i : ℕ) (old new : Vec Record Global) (made : Record) → i < length lists → old ≡ get_or lists i old → new.items ≡ old.items ++ made ∷ []
    → lists_are (set lists i new) ≡ set (lists_are lists) i (get_or (lists_are lists) i [] ++ row_of made ∷ [])
list_added lists i old new made in' is more =
    map-set (λ (list : Vec Record Global). rows_of list.items) lists i new
    ∙ ap (λ (rows : List Row). set (lists_are lists) i rows)
    (ap rows_of more ∙ map-append row_of old.items (made ∷ []) ∙ ap (λ (rows : List Row). rows ++ row_of made ∷ [])
    (ap (λ (list : Vec Record Global). rows_of list.items) is ∙ sym (get_or-map (λ (list : Vec Record Global). rows_of list.items) lists i old [] in')))
