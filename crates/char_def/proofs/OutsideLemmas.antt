-- The least line of the rows whose ids lie outside.
use Rattle.std.proofs.Common.{◌≡◌, ℕ, ◌+◌, ◌<◌, ◌≤◌, Bool, true, false, cond, List, [], ◌∷◌, ◌++◌, length, map, take, get_or, filter, refl, sym, ap, ◌∙◌, subst, arith, append_assoc, take_all, min, Option, inl, inr}
use Rattle.std.specs.List.{AllByRecursion}
use Rattle.std.specs.declared.alloc.Global.{Global}
use Rattle.std.specs.declared.vec.Vec.{Vec}
use Rattle.std.proofs.lemmas.Bool.{cases_lt}
use Rattle.std.proofs.lemmas.List.{take_more, map-append, append-nil}
use Rattle.std.proofs.lemmas.List.Concat.{flat_map-append}
use Rattle.std.proofs.lemmas.List.Elements.{filter-append}
use Rattle.mj_model.specs.declared.entry.Record.{Record}
use Rattle.mj_model.specs.declared.matrix_sizes.MatrixSizes.{MatrixSizes}
use Rattle.mj_model.specs.Lexicon.{Row, row_of, rows_of}
use Rattle.mj_model.proofs.Members.{append_in}
use Rattle.char_def.specs.UnkRows.{lists_are}
use Rattle.char_def.specs.Outside.{is_outside, lines_outside, all_lines_outside, IsLeast, IsLeastOf}

-- ---- the least of numbers

none_below-append : (n : ℕ) (xs ys : List ℕ) → AllByRecursion (λ m. n ≤ m) xs → AllByRecursion (λ m. n ≤ m) ys → AllByRecursion (λ m. n ≤ m) (xs ++ ys)
none_below-append n [] ys h k = k
none_below-append n (x ∷ xs) ys h k = (h.0, none_below-append n xs ys h.1 k)

none_below_less : (n m : ℕ) (xs : List ℕ) → m ≤ n → AllByRecursion (λ k. n ≤ k) xs → AllByRecursion (λ k. m ≤ k) xs
none_below_less n m [] less h = tt
none_below_less n m (x ∷ xs) less h = (omega (arith, less, h.0), none_below_less n m xs less h.1)

least_kept : (xs : List ℕ) (n line : ℕ) → n ≤ line → IsLeast xs n → IsLeast (xs ++ line ∷ []) n
least_kept xs n line less h = record {
  is_one = append_in xs (line ∷ []) n (inl h.is_one);
  none_below = none_below-append n xs (line ∷ []) h.none_below (less, tt);
}

least_replaced : (xs : List ℕ) (n line : ℕ) → line ≤ n → IsLeast xs n → IsLeast (xs ++ line ∷ []) line
least_replaced xs n line less h = record {
  is_one = append_in xs (line ∷ []) line (inr (inl refl));
  none_below = none_below-append line xs (line ∷ []) (none_below_less n line xs less h.none_below) (omega arith, tt);
}

pub least_min : (xs : List ℕ) (n line : ℕ) → IsLeast xs n → IsLeast (xs ++ line ∷ []) (min n line)
least_min xs n line h = elim (cases_lt line n) [
  | inl less ↦ let e : line ≡ min n line = omega (arith, less) in subst (IsLeast (xs ++ line ∷ [])) e (least_replaced xs n line (omega (arith, less)) h)
  | inr less ↦ let e : n ≡ min n line = omega (arith, less) in subst (IsLeast (xs ++ line ∷ [])) e (least_kept xs n line less h)
]

pub least_first : (xs : List ℕ) (line : ℕ) → xs ≡ [] → IsLeast (xs ++ line ∷ []) line
least_first xs line h = subst (λ (ys : List ℕ). IsLeast (ys ++ line ∷ []) line) (sym h) (record { is_one = inl refl; none_below = (omega arith, tt) })

-- ---- records one after another

line_by : (b : Bool) (row : Row) → map (λ (r : Row). r.line) (cond b (row ∷ []) []) ≡ cond b (row.line ∷ []) []
line_by true row = refl
line_by false row = refl

outside_one : (sizes : MatrixSizes) (xs : List Row) (row : Row) → lines_outside sizes (xs ++ row ∷ []) ≡ lines_outside sizes xs ++ cond (is_outside sizes row) (row.line ∷ []) []
outside_one sizes xs row = ap (map (λ (r : Row). r.line)) (filter-append (is_outside sizes) xs (row ∷ [])) ∙ map-append (λ (r : Row). r.line) (filter (is_outside sizes) xs) (filter (is_outside sizes) (row ∷ []))
    ∙ ap (λ (ls : List ℕ). lines_outside sizes xs ++ ls) (line_by (is_outside sizes row) row)

rows_more : (records : List Record) (i : ℕ) (r : Record) → i < length records → r ≡ get_or records i r → rows_of (take (i + 1) records) ≡ rows_of (take i records) ++ row_of r ∷ []
rows_more records i r low is = ap rows_of (take_more records i r low) ∙ map-append row_of (take i records) (get_or records i r ∷ []) ∙ ap (λ (x : Record). rows_of (take i records) ++ row_of x ∷ []) (sym is)

-- the lines so far, and those of one more record
lines_more : (sizes : MatrixSizes) (before : List ℕ) (records : List Record) (i : ℕ) (r : Record) → i < length records → r ≡ get_or records i r
    → before ++ lines_outside sizes (rows_of (take (i + 1) records)) ≡ (before ++ lines_outside sizes (rows_of (take i records))) ++ cond (is_outside sizes (row_of r)) (r.line ∷ []) []
lines_more sizes before records i r low is =
    ap (λ (rows : List Row). before ++ lines_outside sizes rows) (rows_more records i r low is) ∙ ap (λ (ls : List ℕ). before ++ ls) (outside_one sizes (rows_of (take i records)) (row_of r))
    ∙ sym (append_assoc before (lines_outside sizes (rows_of (take i records))) (cond (is_outside sizes (row_of r)) (r.line ∷ []) []))

pub outside_more : (sizes : MatrixSizes) (before : List ℕ) (records : List Record) (i : ℕ) (r : Record) (found : Option ℕ) → i < length records → r ≡ get_or records i r → is_outside sizes (row_of r) ≡ true
    → IsLeastOf ((before ++ lines_outside sizes (rows_of (take i records))) ++ r.line ∷ []) found → IsLeastOf (before ++ lines_outside sizes (rows_of (take (i + 1) records))) found
outside_more sizes before records i r found low is out h =
    subst (λ (ls : List ℕ). IsLeastOf ls found)
    (sym (lines_more sizes before records i r low is ∙ ap (λ (b : Bool). (before ++ lines_outside sizes (rows_of (take i records))) ++ cond b (r.line ∷ []) []) out)) h

pub inside_more : (sizes : MatrixSizes) (before : List ℕ) (records : List Record) (i : ℕ) (r : Record) (found : Option ℕ) → i < length records → r ≡ get_or records i r → is_outside sizes (row_of r) ≡ false
    → IsLeastOf (before ++ lines_outside sizes (rows_of (take i records))) found → IsLeastOf (before ++ lines_outside sizes (rows_of (take (i + 1) records))) found
inside_more sizes before records i r found low is out h =
    subst (λ (ls : List ℕ). IsLeastOf ls found)
    (sym (lines_more sizes before records i r low is ∙ ap (λ (b : Bool). (before ++ lines_outside sizes (rows_of (take i records))) ++ cond b (r.line ∷ []) []) out
    ∙ append-nil (before ++ lines_outside sizes (rows_of (take i records))))) h

pub all_scanned : (sizes : MatrixSizes) (before : List ℕ) (records : List Record) (i : ℕ) (found : Option ℕ) → length records ≤ i
    → IsLeastOf (before ++ lines_outside sizes (rows_of (take i records))) found → IsLeastOf (before ++ lines_outside sizes (rows_of records)) found
all_scanned sizes before records i found all h = subst (λ (rs : List Record). IsLeastOf (before ++ lines_outside sizes (rows_of rs)) found) (take_all i records all) h

-- ---- the records of one category after another

pub lists_more : (sizes : MatrixSizes) (lists : List (Vec Record Global)) (i : ℕ) (list : Vec Record Global) (found : Option ℕ) → i < length lists → list ≡ get_or lists i list
    → IsLeastOf (all_lines_outside sizes (lists_are (take i lists)) ++ lines_outside sizes (rows_of list.items)) found → IsLeastOf (all_lines_outside sizes (lists_are (take (i + 1) lists))) found
lists_more sizes lists i list found low is h =
    let last : List (List Row) = rows_of list.items ∷ [] in
    subst (λ (ls : List ℕ). IsLeastOf ls found)
    (sym (ap (λ (ls : List (Vec Record Global)). all_lines_outside sizes (lists_are ls)) (take_more lists i list low ∙ ap (λ (x : Vec Record Global). take i lists ++ x ∷ []) (sym is))
    ∙ ap (all_lines_outside sizes) (map-append (λ (l : Vec Record Global). rows_of l.items) (take i lists) (list ∷ []))
    ∙ flat_map-append (lines_outside sizes) (lists_are (take i lists)) last
    ∙ ap (λ (ls : List ℕ). all_lines_outside sizes (lists_are (take i lists)) ++ ls) (append-nil (lines_outside sizes (rows_of list.items))))) h
