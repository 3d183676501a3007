-- The unknown entries of an accepted `unk.def`: each category has one, and there are few enough.
use Rattle.std.proofs.Common.{◌≡◌, ℕ, ◌+◌, ◌<◌, ◌≤◌, Bool, true, false, cond, List, [], ◌∷◌, length, filter, refl, sym, ap, subst, arith}
use Rattle.std.specs.Prelude.{Result, Ok, Err, ◌==◌, not, nat_lt, nat_eq}
use Rattle.std.specs.List.{AllByRecursion, sum_by, position_or_len}
use Rattle.std.proofs.lemmas.Bool.{ltb-false, ne_eqb, eqb-false, eqb-true}
use Rattle.std.proofs.lemmas.List.Sums.{sum_by-cons}
use Rattle.mj_model.specs.declared.source_fault.SourceFault.{SourceFault}
use Rattle.mj_model.specs.declared.source_fault.SourceKind.TheVariants.{MissingCategory}
use Rattle.mj_model.specs.CharDef.{NamedCategory, category_number}
use Rattle.mj_model.specs.Lexicon.{Row}
use Rattle.mj_model.specs.UnkDef.{rows_by_category, first_without_rows, IsUnkDef}
use Rattle.char_def.specs.UnknownLists.{AreUnknownLists}
use Rattle.char_def.proofs.UnkLemmas.{rows_from}
use Rattle.char_def.proofs.UnkFaults.{unk_rows, read_from}

-- ---- each category has an entry

abbrev IsFilled : List Row → Type 0
IsFilled rows = 0 < length rows

filled_by : (rows : List Row) (unknown : List (List Row)) (b : Bool) → nat_eq (length rows) 0 ≡ b → (length unknown ≤ position_or_len (λ (r : List Row). length r == 0) unknown → AllByRecursion IsFilled unknown)
    → length (rows ∷ unknown) ≤ cond (not b) (1 + position_or_len (λ (r : List Row). length r == 0) unknown) 0 → AllByRecursion IsFilled (rows ∷ unknown)
filled_by rows unknown true e rest h = absurd (omega (arith, h))
filled_by rows unknown false e rest h = (let p = eqb-false (length rows) 0 e in omega (arith, p), rest (omega (arith, h)))

filled : (unknown : List (List Row)) → length unknown ≤ first_without_rows unknown → AllByRecursion IsFilled unknown
filled [] h = tt
filled (rows ∷ unknown) h = filled_by rows unknown (nat_eq (length rows) 0) refl (filled unknown) h

filled_if : (unknown rows : List (List Row)) (b : Bool) → nat_lt (first_without_rows rows) (length rows) ≡ b
    → ◌≡◌ {A = Result (List (List Row)) SourceFault} (Ok unknown) (cond b (Err (record { file = 2; line = 0; kind = MissingCategory (first_without_rows rows) })) (Ok rows)) → AllByRecursion IsFilled rows
filled_if unknown rows true e h = absurd (cc)
filled_if unknown rows false e h = filled rows (ltb-false (first_without_rows rows) (length rows) e)

-- ---- no row is in two categories

abbrev total : (Row → ℕ) → ℕ → List NamedCategory → List Row → ℕ
total number n categories rows = sum_by length (rows_from number n categories rows)

total_first : (number : Row → ℕ) (n : ℕ) (c : NamedCategory) (cs : List NamedCategory) (rows : List Row) → total number n (c ∷ cs) rows ≡ length (filter (λ row. number row == n) rows) + total number (n + 1) cs rows
unfolding rows_from
total_first number n c cs rows = sum_by-cons length (filter (λ row. number row == n) rows) (rows_from number (n + 1) cs rows)

total_before : (number : Row → ℕ) (n : ℕ) (categories : List NamedCategory) (row : Row) (rows : List Row) → number row < n → total number n categories (row ∷ rows) ≡ total number n categories rows
unfolding rows_from
total_before number n [] row rows low = refl
total_before number n (c ∷ cs) row rows low =
    let a = total_first number n c cs (row ∷ rows) in
    let b = total_first number n c cs rows in
    let rest = total_before number (n + 1) cs row rows (omega (arith, low)) in
    let here = ap (λ (b : Bool). length (cond b (row ∷ filter (λ r. number r == n) rows) (filter (λ r. number r == n) rows))) (ne_eqb (number row) n (λ e. omega (arith, low, e))) in
    omega (arith, a, b, rest, here)

total_by : (number : Row → ℕ) (n : ℕ) (c : NamedCategory) (cs : List NamedCategory) (row : Row) (rows : List Row) (b : Bool) → nat_eq (number row) n ≡ b → total number (n + 1) cs (row ∷ rows) ≤ total number (n + 1) cs rows + 1
    → length (cond b (row ∷ filter (λ r. number r == n) rows) (filter (λ r. number r == n) rows)) + total number (n + 1) cs (row ∷ rows) ≤ length (filter (λ r. number r == n) rows) + total number (n + 1) cs rows + 1
total_by number n c cs row rows true e rest = let same = eqb-true (number row) n e in let before = total_before number (n + 1) cs row rows (omega (arith, same)) in omega (arith, before)
total_by number n c cs row rows false e rest = omega (arith, rest)

total_more : (number : Row → ℕ) (n : ℕ) (categories : List NamedCategory) (row : Row) (rows : List Row) → total number n categories (row ∷ rows) ≤ total number n categories rows + 1
unfolding rows_from
total_more number n [] row rows = omega arith
total_more number n (c ∷ cs) row rows =
    let a = total_first number n c cs (row ∷ rows) in
    let b = total_first number n c cs rows in
    let more = total_by number n c cs row rows (nat_eq (number row) n) refl (total_more number (n + 1) cs row rows) in
    omega (arith, a, b, more)

total_none : (number : Row → ℕ) (n : ℕ) (categories : List NamedCategory) → total number n categories [] ≡ 0
unfolding rows_from
total_none number n [] = refl
total_none number n (c ∷ cs) = let a = total_first number n c cs [] in let rest = total_none number (n + 1) cs in omega (arith, a, rest)

total_few : (number : Row → ℕ) (categories : List NamedCategory) (rows : List Row) → total number 0 categories rows ≤ length rows
total_few number categories [] = let none = total_none number 0 categories in omega (arith, none)
total_few number categories (row ∷ rows) =
    let more = total_more number 0 categories row rows in
    let rest = total_few number categories rows in
    omega (arith, more, rest)

-- ---- the file

pub lists_formed : (categories : List NamedCategory) (bytes : List ℕ) (unknown : List (List Row)) → IsUnkDef categories bytes (Ok unknown) → AreUnknownLists unknown
unfolding rows_from
lists_formed categories bytes unknown h =
    let r = read_from categories bytes unknown h in
    let rows = r.reading.rows in
    let lists = rows_by_category categories rows in
    let few = total_few (λ row. category_number categories row.surface) categories rows in
    let all = (unk_rows categories bytes r.reading r.reads).few (omega arith) in
    subst AreUnknownLists (sym r.rows_are) (record {
      some = filled_if unknown lists (nat_lt (first_without_rows lists) (length lists)) refl r.none_missing;
      few = omega (arith, few, all);
    })
