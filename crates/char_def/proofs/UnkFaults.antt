-- The first error of `unk.def`: that of its lines, then a category without a line, then the first
-- line whose ids lie outside.
use Rattle.std.proofs.Common.{◌≡◌, ℕ, zero, suc, ◌+◌, ◌<◌, ◌≤◌, ◌^◌, Bool, true, false, cond, List, [], ◌∷◌, length, get_or, map, filter, refl, sym, ap, ◌∙◌, subst, arith, Option, Some, None, inl, inr}
use Rattle.std.specs.Prelude.{Result, Ok, Err, ◌==◌, nat_lt, not}
use Rattle.std.specs.List.{AllByRecursion, enumerate_from}
use Rattle.std.proofs.lemmas.Bool.{eq-eqb}
use Rattle.mj_model.specs.declared.source_fault.SourceFault.{SourceFault}
use Rattle.mj_model.specs.declared.source_fault.SourceKind.TheVariants.{NoSuchCategory, MissingCategory, IdOutside}
use Rattle.mj_model.specs.Bounds.{IsWithin}
use Rattle.mj_model.specs.CharDef.{NamedCategory, is_defined, category_number}
use Rattle.mj_model.specs.declared.matrix_sizes.MatrixSizes.{MatrixSizes}
use Rattle.mj_model.specs.Connection.{is_pair}
use Rattle.mj_model.specs.Dictionary.{first_outside}
use Rattle.mj_model.specs.FirstFault.{IsMemoryOr}
use Rattle.mj_model.specs.Lists.{IsMember}
use Rattle.mj_model.specs.Lexicon.{Row, Accepted, Rejected, row_from, Reading, ReadsAs}
use Rattle.mj_model.specs.UnkDef.{accept_defined, unk_outcome, rows_named, rows_by_category, first_without_rows, unknown_from, IsUnkDef, rows_or, check_outside, IsUnkWithin}
use Rattle.mj_model.proofs.AcceptedRows.{IsRowOf, OnRow, OnAccepted, row_is, LinesRise, AreReadRows, rows_read}
use Rattle.mj_model.proofs.Members.{in_map, map_in, in_filter, filter_in, in_flat_map, flat_map_in, each_holds, none_appears, holds_in}
use Rattle.char_def.specs.Outside.{is_outside, lines_outside, all_lines_outside, IsLeast}
use Rattle.char_def.proofs.AcceptedChars.{number_within}

-- ---- accepted rows

-- a row of `unk.def`: it names a category, and its cost has 16 bits
pub record IsUnkRow (categories : List NamedCategory) (row : Row) : Type 0 where
  pub named : is_defined categories row.surface ≡ true
  pub cost_fits : IsWithin (2 ^ 15) row.cost

named_by : (categories : List NamedCategory) (number : ℕ) (row : Row) (b : Bool) → is_defined categories row.surface ≡ b → IsRowOf number row
    → OnAccepted (λ (r : Row). (r.line ≡ number) × IsUnkRow categories r) (cond b (Accepted row) (Rejected NoSuchCategory))
named_by categories number row true named is = (is.line_is, record { named = named; cost_fits = is.cost_fits })
named_by categories number row false named is = tt

tested_by : (categories : List NamedCategory) (number : ℕ) (found : Option Row) → OnRow (IsRowOf number) found → OnAccepted (λ (r : Row). (r.line ≡ number) × IsUnkRow categories r) (accept_defined categories found)
tested_by categories number None h = tt
tested_by categories number (Some row) h = named_by categories number row (is_defined categories row.surface) refl h

-- the rows of an accepted `unk.def`
pub unk_rows : (categories : List NamedCategory) (bytes : List ℕ) (reading : Reading) → ReadsAs (unk_outcome categories) 2 0 bytes (Ok reading) → AreReadRows (IsUnkRow categories) 0 reading.rows
unk_rows categories bytes reading h =
    rows_read (unk_outcome categories) (IsUnkRow categories) (λ number parts. tested_by categories number (row_from number parts) (row_is number parts)) 2 0 bytes reading h

-- ---- the rows and the rows of each category have the same lines outside

outside_in : (sizes : MatrixSizes) (rows : List Row) (n : ℕ) → IsMember (lines_outside sizes rows) n → (row : Row) × IsMember rows row × (is_outside sizes row ≡ true) × (row.line ≡ n)
outside_in sizes rows n h =
    let m = in_map (λ (row : Row). row.line) (filter (is_outside sizes) rows) n h in
    let f = in_filter (is_outside sizes) rows m.0 m.1 in
    (m.0, f.0, f.1, m.2)

in_outside : (sizes : MatrixSizes) (rows : List Row) (row : Row) (n : ℕ) → IsMember rows row → is_outside sizes row ≡ true → row.line ≡ n → IsMember (lines_outside sizes rows) n
in_outside sizes rows row n h out is = subst (IsMember (lines_outside sizes rows)) is (map_in (λ (r : Row). r.line) (filter (is_outside sizes) rows) row (filter_in (is_outside sizes) rows row h out))

abbrev rows_numbered : List NamedCategory → List Row → (ℕ × NamedCategory) → List Row
rows_numbered categories rows category = rows_named categories rows category.0

numbered_in : (n i : ℕ) (cs : List NamedCategory) (d : NamedCategory) → i < length cs → IsMember (enumerate_from n cs) (n + i, get_or cs i d)
numbered_in n i [] d less = absurd (omega arith)
numbered_in n zero (c ∷ cs) d less = inl (ap (λ (k : ℕ). (k, c)) (let e : n ≡ n + 0 = omega arith in e))
numbered_in n (suc i) (c ∷ cs) d less =
    inr (subst (λ (k : ℕ). IsMember (enumerate_from (n + 1) cs) (k, get_or cs i d)) (let e : n + 1 + i ≡ n + suc i = omega arith in e) (numbered_in (n + 1) i cs d (omega arith)))

from_categories : (sizes : MatrixSizes) (categories : List NamedCategory) (rows : List Row) (n : ℕ) → IsMember (all_lines_outside sizes (rows_by_category categories rows)) n → IsMember (lines_outside sizes rows) n
from_categories sizes categories rows n h =
    let list = in_flat_map (lines_outside sizes) (rows_by_category categories rows) n h in
    let its = in_map (rows_numbered categories rows) (enumerate_from 0 categories) list.0 list.1 in
    let out = outside_in sizes list.0 n list.2 in
    let there = in_filter (λ (row : Row). category_number categories row.surface == its.0.0) rows out.0 (subst (λ (xs : List Row). IsMember xs out.0) (sym its.2) out.1) in
    in_outside sizes rows out.0 n there.0 out.2 out.3

no_name : NamedCategory
no_name = record { name = []; category = record { invoke = false; group = false; length = 0 } }

to_categories : (sizes : MatrixSizes) (categories : List NamedCategory) (rows : List Row) (n : ℕ) → AllByRecursion (IsUnkRow categories) rows → IsMember (lines_outside sizes rows) n
    → IsMember (all_lines_outside sizes (rows_by_category categories rows)) n
to_categories sizes categories rows n named h =
    let out = outside_in sizes rows n h in
    let i = category_number categories out.0.surface in
    let low = number_within categories out.0.surface (holds_in (IsUnkRow categories) rows out.0 named out.1).named in
    let there = filter_in (λ (row : Row). category_number categories row.surface == 0 + i) rows out.0 out.1 (eq-eqb i (0 + i) (omega arith)) in
    flat_map_in (lines_outside sizes) (rows_by_category categories rows) (rows_named categories rows (0 + i)) n
    (map_in (rows_numbered categories rows) (enumerate_from 0 categories) (0 + i, get_or categories i no_name) (numbered_in 0 i categories no_name low))
    (in_outside sizes (rows_named categories rows (0 + i)) out.0 n there out.2 out.3)

-- ---- the first row outside is the one with the least line

later_lines : (sizes : MatrixSizes) (from n : ℕ) (rows : List Row) → LinesRise from rows → IsMember (lines_outside sizes rows) n → from ≤ n
later_lines sizes from n [] rise h = absurd h
later_lines sizes from n (row ∷ rows) rise h =
    let out = outside_in sizes (row ∷ rows) n h in
    elim out.1 [
      | inl e ↦ let at = ap (λ (r : Row). r.line) e in omega (arith, rise.0, at, out.3)
      | inr more ↦ let l = later_lines sizes (row.line + 1) n rows rise.1 (in_outside sizes rows out.0 n more out.2 out.3) in omega (arith, rise.0, l)
    ]

first_by : (sizes : MatrixSizes) (row : Row) (rows : List Row) (n : ℕ) (b : Bool) → is_pair sizes row.right row.left ≡ b → LinesRise (row.line + 1) rows
    → (IsLeast (lines_outside sizes rows) n → first_outside 2 sizes rows ≡ Some (record { file = 2; line = n; kind = IdOutside }))
    → IsLeast (map (λ (r : Row). r.line) (cond (not b) (row ∷ filter (is_outside sizes) rows) (filter (is_outside sizes) rows))) n
    → cond b (first_outside 2 sizes rows) (Some (record { file = 2; line = row.line; kind = IdOutside })) ≡ Some (record { file = 2; line = n; kind = IdOutside })
first_by sizes row rows n true e rise rest h = rest h
first_by sizes row rows n false e rise rest h =
    ap (λ (k : ℕ). Some (let f : SourceFault = record { file = 2; line = k; kind = IdOutside } in f))
    (elim h.is_one as (λ x. row.line ≡ n) [
      | inl same ↦ same
      | inr more ↦ let l = later_lines sizes (row.line + 1) n rows rise more in let low = h.none_below.0 in absurd (omega (arith, l, low))
    ])

first_is : (sizes : MatrixSizes) (from n : ℕ) (rows : List Row) → LinesRise from rows → IsLeast (lines_outside sizes rows) n → first_outside 2 sizes rows ≡ Some (record { file = 2; line = n; kind = IdOutside })
first_is sizes from n [] rise h = absurd h.is_one
first_is sizes from n (row ∷ rows) rise h = first_by sizes row rows n (is_pair sizes row.right row.left) refl rise.1 (first_is sizes (row.line + 1) n rows rise.1) h

none_by : (sizes : MatrixSizes) (row : Row) (rows : List Row) (b : Bool) → (lines_outside sizes rows ≡ [] → first_outside 2 sizes rows ≡ None)
    → map (λ (r : Row). r.line) (cond (not b) (row ∷ filter (is_outside sizes) rows) (filter (is_outside sizes) rows)) ≡ []
    → cond b (first_outside 2 sizes rows) (Some (record { file = 2; line = row.line; kind = IdOutside })) ≡ None
none_by sizes row rows true rest h = rest h
none_by sizes row rows false rest h = absurd (cc)

none_is : (sizes : MatrixSizes) (rows : List Row) → lines_outside sizes rows ≡ [] → first_outside 2 sizes rows ≡ None
none_is sizes [] h = refl
none_is sizes (row ∷ rows) h = none_by sizes row rows (is_pair sizes row.right row.left) (none_is sizes rows) h

-- ---- the file

abbrev rows_reported : Result (List (List Row)) SourceFault → List (List Row)
rows_reported (Ok unknown) = unknown
rows_reported (Err fault) = []

-- the reading of an accepted `unk.def`
pub record IsReadFrom (categories : List NamedCategory) (bytes : List ℕ) (unknown : List (List Row)) : Type 0 where
  pub reading : Reading
  pub reads : ReadsAs (unk_outcome categories) 2 0 bytes (Ok reading)
  pub none_missing : Ok unknown ≡ unknown_from categories (Ok reading)
  pub rows_are : unknown ≡ rows_by_category categories reading.rows

rows_if_none : (unknown : List (List Row)) (rows : List (List Row)) (b : Bool)
    → ◌≡◌ {A = Result (List (List Row)) SourceFault} (Ok unknown) (cond b (Err (record { file = 2; line = 0; kind = MissingCategory (first_without_rows rows) })) (Ok rows)) → unknown ≡ rows
rows_if_none unknown rows true h = absurd (cc)
rows_if_none unknown rows false h = ap rows_reported h

read_from_by : (categories : List NamedCategory) (bytes : List ℕ) (unknown : List (List Row)) (reading : Result Reading SourceFault) → ReadsAs (unk_outcome categories) 2 0 bytes reading → Ok unknown ≡ unknown_from categories reading
    → IsReadFrom categories bytes unknown
read_from_by categories bytes unknown (Err fault) reads h = absurd (cc)
read_from_by categories bytes unknown (Ok lines) reads h =
    let rows = rows_by_category categories lines.rows in
    record { reading = lines; reads = reads; none_missing = h; rows_are = rows_if_none unknown rows (nat_lt (first_without_rows rows) (length rows)) h }

pub read_from : (categories : List NamedCategory) (bytes : List ℕ) (unknown : List (List Row)) → IsUnkDef categories bytes (Ok unknown) → IsReadFrom categories bytes unknown
read_from categories bytes unknown h = read_from_by categories bytes unknown h.0 h.1 h.2

handle_result : (sizes : MatrixSizes) (categories : List NamedCategory) (bytes : List ℕ) (fault : SourceFault) (reading : Result Reading SourceFault) → ReadsAs (unk_outcome categories) 2 0 bytes reading → Err fault ≡ unknown_from categories reading
    → IsUnkWithin sizes categories bytes (Err fault)
handle_result sizes categories bytes fault (Err found) reads h = (Err found, reads, h)
handle_result sizes categories bytes fault (Ok lines) reads h = (Ok lines, reads, ap (check_outside sizes lines.rows) h)

-- an error of the reader is the first one
pub reader_reported : (sizes : MatrixSizes) (categories : List NamedCategory) (bytes : List ℕ) (fault : SourceFault) → IsMemoryOr fault (IsUnkDef categories bytes (Err fault)) → IsMemoryOr fault (IsUnkWithin sizes categories bytes (Err fault))
reader_reported sizes categories bytes fault (inl memory) = inl memory
reader_reported sizes categories bytes fault (inr cause) = inr (handle_result sizes categories bytes fault cause.0 cause.1 cause.2)

-- the least line outside is the first error, if the reader finds none
pub line_reported : (sizes : MatrixSizes) (categories : List NamedCategory) (bytes : List ℕ) (unknown : List (List Row)) (line : ℕ) → IsUnkDef categories bytes (Ok unknown) → IsLeast (all_lines_outside sizes unknown) line
    → IsUnkWithin sizes categories bytes (Err (record { file = 2; line = line; kind = IdOutside }))
line_reported sizes categories bytes unknown line h least =
    let r = read_from categories bytes unknown h in
    let rows = r.reading.rows in
    let all = all_lines_outside sizes (rows_by_category categories rows) in
    let u = unk_rows categories bytes r.reading r.reads in
    let here = subst (λ (lists : List (List Row)). IsLeast (all_lines_outside sizes lists) line) r.rows_are least in
    let first = first_is sizes 1 line rows u.rise (record {
      is_one = from_categories sizes categories rows line here.is_one;
      none_below = each_holds (λ m. line ≤ m) (lines_outside sizes rows) (λ n i. holds_in (λ m. line ≤ m) all n here.none_below (to_categories sizes categories rows n u.each i));
    }) in
    (Ok r.reading, r.reads, sym (ap (check_outside sizes rows) (sym r.none_missing) ∙ ap (λ (o : Option SourceFault). rows_or o unknown) first))

-- without a line outside there is no error
pub none_reported : (sizes : MatrixSizes) (categories : List NamedCategory) (bytes : List ℕ) (unknown : List (List Row)) → IsUnkDef categories bytes (Ok unknown) → all_lines_outside sizes unknown ≡ [] → IsUnkWithin sizes categories bytes (Ok unknown)
none_reported sizes categories bytes unknown h none =
    let r = read_from categories bytes unknown h in
    let rows = r.reading.rows in
    let u = unk_rows categories bytes r.reading r.reads in
    let here = ap (all_lines_outside sizes) (sym r.rows_are) ∙ none in
    let empty = none_appears (lines_outside sizes rows) (λ n i. subst (λ (ns : List ℕ). IsMember ns n) here (to_categories sizes categories rows n u.each i)) in
    (Ok r.reading, r.reads, sym (ap (check_outside sizes rows) (sym r.none_missing) ∙ ap (λ (o : Option SourceFault). rows_or o unknown) (none_is sizes rows empty)))

-- ---- an accepted file has no line outside
