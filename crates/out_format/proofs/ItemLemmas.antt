-- A text starts with at most one item: no row's letters are a prefix of another row's, and none
-- starts with the letter of the fields.
use Rattle.std.proofs.Common.{◌≡◌, ℕ, Bool, ◌+◌, ◌-◌, ◌<◌, ◌≤◌, Option, Some, None, cond, ◌==◌, true, false, List, [], ◌∷◌, ◌++◌, length, drop, take, get_or, refl, sym, ◌∙◌, ap, subst, inl, inr, append_assoc, arith, Contains}
use Rattle.std.specs.Prelude.{◌&&◌, map}
use Rattle.std.specs.List.{AllPairs, list_all, list_any, starts_with}
use Rattle.std.proofs.lemmas.Bool.{cases_eq, cases_order, and_parts, and_from, or_from, eq-eqb, cond-true}
use Rattle.std.proofs.lemmas.Bool.Decides.{Decides-eqb}
use Rattle.std.proofs.lemmas.List.{drop_at, get_or_default, get_or-map, length-map, take_all, take_rest}
use Rattle.std.proofs.lemmas.List.Elements.{All-contains, Contains-get_or}
use Rattle.std.proofs.lemmas.List.Folds.{list_any_at, list_any_more}
use Rattle.std.proofs.lemmas.List.Kept.{AllPairs-cons}
use Rattle.std.proofs.lemmas.List.Sums.{AllPass-from_list_all}
use Rattle.std.proofs.lemmas.Slice.Eq.{starts_is}
use Rattle.mj_model.specs.declared.format_item.FormatItem.{FormatItem}
use Rattle.mj_model.specs.declared.format_item.FormatItem.TheVariants as item
use Rattle.mj_model.specs.declared.format_fault.FormatPart.{FormatPart}
use Rattle.mj_model.proofs.Basics.{same_head, same_tail}
use Rattle.out_format.specs.declared.first_item.FirstItem.{FirstItem}
use Rattle.out_format.specs.declared.items.AllowedIn.TheVariants.{Words}
use Rattle.out_format.specs.declared.items.TheConstants.{ITEMS}
use Rattle.out_format.specs.Formats.{Row, includes, IsListed, IsField, SpellsItem, ItemPiece, StartsWithPiece}
use Rattle.out_format.specs.Results.{StoredRow, row_of, IsFirstField, IsFirstItem}
use Rattle.out_format.specs.FirstItems.{HasIndex, HasNoIndex, HasNoField, HasNoItem}
use Rattle.out_format.proofs.IndexLemmas.{facts_of}

-- ---- the rows of the table

-- two texts differ at an index that both have
differ : List ℕ → List ℕ → Bool
differ [] ys = false
differ (x ∷ xs) [] = false
differ (x ∷ xs) (y ∷ ys) = cond (x == y) (differ xs ys) true

all_differ : List Row → Bool
all_differ [] = true
all_differ (row ∷ rows) = list_all (λ (r : Row). differ row.0.now r.0.now) rows && all_differ rows

table_differs : all_differ ITEMS ≡ true
unfolding all_differ differ
table_differs = refl

none_of_fields : list_all (λ (row : Row). differ row.0.now (102 ∷ [])) ITEMS ≡ true
unfolding differ
none_of_fields = refl

not_both : (xs ys rest more : List ℕ) → differ xs ys ≡ true → xs ++ rest ≡ ys ++ more → ⊥
unfolding differ
not_both [] ys rest more h e = absurd (cc)
not_both (x ∷ xs) [] rest more h e = absurd (cc)
not_both (x ∷ xs) (y ∷ ys) rest more h e = elim (cases_eq x y) [
  | inl same ↦ not_both xs ys rest more (sym (cond-true (x == y) (differ xs ys) true (eq-eqb x y same)) ∙ h) (same_tail x y (xs ++ rest) (ys ++ more) e)
  | inr other ↦ other (same_head x y (xs ++ rest) (ys ++ more) e)
]

abbrev Differ : Row → Row → Type 0
Differ r s = differ r.0.now s.0.now ≡ true

pairs_differ : (rows : List Row) → all_differ rows ≡ true → AllPairs Differ rows
unfolding all_differ
pairs_differ [] h = λ i j d less in'. absurd (omega arith)
pairs_differ (row ∷ rows) h =
    let both = and_parts (list_all (λ (r : Row). differ row.0.now r.0.now) rows) (all_differ rows) h in
    AllPairs-cons Differ row rows (AllPass-from_list_all (λ (r : Row). differ row.0.now r.0.now) rows both.0) (pairs_differ rows both.1)

one_row : (r s : Row) (rest more : List ℕ) → Contains ITEMS r → Contains ITEMS s → r.0.now ++ rest ≡ s.0.now ++ more → r ≡ s
one_row r s rest more (i, low, is) (j, lower, here) e =
    let there : get_or ITEMS j r ≡ s = get_or_default ITEMS j r s lower ∙ here in
    elim (cases_order i j) [
      | inl same ↦ sym is ∙ ap (λ (k : ℕ). get_or ITEMS k r) same ∙ there
      | inr (inl less) ↦
          let apart = subst (λ (x : Row). Differ x s) is (subst (Differ (get_or ITEMS i r)) there (pairs_differ ITEMS table_differs i j r less lower)) in
          absurd (not_both r.0.now s.0.now rest more apart e)
      | inr (inr less) ↦
          let apart = subst (λ (x : Row). Differ x r) there (subst (Differ (get_or ITEMS j r)) is (pairs_differ ITEMS table_differs j i r less low)) in
          absurd (not_both s.0.now r.0.now more rest apart (sym e))
    ]

-- ---- the item at the start of a text

pub percent_first : (part : FormatPart) (i : FormatItem) (front : List ℕ) → SpellsItem part i front → (more : List ℕ) × (front ≡ 37 ∷ more)
percent_first part i front (inl listed) = (listed.letters, listed.is)
percent_first part i front (inr field) = (102 ∷ 91 ∷ (field.digits ++ 93 ∷ []), field.is)

-- the part may use the item of a row, and the text starts with its letters
abbrev pub fits : FormatPart → List ℕ → Row → Bool
fits part following row = includes row.2 part && starts_with ◌==◌ following row.0.now

pub begins_listed : (part : FormatPart) (following : List ℕ) (row : Row) → Contains ITEMS row → fits part following row ≡ true → StartsWithPiece part (ItemPiece row.1) (37 ∷ following) (drop (length row.0.now) following)
begins_listed part following row in' h =
    let both = and_parts (includes row.2 part) (starts_with ◌==◌ following row.0.now) h in
    record {
      front = 37 ∷ row.0.now;
      spelled = inl (record { letters = row.0.now; texts = row.2; row = in'; may = both.0; is = refl });
      is = ap (λ (xs : List ℕ). 37 ∷ xs) ((starts_is Decides-eqb following row.0.now _ refl).0 both.1);
    }

pub begins_field : (part : FormatPart) (following rest : List ℕ) (n : ℕ) → includes Words part ≡ true → HasIndex following n rest → StartsWithPiece part (ItemPiece (item.Field n)) (37 ∷ 102 ∷ following) rest
begins_field part following rest n may has = record {
  front = 37 ∷ 102 ∷ 91 ∷ (has.digits ++ 93 ∷ []);
  spelled = inr (record { n = n; digits = has.digits; is_field = refl; is_index = has.is_index; may = may; is = refl });
  is = ap (λ (xs : List ℕ). 37 ∷ 102 ∷ xs) (has.is ∙ ap (λ (xs : List ℕ). 91 ∷ xs) (sym (append_assoc has.digits (93 ∷ []) rest)));
}

-- ---- how the code goes over the table

row_here : (rows : List StoredRow) (table : List Row) (i : ℕ) (d : StoredRow) → map row_of rows ≡ table → i < length rows
    → get_or table i (row_of d) ≡ row_of (get_or rows i d)
row_here rows table i d is low = ap (λ (t : List Row). get_or t i (row_of d)) (sym is) ∙ get_or-map row_of rows i d (row_of d) low

below : (rows : List StoredRow) (table : List Row) (i : ℕ) → map row_of rows ≡ table → i < length rows → i < length table
below rows table i is low = let n : length rows ≡ length table = sym (length-map rows row_of) ∙ ap length is in omega (arith, low, n)

pub row_begins : (part : FormatPart) (following : List ℕ) (rows : List StoredRow) (i : ℕ) (d : StoredRow) → map row_of rows ≡ ITEMS → i < length rows
    → includes (get_or rows i d).2 part ≡ true → starts_with ◌==◌ following (get_or rows i d).0.now ≡ true
    → StartsWithPiece part (ItemPiece (get_or rows i d).1) (37 ∷ following) (take (length following - length (get_or rows i d).0.now) (drop (length (get_or rows i d).0.now) following))
row_begins part following rows i d is low may begins =
    let row = row_of (get_or rows i d) in
    let in' : Contains ITEMS row = subst (Contains ITEMS) (row_here rows ITEMS i d is low) (Contains-get_or ITEMS i (row_of d) (below rows ITEMS i is low)) in
    subst (StartsWithPiece part (ItemPiece row.1) (37 ∷ following)) (sym (take_rest following (length row.0.now)))
    (begins_listed part following row in' (and_from (includes row.2 part) (starts_with ◌==◌ following row.0.now) may begins))

pub none_so_far : (part : FormatPart) (following : List ℕ) (rows : List StoredRow) (table : List Row) (i : ℕ) (d : StoredRow) → map row_of rows ≡ table
    → i < length rows → fits part following (row_of (get_or rows i d)) ≡ false → list_any (fits part following) (take i table) ≡ false → list_any (fits part following) (take (i + 1) table) ≡ false
none_so_far part following rows table i d is low unfit before =
    list_any_more (fits part following) table i (row_of d) (below rows table i is low)
    ∙ or_from (list_any (fits part following) (take i table)) (fits part following (get_or table i (row_of d))) before (ap (fits part following) (row_here rows table i d is low) ∙ unfit)

-- ---- a field

record IsFieldAt (i : FormatItem) (following rest : List ℕ) : Type 0 where
  n : ℕ
  inside : List ℕ
  is : i ≡ item.Field n
  there : following ≡ 102 ∷ inside
  has : HasIndex inside n rest

field_at : (part : FormatPart) (i : FormatItem) (following front rest : List ℕ) → IsField part i front → 37 ∷ following ≡ front ++ rest → IsFieldAt i following rest
field_at part i following front rest f is =
    let digits = f.digits in
    let e : 37 ∷ following ≡ 37 ∷ 102 ∷ 91 ∷ ((digits ++ 93 ∷ []) ++ rest) = is ∙ ap (λ (xs : List ℕ). xs ++ rest) f.is in
    record {
      n = f.n;
      inside = 91 ∷ (digits ++ 93 ∷ rest);
      is = f.is_field;
      there = same_tail 37 37 following (102 ∷ 91 ∷ (digits ++ 93 ∷ rest)) (e ∙ ap (λ (xs : List ℕ). 37 ∷ 102 ∷ 91 ∷ xs) (append_assoc digits (93 ∷ []) rest));
      has = record { digits = digits; is_index = f.is_index; is = refl };
    }

letters_at : (following letters front rest : List ℕ) → front ≡ 37 ∷ letters → 37 ∷ following ≡ front ++ rest → following ≡ letters ++ rest
letters_at following letters front rest spelled is = same_tail 37 37 following (letters ++ rest) (is ∙ ap (λ (xs : List ℕ). xs ++ rest) spelled)

-- ---- no item starts a text

pub no_field_of : (part : FormatPart) (text : List ℕ) → includes Words part ≡ false → HasNoField part text
no_field_of part text none = λ i front rest f is. let may = f.may in absurd (cc)

pub no_field : (part : FormatPart) (following : List ℕ) → ((inside : List ℕ) → following ≡ 102 ∷ inside → HasNoIndex inside) → HasNoField part (37 ∷ following)
no_field part following none = λ i front rest f is. let at = field_at part i following front rest f is in none at.inside at.there at.n rest at.has

pub no_index : (part : FormatPart) (cs : List ℕ) → HasNoIndex cs → HasNoField part (37 ∷ 102 ∷ cs)
no_index part cs none = no_field part (102 ∷ cs) (λ inside e. subst HasNoIndex (same_tail 102 102 cs inside e) none)

pub no_item : (part : FormatPart) (following : List ℕ) → list_any (fits part following) ITEMS ≡ false → HasNoField part (37 ∷ following) → HasNoItem part (37 ∷ following)
no_item part following none no_one = λ i rest h. elim h.spelled [
  | inl l ↦
      let at = l.row in
      let row : Row = (record { now = l.letters }, i, l.texts) in
      let here = (starts_is Decides-eqb following l.letters _ refl).1 rest (letters_at following l.letters h.front rest l.is h.is) in
      let there : fits part following (get_or ITEMS at.0 row) ≡ true =
      subst (λ (r : Row). fits part following r ≡ true) (sym at.2) (and_from (includes l.texts part) (starts_with ◌==◌ following l.letters) l.may here) in
      let some = list_any_at (fits part following) ITEMS at.0 row at.1 there in
      absurd (cc)
  | inr f ↦ no_one i h.front rest f h.is
]

pub after_the_rows : (part : FormatPart) (following : List ℕ) (rows : List StoredRow) (table : List Row) (i : ℕ) → map row_of rows ≡ table → length rows ≤ i
    → list_any (fits part following) (take i table) ≡ false → list_any (fits part following) table ≡ false
after_the_rows part following rows table i is past none =
    let n : length rows ≡ length table = sym (length-map rows row_of) ∙ ap length is in
    sym (ap (list_any (fits part following)) (take_all i table (omega (arith, past, n)))) ∙ none

pub field_or_none : (part : FormatPart) (following : List ℕ) (first : Option FirstItem) → list_any (fits part following) ITEMS ≡ false → IsFirstField part (37 ∷ following) first → IsFirstItem part (37 ∷ following) first
field_or_none part following None none h = no_item part following none h
field_or_none part following (Some field) none h = h

-- ---- a text starts with at most one item

one_index : (inside rest more : List ℕ) (n m : ℕ) → HasIndex inside n rest → HasIndex inside m more → (n ≡ m) × (rest ≡ more)
one_index inside rest more n m h k =
    let opened = h.digits ++ 93 ∷ rest in
    let f = facts_of opened rest n (subst (λ (xs : List ℕ). HasIndex xs n rest) h.is h) in
    let g = facts_of opened more m (subst (λ (xs : List ℕ). HasIndex xs m more) h.is k) in
    (sym f.value ∙ g.value, f.rest_is ∙ sym g.rest_is)

one_listed : (part : FormatPart) (i j : FormatItem) (following front back rest more : List ℕ) → IsListed part i front → IsListed part j back → 37 ∷ following ≡ front ++ rest → 37 ∷ following ≡ back ++ more → (i ≡ j) × (rest ≡ more)
one_listed part i j following front back rest more l m h k =
    let a = letters_at following l.letters front rest l.is h in
    let b = letters_at following m.letters back more m.is k in
    let one = one_row (record { now = l.letters }, i, l.texts) (record { now = m.letters }, j, m.texts) rest more l.row m.row (sym a ∙ b) in
    let n : length l.letters ≡ length m.letters = ap (λ (r : Row). length r.0.now) one in (
      ap (λ (r : Row). r.1) one,
      sym (ap (drop (length l.letters)) a ∙ drop_at l.letters rest (length l.letters) refl) ∙ ap (λ (k : ℕ). drop k following) n ∙ ap (drop (length m.letters)) b
          ∙ drop_at m.letters more (length m.letters) refl,
    )

one_field : (i j : FormatItem) (following rest more : List ℕ) → IsFieldAt i following rest → IsFieldAt j following more → (i ≡ j) × (rest ≡ more)
one_field i j following rest more f g =
    let same : HasIndex f.inside g.n more = subst (λ (xs : List ℕ). HasIndex xs g.n more) (same_tail 102 102 g.inside f.inside (sym g.there ∙ f.there)) g.has in
    let one = one_index f.inside rest more f.n g.n f.has same in
    (f.is ∙ ap (λ (n : ℕ). item.Field n) one.0 ∙ sym g.is, one.1)

not_both_kinds : (part : FormatPart) (i j : FormatItem) (following front back rest more : List ℕ) → IsListed part i front → IsField part j back → 37 ∷ following ≡ front ++ rest → 37 ∷ following ≡ back ++ more → ⊥
not_both_kinds part i j following front back rest more l f h k =
    let at = field_at part j following back more f k in
    let P = λ (row : Row). differ row.0.now (102 ∷ []) ≡ true in
    let apart = All-contains P ITEMS (record { now = l.letters }, i, l.texts) (AllPass-from_list_all (λ (row : Row). differ row.0.now (102 ∷ [])) ITEMS none_of_fields) l.row in
    not_both l.letters (102 ∷ []) rest at.inside apart (sym (letters_at following l.letters front rest l.is h) ∙ at.there)

pub one_item : (part : FormatPart) (i j : FormatItem) (following front back rest more : List ℕ) → SpellsItem part i front → SpellsItem part j back → 37 ∷ following ≡ front ++ rest → 37 ∷ following ≡ back ++ more
    → (i ≡ j) × (rest ≡ more)
one_item part i j following front back rest more (inl l) (inl m) h k = one_listed part i j following front back rest more l m h k
one_item part i j following front back rest more (inl l) (inr f) h k = absurd (not_both_kinds part i j following front back rest more l f h k)
one_item part i j following front back rest more (inr f) (inl l) h k = absurd (not_both_kinds part j i following back front more rest l f k h)
one_item part i j following front back rest more (inr f) (inr g) h k = one_field i j following rest more (field_at part i following front rest f h) (field_at part j following back more g k)
