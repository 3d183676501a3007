-- The fields of a text, one after another. Each remainder is shorter, so that each text has fields.
use Rattle.std.proofs.Common.{◌≡◌, ℕ, zero, suc, ◌+◌, ◌<◌, ◌≤◌, Bool, cond, List, [], ◌∷◌, ◌++◌, length, drop, refl, ◌∙◌, ap, subst, arith, Option, Some, None, inl, inr, Bor, length-drop, length-append}
use Rattle.std.specs.Prelude.{slice_get, option_copied}
use Rattle.std.specs.List.{list_any, position_or_len, prefix_len, after_first}
use Rattle.std.proofs.lemmas.Bool.{cases_Bool}
use Rattle.mj_model.specs.Bytes.{quote, is_comma, is_blank}
use Rattle.mj_model.specs.Fields.{with_doubled_quotes, without_leading_blanks, IsFieldOf, IsFirstField, AreFields, AreFirstFields, rest_of}
use Rattle.mj_model.proofs.FieldLemmas.{a_field}
use Rattle.lex_source.specs.declared.raw_field.RawField.{RawField}
use Rattle.lex_source.specs.Spelled.{StartsWithField, HasFieldAt, IsFieldAt}
use Rattle.lex_source.proofs.SplitLemmas.{any_within}

-- ---- a remainder is shorter than its text

rest_shorter : (text rest : List ℕ) → Some rest ≡ rest_of text → length rest < length text
rest_shorter text rest is = elim (cases_Bool (list_any is_comma text)) [
  | inl found ↦
      let e : Some rest ≡ Some (after_first is_comma text) = is ∙ ap (λ (b : Bool). cond b (Some (after_first is_comma text)) None) found in
      let r : rest ≡ after_first is_comma text = cc in
      let long : length rest ≡ length (drop (position_or_len is_comma text + 1) text) = ap (λ (xs : List ℕ). length xs) r in
      let in' : position_or_len is_comma text < length text = any_within is_comma text found in
      omega (arith, length-drop {A = ℕ})
  | inr none ↦
      let e : Some rest ≡ None = is ∙ ap (λ (b : Bool). cond b (Some (after_first is_comma text)) None) none in
      absurd (cc)
]

field_shorter : (text field rest : List ℕ) → IsFieldOf text field (Some rest) → length rest < length text
field_shorter text field rest (inl plain) = rest_shorter text rest plain.2
field_shorter text field rest (inr (inl (following, is, out, r))) =
    let long : length text ≡ length (quote ∷ (with_doubled_quotes field ++ quote ∷ following)) = ap (λ (xs : List ℕ). length xs) is in
    let more : length (with_doubled_quotes field ++ quote ∷ following) ≡ length (with_doubled_quotes field) + length (quote ∷ following) = length-append (with_doubled_quotes field) (quote ∷ following) in
    let less : length rest < length following = rest_shorter following rest r in
    omega arith
field_shorter text field rest (inr (inr (is, r))) = absurd (let e : Some rest ≡ None = r in cc)

first_shorter : (text field rest : List ℕ) → IsFirstField text field (Some rest) → length rest < length text
first_shorter text field rest is =
    let less : length rest < length (without_leading_blanks text) = field_shorter (without_leading_blanks text) field rest is in
    omega (arith, length-drop (prefix_len is_blank text) text)

-- ---- each text has fields

with_more : (text field : List ℕ) (rest : List ℕ) → IsFirstField text field (Some rest) → (more : List (List ℕ)) → AreFields rest more → (all : List (List ℕ)) × AreFields text (field ∷ all)
with_more text field rest is [] none = absurd none
with_more text field rest is (next ∷ more) are = (next ∷ more, (rest, is, are))

-- with the fields of each shorter text
fields_after : (n : ℕ) → ((shorter : List ℕ) → length shorter < n → (fields : List (List ℕ)) × AreFields shorter fields)
    → (text field : List ℕ) (rest : Option (List ℕ)) → length text ≤ n → IsFirstField text field rest → (more : List (List ℕ)) × AreFields text (field ∷ more)
fields_after n within text field None short is = ([], is)
fields_after n within text field (Some rest) short is =
    let less : length rest < length text = first_shorter text field rest is in
    let more = within rest (omega arith) in
    with_more text field rest is more.0 more.1

fields_within : (n : ℕ) (text : List ℕ) → length text < n → (fields : List (List ℕ)) × AreFields text fields
fields_within zero text short = absurd (omega arith)
fields_within (suc n) text short =
    let f = a_field (without_leading_blanks text) in
    let more = fields_after n (λ shorter less. fields_within n shorter less) text f.0 f.1 (omega arith) f.2 in
    (f.0 ∷ more.0, more.1)

-- the fields from a first one on
pub fields_from : (text field : List ℕ) (rest : Option (List ℕ)) → IsFirstField text field rest → (more : List (List ℕ)) × AreFields text (field ∷ more)
fields_from text field rest is = fields_after (length text) (λ shorter less. fields_within (length text) shorter less) text field rest (omega arith) is

-- ---- first fields and those after them

pub first_more : (text : List ℕ) (firsts : List (List ℕ)) (at field next : List ℕ) → AreFirstFields text firsts at → IsFirstField at field (Some next) → AreFirstFields text (firsts ++ field ∷ []) next
first_more text [] at field next before is = (next, subst (λ (xs : List ℕ). IsFirstField xs field (Some next)) before is, refl)
first_more text (f ∷ firsts) at field next before is = (before.0, before.1, first_more before.0 firsts at field next before.2 is)

pub first_then : (text : List ℕ) (firsts : List (List ℕ)) (at field : List ℕ) (more : List (List ℕ)) → AreFirstFields text firsts at → AreFields at (field ∷ more) → AreFields text (firsts ++ field ∷ more)
first_then text [] at field more before are = subst (λ (xs : List ℕ). AreFields xs (field ∷ more)) before are
first_then text (f ∷ []) at field more before are = (before.0, before.1, first_then before.0 [] at field more before.2 are)
first_then text (f ∷ g ∷ firsts) at field more before are = (before.0, before.1, first_then before.0 (g ∷ firsts) at field more before.2 are)

get_past : (xs : List (List ℕ)) (i : ℕ) → length xs ≤ i → slice_get xs i ≡ None
get_past [] i h = refl
get_past (x ∷ xs) zero h = absurd (omega arith)
get_past (x ∷ xs) (suc i) h = get_past xs i (omega arith)

get_at : (xs : List (List ℕ)) (y : List ℕ) (ys : List (List ℕ)) (i : ℕ) → length xs ≡ i → slice_get (xs ++ y ∷ ys) i ≡ Some y
get_at [] y ys zero h = refl
get_at [] y ys (suc i) h = absurd (omega arith)
get_at (x ∷ xs) y ys zero h = absurd (omega arith)
get_at (x ∷ xs) y ys (suc i) h = get_at xs y ys i (omega arith)

-- ---- a field by its number

pub at_start : (text raw : List ℕ) (quoted : Bool) (rest : Option (List ℕ)) → StartsWithField (IsFirstField text) raw quoted rest → HasFieldAt text 0 raw quoted rest
at_start text raw quoted rest here = record { firsts = []; at = text; before = refl; count = refl; here = here }

pub at_next : (text raw : List ℕ) (quoted : Bool) (rest : Option (Bor (List ℕ))) (next : Bor (List ℕ)) (raw' : List ℕ) (quoted' : Bool) (rest' : Option (List ℕ)) (i : ℕ)
    → HasFieldAt text i raw quoted (option_copied rest) → rest ≡ Some next → StartsWithField (IsFirstField next.now) raw' quoted' rest' → HasFieldAt text (i + 1) raw' quoted' rest'
at_next text raw quoted rest next raw' quoted' rest' i s is more =
    let first : IsFirstField s.at s.here.field (Some next.now) = subst (λ (r : Option (Bor (List ℕ))). IsFirstField s.at s.here.field (option_copied r)) is s.here.first in
    let count : length s.firsts ≡ i = s.count in
    record {
      firsts = s.firsts ++ s.here.field ∷ [];
      at = next.now;
      before = first_more text s.firsts s.at s.here.field next.now s.before first;
      count = omega (arith, length-append s.firsts (s.here.field ∷ []));
      here = more;
    }

pub no_field : (text raw : List ℕ) (quoted : Bool) (rest : Option (Bor (List ℕ))) (i n : ℕ) → HasFieldAt text i raw quoted (option_copied rest) → rest ≡ None → i < n → IsFieldAt text n None
no_field text raw quoted rest i n s is low =
    let first : IsFirstField s.at s.here.field None = subst (λ (r : Option (Bor (List ℕ))). IsFirstField s.at s.here.field (option_copied r)) is s.here.first in
    let count : length s.firsts ≡ i = s.count in
    record {
      fields = s.firsts ++ s.here.field ∷ [];
      are = first_then text s.firsts s.at s.here.field [] s.before first;
      here = get_past (s.firsts ++ s.here.field ∷ []) n (omega (arith, length-append s.firsts (s.here.field ∷ [])));
    }

pub a_field_at : (text : List ℕ) (found : RawField) (n : ℕ) → HasFieldAt text n found.raw.now found.quoted (option_copied found.rest) → IsFieldAt text n (Some found)
a_field_at text found n s =
    let more = fields_from s.at s.here.field (option_copied found.rest) s.here.first in
    record {
      fields = s.firsts ++ s.here.field ∷ more.0;
      are = first_then text s.firsts s.at s.here.field more.0 s.before more.1;
      here = (s.here.field, s.here.spelled, get_at s.firsts s.here.field more.0 n s.count);
    }

-- ---- the first field, with or without a remainder

pub with_rest : (IsFirst : List ℕ → Option (List ℕ) → Type 0) (raw : List ℕ) (quoted : Bool) (rest : Option (Bor (List ℕ))) (next : Bor (List ℕ)) → StartsWithField IsFirst raw quoted (option_copied rest) → rest ≡ Some next
    → StartsWithField IsFirst raw quoted (Some next.now)
with_rest IsFirst raw quoted rest next s is = subst (λ (r : Option (Bor (List ℕ))). StartsWithField IsFirst raw quoted (option_copied r)) is s

pub without_rest : (IsFirst : List ℕ → Option (List ℕ) → Type 0) (raw : List ℕ) (quoted : Bool) (rest : Option (Bor (List ℕ))) → StartsWithField IsFirst raw quoted (option_copied rest) → rest ≡ None
    → StartsWithField IsFirst raw quoted None
without_rest IsFirst raw quoted rest s is = subst (λ (r : Option (Bor (List ℕ))). StartsWithField IsFirst raw quoted (option_copied r)) is s
