-- A word of at least two bytes that is no context id is no size, whatever follows in it.
use Rattle.std.proofs.Common.{◌≡◌, ℕ, ◌+◌, ◌*◌, ◌-◌, ◌<◌, ◌≤◌, zero, suc, Bool, true, false, cond, ◌==◌, ◌&&◌, List, [], ◌∷◌, ◌++◌, length, take, get_or, refl, sym, ◌∙◌, ap, subst, arith, Option, Some, None, inl, inr, ℤ, pos, int_le}
use Rattle.std.specs.Prelude.{neg_ℤ, nat_abs, is_some, option_map, option_and_then, nat_lt, fold}
use Rattle.std.specs.List.{list_any}
use Rattle.std.specs.Char.{is_ascii_digit}
use Rattle.std.specs.Str.{all_ascii_digits}
use Rattle.std.proofs.lemmas.Bool.{cases_Bool, and_parts, and_from, and_right, both_ways, cond-true, cond-false, or_from, le-leb, lt-ltb, leb-true}
use Rattle.std.proofs.lemmas.List.{length-append, take_all}
use Rattle.std.proofs.lemmas.List.Folds.{list_any-append, list_any_at}
use Rattle.std.proofs.lemmas.List.Sums.{fold-append}
use Rattle.mj_model.specs.Bytes.{is_blank, minus, plus}
use Rattle.mj_model.specs.Numbers.{context_id, digits_value, number, signed_number, unsigned_number}
use Rattle.lex_source.proofs.SplitLemmas.{blanks_after}
use Rattle.matrix_def.specs.Headers.{HasNoBlank, IsNoSize}

-- an id, as a number with a sign
abbrev pub is_id : ℤ → Bool
is_id z = int_le (pos 0) z && int_le z (pos 65535)

abbrev pub as_id : ℤ → Option ℤ
as_id z = cond (is_id z) (Some z) None

-- ---- words

no_blank_at : (word : List ℕ) (k : ℕ) → HasNoBlank word → k < length word → is_blank (get_or word k 0) ≡ false
no_blank_at word k plain in' = elim (cases_Bool (is_blank (get_or word k 0))) [
  | inl blank ↦ absurd (both_ways (list_any is_blank word) plain (list_any_at is_blank word k 0 in' blank))
  | inr other ↦ other
]

-- a word has no blanks at its end
plain_number : (word : List ℕ) → HasNoBlank word → number word ≡ signed_number word
plain_number word plain =
    let all : take (length word) word ≡ word = take_all (length word) word (omega arith) in
    ap signed_number (sym (blanks_after word (length word) (omega arith) (λ k low high. absurd (omega arith)) (λ some. no_blank_at word (length word - 1) plain (omega arith))) ∙ all)

plain-append : (word more : List ℕ) → HasNoBlank word → HasNoBlank more → HasNoBlank (word ++ more)
plain-append word more before following = list_any-append is_blank word more ∙ or_from (list_any is_blank word) (list_any is_blank more) before following

-- a value with one more digit
abbrev pub step : ℕ → ℕ → ℕ
step value c = 10 * value + (c - 0x30)

-- ---- more digits

value_grows : (value : ℕ) (more : List ℕ) → value ≤ fold step value more
value_grows value [] = omega arith
value_grows value (c ∷ cs) = let grown = value_grows (10 * value + (c - 0x30)) cs in omega (arith, grown)

digits_before : (ds more : List ℕ) → all_ascii_digits (ds ++ more) ≡ true → all_ascii_digits ds ≡ true
digits_before [] more all = refl
digits_before (c ∷ cs) more all =
    let p = and_parts (is_ascii_digit c) (all_ascii_digits (cs ++ more)) all in
    and_from (is_ascii_digit c) (all_ascii_digits cs) p.0 (digits_before cs more p.1)

unsigned_is : (ds : List ℕ) → 0 < length ds → all_ascii_digits ds ≡ true → unsigned_number ds ≡ Some (digits_value ds)
unsigned_is ds some all = cond-true (nat_lt 0 (length ds) && all_ascii_digits ds) (Some (digits_value ds)) None (and_from (nat_lt 0 (length ds)) (all_ascii_digits ds) (lt-ltb 0 (length ds) some) all)

unsigned_none : (ds : List ℕ) → all_ascii_digits ds ≡ false → unsigned_number ds ≡ None
unsigned_none ds bad = cond-false (nat_lt 0 (length ds) && all_ascii_digits ds) (Some (digits_value ds)) None (and_right (nat_lt 0 (length ds)) (all_ascii_digits ds) bad)

-- the values below an id are ids, with this sign
abbrev pub AreLowerIds : (ℕ → ℤ) → Type 0
AreLowerIds sign = (v w : ℕ) → v ≤ w → is_id (sign w) ≡ true → is_id (sign v) ≡ true

lower_above : AreLowerIds pos
lower_above v w less is =
    let high = leb-true w 65535 (and_parts (int_le (pos 0) (pos w)) (int_le (pos w) (pos 65535)) is).1 in
    and_from (int_le (pos 0) (pos v)) (int_le (pos v) (pos 65535)) (le-leb 0 v (omega arith)) (le-leb v 65535 (omega (arith, high, less)))

lower_below : AreLowerIds (λ n. neg_ℤ (pos n))
lower_below zero w less is = refl
lower_below (suc v) zero less is = absurd (omega (arith, less))
lower_below (suc v) (suc w) less is = absurd (cc)

stays_none : (f : ℕ → ℤ) (ds more : List ℕ) → AreLowerIds f → 0 < length ds → option_and_then as_id (option_map f (unsigned_number ds)) ≡ None
    → option_and_then as_id (option_map f (unsigned_number (ds ++ more))) ≡ None
stays_none f ds more lower some none = elim (cases_Bool (all_ascii_digits (ds ++ more))) [
  | inr bad ↦ ap (λ (o : Option ℕ). option_and_then as_id (option_map f o)) (unsigned_none (ds ++ more) bad)
  | inl all ↦
      let v : ℕ = digits_value ds in
      let w : ℕ = digits_value (ds ++ more) in
      let grown : v ≤ w = subst (λ (n : ℕ). v ≤ n) (sym (fold-append step 0 ds more)) (value_grows v more) in
      let here : as_id (f v) ≡ None = sym (ap (λ (o : Option ℕ). option_and_then as_id (option_map f o)) (unsigned_is ds some (digits_before ds more all))) ∙ none in
      let long : 0 < length (ds ++ more) = omega (arith, some, length-append ds more) in
      ap (λ (o : Option ℕ). option_and_then as_id (option_map f o)) (unsigned_is (ds ++ more) long all)
      ∙ elim (cases_Bool (is_id (f w))) [
        | inl is ↦ let no : Some (f v) ≡ None = sym (cond-true (is_id (f v)) (Some (f v)) None (lower v w grown is)) ∙ here in absurd (cc)
        | inr out ↦ cond-false (is_id (f w)) (Some (f w)) None out
      ]
]

signed_stays : (c : ℕ) (cs more : List ℕ) → 0 < length cs → option_and_then as_id (signed_number (c ∷ cs)) ≡ None → option_and_then as_id (signed_number (c ∷ (cs ++ more))) ≡ None
signed_stays c cs more some none =
    let less : List ℕ → Option ℤ = λ ds. option_map (λ n. neg_ℤ (pos n)) (unsigned_number ds) in
    let more_than : List ℕ → Option ℤ = λ ds. option_map pos (unsigned_number ds) in
    let rest : List ℕ → Option ℤ = λ ds. cond (c == plus) (more_than ds) (more_than (c ∷ ds)) in
    elim (cases_Bool (c == minus)) [
      | inl is ↦
          let from : (ds : List ℕ) → signed_number (c ∷ ds) ≡ less ds = λ ds. cond-true (c == minus) (less ds) (rest ds) is in
          ap (option_and_then as_id) (from (cs ++ more)) ∙ stays_none (λ n. neg_ℤ (pos n)) cs more lower_below some (sym (ap (option_and_then as_id) (from cs)) ∙ none)
      | inr other ↦ elim (cases_Bool (c == plus)) [
        | inl is ↦
            let from : (ds : List ℕ) → signed_number (c ∷ ds) ≡ more_than ds = λ ds. cond-false (c == minus) (less ds) (rest ds) other ∙ cond-true (c == plus) (more_than ds) (more_than (c ∷ ds)) is in
            ap (option_and_then as_id) (from (cs ++ more)) ∙ stays_none pos cs more lower_above some (sym (ap (option_and_then as_id) (from cs)) ∙ none)
        | inr neither ↦
            let from : (ds : List ℕ) → signed_number (c ∷ ds) ≡ more_than (c ∷ ds) = λ ds. cond-false (c == minus) (less ds) (rest ds) other ∙ cond-false (c == plus) (more_than ds) (more_than (c ∷ ds)) neither in
            ap (option_and_then as_id) (from (cs ++ more)) ∙ stays_none pos (c ∷ cs) more lower_above (omega arith) (sym (ap (option_and_then as_id) (from cs)) ∙ none)
      ]
    ]

-- ---- sizes

no_number : (o : Option ℤ) → option_map nat_abs o ≡ None → o ≡ None
no_number None none = refl
no_number (Some z) none = absurd (cc)

pub no_id : (found id : Option ℕ) → found ≡ id → is_some found ≡ false → id ≡ None
no_id None id is none = sym is
no_id (Some n) id is none = absurd (cc)

-- a word that is no id is no size, whatever follows in it, if it is longer than a sign
pub no_size : (word : List ℕ) → HasNoBlank word → 1 < length word → context_id word ≡ None → IsNoSize word
no_size [] plain long none = absurd (omega (arith, long))
no_size (c ∷ cs) plain long none = λ more none_more.
    let word : List ℕ = c ∷ cs in
    let before : option_and_then as_id (signed_number word) ≡ None = ap (option_and_then as_id) (sym (plain_number word plain)) ∙ no_number (option_and_then as_id (number word)) none in
    let following : option_and_then as_id (number (word ++ more)) ≡ None =
    ap (option_and_then as_id) (plain_number (word ++ more) (plain-append word more plain none_more)) ∙ signed_stays c cs more (omega (arith, long)) before in
    ap (λ (o : Option ℤ). option_and_then (λ n. cond (nat_lt 0 n) (Some n) None) (option_map nat_abs o)) following
