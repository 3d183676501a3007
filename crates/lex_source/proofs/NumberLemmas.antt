-- The number of a quoted field is the number of its bytes, and a field with a quote in it is no
-- number.
use Rattle.std.proofs.Common.{◌≡◌, ℕ, ◌+◌, ◌-◌, ◌<◌, ◌≤◌, Bool, true, false, cond, ◌==◌, ◌&&◌, List, [], ◌∷◌, length, take, drop, get_or, reverse, refl, sym, ◌∙◌, ap, arith, Option, Some, None, inl, inr, length-drop}
use Rattle.std.specs.Prelude.{ℤ, pos, neg_ℤ, option_map, ◌||◌, nat_lt}
use Rattle.std.specs.List.{list_any, suffix_len, prefix_len}
use Rattle.std.specs.Char.{is_ascii_digit}
use Rattle.std.specs.Str.{all_ascii_digits}
use Rattle.std.proofs.lemmas.Bool.{cases_Bool, or_cases, and_left, and_right, eqb-true, cond-true, cond-false, both_ways}
use Rattle.std.proofs.lemmas.List.{take-append-drop, get_or-drop, get_or-reverse}
use Rattle.std.proofs.lemmas.List.Sums.{prefix_len_passes, suffix_len-le-length}
use Rattle.std.proofs.lemmas.List.Folds.{list_any_none, list_any-append}
use Rattle.mj_model.specs.Bytes.{quote, is_quote, is_blank, minus, plus}
use Rattle.mj_model.specs.Fields.{with_doubled_quotes}
use Rattle.mj_model.specs.Numbers.{number, signed_number, unsigned_number, without_trailing_blanks, digits_value}
use Rattle.lex_source.specs.Spelled.{IsRawForm}
use Rattle.lex_source.proofs.QuoteLemmas.{doubled_plain, no_left}

quote_no_digit : (c : ℕ) → is_quote c ≡ true → is_ascii_digit c ≡ false
quote_no_digit c is = ap is_ascii_digit (eqb-true c quote is)

no_digits : (text : List ℕ) → list_any is_quote text ≡ true → all_ascii_digits text ≡ false
no_digits [] h = absurd (cc)
no_digits (c ∷ cs) h = elim (or_cases (is_quote c) (list_any is_quote cs) h) [
  | inl here ↦ and_left (is_ascii_digit c) (all_ascii_digits cs) (quote_no_digit c here)
  | inr later ↦ and_right (is_ascii_digit c) (all_ascii_digits cs) (no_digits cs later)
]

no_unsigned : (text : List ℕ) → list_any is_quote text ≡ true → unsigned_number text ≡ None
no_unsigned text h = cond-false (nat_lt 0 (length text) && all_ascii_digits text) (Some (digits_value text)) None (and_right (nat_lt 0 (length text)) (all_ascii_digits text) (no_digits text h))

-- after a sign
after_sign : (c sign : ℕ) (cs : List ℕ) → (c == sign) ≡ true → is_quote sign ≡ false → list_any is_quote (c ∷ cs) ≡ true → list_any is_quote cs ≡ true
after_sign c sign cs is other h = elim (or_cases (is_quote c) (list_any is_quote cs) h) [
  | inl here ↦ absurd (both_ways (is_quote c) (ap is_quote (eqb-true c sign is) ∙ other) here)
  | inr later ↦ later
]

no_signed : (text : List ℕ) → list_any is_quote text ≡ true → signed_number text ≡ None
no_signed [] h = refl
no_signed (c ∷ cs) h =
    let negative : Option ℤ = option_map (λ n. neg_ℤ (pos n)) (unsigned_number cs) in
    let positive : Option ℤ = option_map pos (unsigned_number cs) in
    let plain : Option ℤ = option_map pos (unsigned_number (c ∷ cs)) in
    elim (cases_Bool (c == minus)) [
      | inl is ↦ cond-true (c == minus) negative (cond (c == plus) positive plain) is ∙ ap (option_map (λ n. neg_ℤ (pos n))) (no_unsigned cs (after_sign c minus cs is refl h))
      | inr not_minus ↦ cond-false (c == minus) negative (cond (c == plus) positive plain) not_minus ∙ elim (cases_Bool (c == plus)) [
        | inl is ↦ cond-true (c == plus) positive plain is ∙ ap (option_map pos) (no_unsigned cs (after_sign c plus cs is refl h))
        | inr not_plus ↦ cond-false (c == plus) positive plain not_plus ∙ ap (option_map pos) (no_unsigned (c ∷ cs) h)
      ]
    ]

blank_no_quote : (c : ℕ) → is_blank c ≡ true → is_quote c ≡ false
blank_no_quote c is = elim (or_cases (c == 0x20) (c == 0x09) is) [
  | inl b ↦ ap is_quote (eqb-true c 0x20 b)
  | inr t ↦ ap is_quote (eqb-true c 0x09 t)
]

blanks_no_quote : (text : List ℕ) → list_any is_quote (drop (length text - suffix_len is_blank text) text) ≡ false
blanks_no_quote text =
    let n = length text - suffix_len is_blank text in
    list_any_none is_quote (drop n text) (λ k d in'.
    let few : suffix_len is_blank text ≤ length text = suffix_len-le-length is_blank text in
    let short : length (drop n text) ≡ length text - n = length-drop n text in
    let j = length text - 1 - (n + k) in
    let low : j < prefix_len is_blank (reverse text) = omega arith in
    let within : j < length text = omega arith in
    let back : length text - 1 - j ≡ n + k = omega arith in
    let blank_there : is_blank (get_or (reverse text) j d) ≡ true = prefix_len_passes is_blank (reverse text) j d low in
    let here : get_or (drop n text) k d ≡ get_or (reverse text) j d = get_or-drop n text k d ∙ sym (get_or-reverse text j d within ∙ ap (λ (i : ℕ). get_or text i d) back) in
    ap is_quote here ∙ blank_no_quote (get_or (reverse text) j d) blank_there)

no_number : (text : List ℕ) → list_any is_quote text ≡ true → number text ≡ None
no_number text h =
    let n = length text - suffix_len is_blank text in
    let e : (list_any is_quote (take n text) || list_any is_quote (drop n text)) ≡ true =
    sym (list_any-append is_quote (take n text) (drop n text)) ∙ ap (list_any is_quote) (take-append-drop n text) ∙ h in
    no_signed (without_trailing_blanks text) (elim (or_cases (list_any is_quote (take n text)) (list_any is_quote (drop n text)) e) [
      | inl there ↦ there
      | inr blank_part ↦ absurd (both_ways (list_any is_quote (drop n text)) (blanks_no_quote text) blank_part)
    ])

number_doubled : (field : List ℕ) → number (with_doubled_quotes field) ≡ number field
number_doubled field = elim (cases_Bool (list_any is_quote field)) [
  | inl has ↦ elim (cases_Bool (list_any is_quote (with_doubled_quotes field))) [
    | inl too ↦ no_number (with_doubled_quotes field) too ∙ sym (no_number field has)
    | inr lacks ↦ ap number (no_left field lacks)
  ]
  | inr lacks ↦ ap number (doubled_plain field lacks)
]

-- the number of a field is the number of its bytes
pub number_spelled : (raw : List ℕ) (quoted : Bool) (field : List ℕ) → IsRawForm raw quoted field → number raw ≡ number field
number_spelled raw true field is = ap number is ∙ number_doubled field
number_spelled raw false field is = ap number is
