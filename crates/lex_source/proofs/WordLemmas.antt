-- The words of a line, one after another.
use Rattle.std.proofs.Common.{◌≡◌, ℕ, suc, ◌+◌, ◌<◌, Bool, true, false, cond, List, [], ◌∷◌, length, take, drop, get_or, refl, sym, ◌∙◌, ap, arith, inl, inr, length-take, length-drop}
use Rattle.std.specs.Prelude.{filter, nat_lt, ◌==◌}
use Rattle.std.specs.List.{slice_split, position_or_len, prefix_len}
use Rattle.std.proofs.lemmas.Bool.{cases_Bool, cases_lt, cond-true, lt-ltb, both_ways, eqb-false}
use Rattle.std.proofs.lemmas.List.{drop_more, drop_all, take_all, nil_from_length, get_or-drop}
use Rattle.std.proofs.lemmas.List.Splits.{slice_split-cons_yes, slice_split_first, slice_split_none}
use Rattle.std.proofs.lemmas.List.Sums.{passes_at_first, fails_before_first, prefix_len_stops}
use Rattle.mj_model.specs.Bytes.{is_blank}
use Rattle.mj_model.specs.Connection.{words_of}

words_after_blank : (c : ℕ) (cs : List ℕ) → is_blank c ≡ true → words_of (c ∷ cs) ≡ words_of cs
words_after_blank c cs is = ap (filter (λ word. nat_lt 0 (length word))) (slice_split-cons_yes is_blank c cs is)

words_after : (text : List ℕ) (n : ℕ) → prefix_len is_blank text ≡ n → words_of (drop n text) ≡ words_of text
words_after [] n is = ap words_of (drop_all n [] (omega arith))
words_after (c ∷ cs) n is = elim (cases_Bool (is_blank c)) [
  | inl blank ↦
      let e : 1 + prefix_len is_blank cs ≡ n = sym (ap (λ (b : Bool). cond b (1 + prefix_len is_blank cs) 0) blank) ∙ is in
      let s : n ≡ suc (prefix_len is_blank cs) = omega arith in
      ap (λ (k : ℕ). words_of (drop k (c ∷ cs))) s ∙ words_after cs (prefix_len is_blank cs) refl ∙ sym (words_after_blank c cs blank)
  | inr other ↦
      let e : 0 ≡ n = sym (ap (λ (b : Bool). cond b (1 + prefix_len is_blank cs) 0) other) ∙ is in
      sym (ap (λ (k : ℕ). words_of (drop k (c ∷ cs))) e)
]

first_later : (text : List ℕ) (n : ℕ) → 0 < length text → is_blank (get_or text 0 0) ≡ false → is_blank (get_or text n 0) ≡ true → 0 < n
first_later text n some other here = elim (cases_lt 0 n) [
  | inl later ↦ later
  | inr at_first ↦
      let e : n ≡ 0 = omega arith in
      absurd (both_ways (is_blank (get_or text 0 0)) other (sym (ap (λ (k : ℕ). is_blank (get_or text k 0)) e) ∙ here))
]

-- a text that does not start with a blank starts with a word
word_first : (text : List ℕ) (n : ℕ) → 0 < length text → is_blank (get_or text 0 0) ≡ false → n ≡ position_or_len is_blank text → words_of text ≡ take n text ∷ words_of (drop n text)
word_first text n some other is = elim (cases_lt n (length text)) [
  | inl in' ↦
      let within : position_or_len is_blank text < length text = omega arith in
      let here : is_blank (get_or text n 0) ≡ true = ap (λ (k : ℕ). is_blank (get_or text k 0)) is ∙ passes_at_first is_blank text 0 within in
      let long : 0 < n = first_later text n some other here in
      let split : slice_split is_blank text ≡ take n text ∷ slice_split is_blank (drop (n + 1) text) =
      slice_split_first is_blank text 0 within ∙ sym (ap (λ (k : ℕ). take k text ∷ slice_split is_blank (drop (k + 1) text)) is) in
      let following : words_of (drop n text) ≡ words_of (drop (n + 1) text) = ap words_of (drop_more text n 0 in') ∙ words_after_blank (get_or text n 0) (drop (n + 1) text) here in
      let kept : nat_lt 0 (length (take n text)) ≡ true = lt-ltb 0 (length (take n text)) (omega (arith, length-take {A = ℕ})) in
      ap (filter (λ word. nat_lt 0 (length word))) split ∙ cond-true (nat_lt 0 (length (take n text))) (take n text ∷ words_of (drop (n + 1) text)) (words_of (drop (n + 1) text)) kept
      ∙ ap (λ (ws : List (List ℕ)). take n text ∷ ws) (sym following)
  | inr out ↦
      let all : take n text ≡ text = take_all n text out in
      let split : slice_split is_blank text ≡ text ∷ [] = slice_split_none is_blank text (λ k d low. fails_before_first is_blank text k d (omega arith)) in
      let kept : nat_lt 0 (length text) ≡ true = lt-ltb 0 (length text) some in
      ap (filter (λ word. nat_lt 0 (length word))) split ∙ cond-true (nat_lt 0 (length text)) (text ∷ []) [] kept
      ∙ ap (λ (xs : List ℕ). xs ∷ []) (sym all) ∙ ap (λ (xs : List ℕ). take n text ∷ words_of xs) (sym (drop_all n text out))
]

-- after the blanks of a line
pub no_word : (line text : List ℕ) (n : ℕ) → n ≡ prefix_len is_blank line → text ≡ drop n line → length text ≡ 0 → words_of line ≡ []
no_word line text n is following none = sym (words_after line n (sym is)) ∙ ap words_of (sym following ∙ nil_from_length text none)

pub a_word : (line text word rest : List ℕ) (n end : ℕ) → n ≡ prefix_len is_blank line → text ≡ drop n line → 0 < length text → end ≡ position_or_len is_blank text → word ≡ take end text → rest ≡ drop end text
    → words_of line ≡ word ∷ words_of rest
a_word line text word rest n end is following some end_is word_is rest_is =
    let long : length text ≡ length (drop n line) = ap (λ (xs : List ℕ). length xs) following in
    let within : prefix_len is_blank line < length line = omega (arith, length-drop n line) in
    let here : get_or text 0 0 ≡ get_or line (prefix_len is_blank line) 0 =
    ap (λ (xs : List ℕ). get_or xs 0 0) following ∙ get_or-drop n line 0 0 ∙ ap (λ (k : ℕ). get_or line k 0) (let e : n + 0 ≡ prefix_len is_blank line = omega arith in e) in
    sym (words_after line n (sym is)) ∙ ap words_of (sym following)
    ∙ word_first text end some (ap is_blank here ∙ prefix_len_stops is_blank line 0 within) end_is
    ∙ ap (λ (xs : List ℕ). xs ∷ words_of (drop end text)) (sym word_is) ∙ ap (λ (xs : List ℕ). word ∷ words_of xs) (sym rest_is)

pub some_from : (n : ℕ) → (n == 0) ≡ false → 0 < n
some_from n h = elim (cases_lt 0 n) [
  | inl some ↦ some
  | inr none ↦ absurd (eqb-false n 0 h (omega arith))
]
