-- A text is split at the byte that `memchr` finds.
use Rattle.std.proofs.Common.{◌≡◌, ℕ, ◌+◌, ◌-◌, ◌<◌, ◌≤◌, Bool, true, false, ◌==◌, List, [], length, take, drop, get_or, refl, sym, ◌∙◌, ap, arith, subst, cond, inl, inr, length-take, ◌∷◌, ◌++◌}
use Rattle.std.specs.Prelude.{slice_index, not, ◌||◌}
use Rattle.std.specs.List.{list_any, position_or_len, before_first, after_first, suffix_len, prefix_len}
use Rattle.std.proofs.lemmas.Bool.{false_from_ne_true, cases_Bool, or_parts, or_cases, eqb-true}
use Rattle.std.proofs.lemmas.List.{get_or_default, take_rest, drop_all, get_or-take}
use Rattle.std.proofs.lemmas.List.Sums.{position_or_len_is, suffix_len_is, passes_at_first, split_at_first, fails_before_first, take_while-cons, prefix_len_passes, prefix_len-le-length}
use Rattle.std.proofs.lemmas.List.Folds.{list_any_none, list_any_at}
use Rattle.std.specs.Str.{IsUtf8, IsCharBoundary}
use Rattle.std.proofs.lemmas.Str.{IsCharBoundary-after_ascii}
use Rattle.memchr.specs.Find.{Nowhere, NoneBefore, Passes}
use Rattle.mj_model.specs.Bytes.{is_blank}
use Rattle.mj_model.specs.Numbers.{without_trailing_blanks}
use Rattle.lex_source.specs.Splits.{IsSplit}

pub not_found : (test : ℕ → Bool) (bytes : List ℕ) → Nowhere (Passes test bytes) 0 (length bytes) → list_any test bytes ≡ false
not_found test bytes none = list_any_none test bytes (λ k d in'.
    ap test (get_or_default bytes k d 0 in') ∙ false_from_ne_true (test (slice_index bytes k)) (none k (omega arith) in'))

pub cut_around : (test : ℕ → Bool) (bytes before following : List ℕ) (at : ℕ) → NoneBefore (Passes test bytes) 0 (length bytes) at → Passes test bytes at
    → before ≡ take at bytes → following ≡ drop (at + 1) bytes → IsSplit test bytes before following
cut_around test bytes before following at none found before_is following_is =
    let in' : at < length bytes = none.high in
    let is : position_or_len test bytes ≡ at =
    position_or_len_is test bytes at 0 (omega arith) (λ k low. false_from_ne_true (test (slice_index bytes k)) (none.before k (omega arith) low)) (λ _. found) in
    record {
      found = list_any_at test bytes at 0 in' found;
      before_is = before_is ∙ ap (λ (n : ℕ). take n bytes) (sym is);
      following_is = following_is ∙ ap (λ (n : ℕ). drop (n + 1) bytes) (sym is);
    }

pub cut_at : (test : ℕ → Bool) (bytes : List ℕ) (at : ℕ) → NoneBefore (Passes test bytes) 0 (length bytes) at → Passes test bytes at
    → IsSplit test bytes (take at bytes) (take (length bytes - (at + 1)) (drop (at + 1) bytes))
cut_at test bytes at none found = cut_around test bytes (take at bytes) (take (length bytes - (at + 1)) (drop (at + 1) bytes)) at none found refl (take_rest bytes (at + 1))

-- no byte of a text passes if none of its bytes does
pub not_found_text : (test : ℕ → Bool) (text bytes : List ℕ) → bytes ≡ text → Nowhere (Passes test bytes) 0 (length bytes) → list_any test text ≡ false
not_found_text test text bytes is none = ap (list_any test) (sym is) ∙ not_found test bytes none

pub cut_text : (test : ℕ → Bool) (text bytes before following : List ℕ) (at : ℕ) → bytes ≡ text → NoneBefore (Passes test bytes) 0 (length bytes) at → Passes test bytes at
    → before ≡ take at text → following ≡ drop (at + 1) text → IsSplit test text before following
cut_text test text bytes before following at is none found before_is following_is =
    subst (λ (xs : List ℕ). IsSplit test xs before following) is
    (cut_around test bytes before following at none found (before_is ∙ ap (λ (xs : List ℕ). take at xs) (sym is)) (following_is ∙ ap (λ (xs : List ℕ). drop (at + 1) xs) (sym is)))

-- a text may be split after the blanks that it starts with
pub after_blanks : (text : List ℕ) (n : ℕ) → IsUtf8 text → n ≡ prefix_len is_blank text → 0 < n → IsCharBoundary text n
after_blanks text n utf8 is some =
    let low : n - 1 < prefix_len is_blank text = omega arith in
    let within : n - 1 < length text = omega (arith, prefix_len-le-length is_blank text) in
    let blank_before : is_blank (get_or text (n - 1) 0) ≡ true = prefix_len_passes is_blank text (n - 1) 0 low in
    let ascii : get_or text (n - 1) 0 < 128 = elim (or_cases (get_or text (n - 1) 0 == 0x20) (get_or text (n - 1) 0 == 0x09) blank_before) [
      | inl b ↦ let e : get_or text (n - 1) 0 ≡ 0x20 = eqb-true (get_or text (n - 1) 0) 0x20 b in omega arith
      | inr t ↦ let e : get_or text (n - 1) 0 ≡ 0x09 = eqb-true (get_or text (n - 1) 0) 0x09 t in omega arith
    ] in
    let e : n - 1 + 1 ≡ n = omega arith in
    subst (λ (k : ℕ). IsCharBoundary text k) e (IsCharBoundary-after_ascii text (n - 1) utf8 within ascii)

-- nothing follows the end of a text
pub after_all : (bytes : List ℕ) → take (length bytes - length bytes) (drop (length bytes) bytes) ≡ []
after_all bytes = take_rest bytes (length bytes) ∙ drop_all (length bytes) bytes (omega arith)

pub blanks_after : (text : List ℕ) (n : ℕ) → n ≤ length text → ((k : ℕ) → n ≤ k → k < length text → is_blank (get_or text k 0) ≡ true) → (0 < n → is_blank (get_or text (n - 1) 0) ≡ false) → take n text ≡ without_trailing_blanks text
blanks_after text n in' are stops =
    let e : length text - suffix_len is_blank text ≡ n = let s : suffix_len is_blank text ≡ length text - n = suffix_len_is is_blank text n 0 in' are stops in omega arith in
    sym (ap (λ (k : ℕ). take k text) e)

-- a byte that passes lies before the end
pub any_within : (test : ℕ → Bool) (bytes : List ℕ) → list_any test bytes ≡ true → position_or_len test bytes < length bytes
any_within test [] h = cc
any_within test (c ∷ cs) h = elim (cases_Bool (test c)) [
  | inl passes ↦
      let e : position_or_len test (c ∷ cs) ≡ 0 = ap (λ (b : Bool). cond (not b) (1 + position_or_len test cs) 0) passes in
      omega arith
  | inr fails ↦
      let e : position_or_len test (c ∷ cs) ≡ 1 + position_or_len test cs = ap (λ (b : Bool). cond (not b) (1 + position_or_len test cs) 0) fails in
      let more : list_any test cs ≡ true = sym (ap (λ (b : Bool). b || list_any test cs) fails) ∙ h in
      let within : position_or_len test cs < length cs = any_within test cs more in
      omega arith
]

-- a text is the bytes before its first such byte, that byte, and the bytes after it
pub cut_parts : (byte : ℕ) (text before following : List ℕ) → IsSplit (λ c. c == byte) text before following
    → (text ≡ before ++ byte ∷ following) × (list_any (λ c. c == byte) before ≡ false)
cut_parts byte text before following cut =
    let test : ℕ → Bool = λ c. c == byte in
    let within : position_or_len test text < length text = any_within test text cut.found in
    let here : get_or text (position_or_len test text) 0 ≡ byte = eqb-true (get_or text (position_or_len test text) 0) byte (passes_at_first test text 0 within) in
    let parts : text ≡ before_first test text ++ (get_or text (position_or_len test text) 0 ∷ after_first test text) = split_at_first test text 0 within in (
      parts ∙ ap (λ (b : ℕ). before_first test text ++ b ∷ after_first test text) here
          ∙ sym (ap (λ (xs : List ℕ). xs ++ byte ∷ after_first test text) cut.before_is) ∙ sym (ap (λ (xs : List ℕ). before ++ byte ∷ xs) cut.following_is),
      ap (list_any test) cut.before_is ∙ list_any_none test (before_first test text) (λ k d in'.
          let low : k < position_or_len test text = omega (arith, length-take {A = ℕ}) in
          ap test (get_or-take (position_or_len test text) text k d low) ∙ fails_before_first test text k d low),
    )

-- without such a byte the part before it is the whole text
pub uncut : (test : ℕ → Bool) (text : List ℕ) → list_any test text ≡ false → text ≡ before_first test text
uncut test [] h = refl
uncut test (c ∷ cs) h =
    let p = or_parts (test c) (list_any test cs) h in
    ap (λ (xs : List ℕ). c ∷ xs) (uncut test cs p.1) ∙ sym (ap (λ (b : Bool). cond (not b) (c ∷ before_first test cs) []) p.0) ∙ sym (take_while-cons (λ x. not (test x)) c cs)
