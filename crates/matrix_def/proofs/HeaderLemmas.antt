-- A line is no header if the last word of its start is no size, whatever follows in it.
use Rattle.std.proofs.Common.{◌≡◌, ℕ, ◌+◌, ◌-◌, ◌<◌, ◌≤◌, suc, Bool, true, false, cond, ◌&&◌, List, [], ◌∷◌, ◌++◌, length, take, drop, get_or, refl, sym, ◌∙◌, ap, subst, arith, Option, None, Some, inl, inr, append_assoc, length-take, length-drop}
use Rattle.std.proofs.Math.Seq.{take-append-add, drop-append-add}
use Rattle.std.specs.Prelude.{filter, not, nat_lt, option_map, option_and_then, ◌==◌, slice_index}
use Rattle.std.specs.List.{list_any, list_all, slice_split, onto_first, position_or_len, prefix_len, before_first}
use Rattle.std.proofs.lemmas.Bool.{cases_Bool, cases_lt, lt-ltb, or_parts, and_left, and_right}
use Rattle.std.proofs.lemmas.List.{append-nil, get_or-drop, get_or-take, get_or_default, length-append, take-append-drop, take_more}
use Rattle.std.proofs.lemmas.List.Elements.{filter-append}
use Rattle.std.proofs.lemmas.List.Folds.{list_all-append, list_any_none}
use Rattle.std.proofs.lemmas.List.Splits.{slice_split-cons_yes, slice_split-cons_no, length-slice_split}
use Rattle.std.proofs.lemmas.List.Sums.{fails_before_first}
use Rattle.mj_model.specs.Bytes.{carriage_return, is_blank}
use Rattle.mj_model.specs.Connection.{sizes_from, words_of, size as size_of}
use Rattle.mj_model.specs.Lines.{is_blank_line, without_return}
use Rattle.lex_source.proofs.WordLemmas.{a_word}
use Rattle.matrix_def.specs.Headers.{EndsWithNoSize, HasNoBlank, IsClosed, IsLastWord, IsNoHeader, IsNoSize}

-- ---- words before a blank, and after it

onto_append : (c : ℕ) (parts more : List (List ℕ)) → 0 < length parts → onto_first c (parts ++ more) ≡ onto_first c parts ++ more
onto_append c [] more some = absurd (omega (arith, some))
onto_append c (part ∷ parts) more some = refl

split_at_blank : (front more : List ℕ) (b : ℕ) → is_blank b ≡ true → slice_split is_blank (front ++ b ∷ more) ≡ slice_split is_blank front ++ slice_split is_blank more
split_at_blank [] more b blank = slice_split-cons_yes is_blank b more blank
split_at_blank (c ∷ cs) more b blank =
    let following : List (List ℕ) = slice_split is_blank more in
    elim (cases_Bool (is_blank c)) [
      | inl at_blank ↦
          slice_split-cons_yes is_blank c (cs ++ b ∷ more) at_blank ∙ ap (λ (parts : List (List ℕ)). [] ∷ parts) (split_at_blank cs more b blank)
          ∙ sym (ap (λ (parts : List (List ℕ)). parts ++ following) (slice_split-cons_yes is_blank c cs at_blank))
      | inr inside ↦
          slice_split-cons_no is_blank c (cs ++ b ∷ more) inside ∙ ap (onto_first c) (split_at_blank cs more b blank)
          ∙ onto_append c (slice_split is_blank cs) following (omega (arith, length-slice_split is_blank cs))
          ∙ sym (ap (λ (parts : List (List ℕ)). parts ++ following) (slice_split-cons_no is_blank c cs inside))
    ]

words_at_blank : (front more : List ℕ) (b : ℕ) → is_blank b ≡ true → words_of (front ++ b ∷ more) ≡ words_of front ++ words_of more
words_at_blank front more b blank =
    ap (filter (λ word. nat_lt 0 (length word))) (split_at_blank front more b blank) ∙ filter-append (λ word. nat_lt 0 (length word)) (slice_split is_blank front) (slice_split is_blank more)

words_after : (front more : List ℕ) → IsClosed front → words_of (front ++ more) ≡ words_of front ++ words_of more
words_after front more (inl none) = ap (λ (bs : List ℕ). words_of (bs ++ more)) none ∙ sym (ap (λ (bs : List ℕ). words_of bs ++ words_of more) none)
words_after front more (inr e) =
    let before : words_of front ≡ words_of e.front = ap words_of e.parts ∙ words_at_blank e.front [] e.last e.blank ∙ append-nil (words_of e.front) in
    ap (λ (bs : List ℕ). words_of (bs ++ more)) e.parts ∙ ap words_of (append_assoc e.front (e.last ∷ []) more) ∙ words_at_blank e.front more e.last e.blank
    ∙ sym (ap (λ (words : List (List ℕ)). words ++ words_of more) before)

-- ---- what follows in a word

in_word : List ℕ → List ℕ
in_word more = before_first is_blank more

after_word : List ℕ → List ℕ
after_word more = drop (position_or_len is_blank more) more

far_blank : (word more : List ℕ) → HasNoBlank word → position_or_len is_blank (word ++ more) ≡ length word + position_or_len is_blank more
far_blank [] more plain = omega arith
far_blank (c ∷ cs) more plain =
    let p = or_parts (is_blank c) (list_any is_blank cs) plain in
    ap (λ (b : Bool). cond (not b) (1 + position_or_len is_blank (cs ++ more)) 0) p.0 ∙ omega (arith, far_blank cs more p.1)

in_word_plain : (more : List ℕ) → HasNoBlank (in_word more)
unfolding in_word
in_word_plain more = list_any_none is_blank (before_first is_blank more) (λ k d in'.
    let low : k < position_or_len is_blank more = omega (arith, length-take {A = ℕ}) in
    ap is_blank (get_or-take (position_or_len is_blank more) more k d low) ∙ fails_before_first is_blank more k d low)

word_continued : (c : ℕ) (cs more : List ℕ) → HasNoBlank (c ∷ cs) → words_of ((c ∷ cs) ++ more) ≡ ((c ∷ cs) ++ in_word more) ∷ words_of (after_word more)
unfolding in_word after_word
word_continued c cs more plain =
    let word : List ℕ = c ∷ cs in
    let n : ℕ = position_or_len is_blank more in
    let first : 0 ≡ prefix_len is_blank (word ++ more) = sym (ap (λ (b : Bool). cond b (1 + prefix_len is_blank (cs ++ more)) 0) (or_parts (is_blank c) (list_any is_blank cs) plain).0) in
    a_word (word ++ more) (word ++ more) (word ++ take n more) (drop n more) 0 (length word + n) first refl (omega arith) (sym (far_blank word more plain))
    (sym (take-append-add word more n)) (sym (drop-append-add word more n))

-- ---- a word that is no size

no_left : {X : Type 0} (f : ℕ → ℕ → X) (o : Option ℕ) → option_and_then (λ right. option_map (f right) None) o ≡ None
no_left f None = refl
no_left f (Some right) = refl

no_size : (words following : List (List ℕ)) (u : List ℕ) → size_of u ≡ None → sizes_from (words ++ u ∷ following) ≡ None
no_size [] [] u none = refl
no_size [] (x ∷ []) u none = ap (option_and_then (λ right. option_map (λ left. record { right = right; left = left }) (size_of x))) none
no_size [] (x ∷ y ∷ following) u none = refl
no_size (w ∷ []) [] u none =
    ap (λ (o : Option ℕ). option_and_then (λ right. option_map (λ left. record { right = right; left = left }) o) (size_of w)) none
    ∙ no_left (λ right left. record { right = right; left = left }) (size_of w)
no_size (w ∷ []) (x ∷ following) u none = refl
no_size (w ∷ x ∷ []) following u none = refl
no_size (w ∷ x ∷ y ∷ words) following u none = refl

-- a line with a word in it is not blank
filled : (front more : List ℕ) (c : ℕ) (cs : List ℕ) → HasNoBlank (c ∷ cs) → is_blank_line (front ++ ((c ∷ cs) ++ more)) ≡ false
filled front more c cs plain =
    list_all-append is_blank front ((c ∷ cs) ++ more)
    ∙ and_right (list_all is_blank front) (list_all is_blank ((c ∷ cs) ++ more)) (and_left (is_blank c) (list_all is_blank (cs ++ more)) (or_parts (is_blank c) (list_any is_blank cs) plain).0)

line_words : (front more : List ℕ) (c : ℕ) (cs : List ℕ) → IsClosed front → HasNoBlank (c ∷ cs) → words_of (front ++ ((c ∷ cs) ++ more)) ≡ words_of front ++ ((c ∷ cs) ++ in_word more) ∷ words_of (after_word more)
line_words front more c cs closed plain = words_after front ((c ∷ cs) ++ more) closed ∙ ap (λ (ws : List (List ℕ)). words_of front ++ ws) (word_continued c cs more plain)

-- ---- an unfinished line, split before its last word

closed_at : (line : List ℕ) (n : ℕ) → n ≤ length line → (0 < n → is_blank (get_or line (n - 1) 0) ≡ true) → IsClosed (take n line)
closed_at line n within stops = elim (cases_lt 0 n) [
  | inr none ↦ inl (ap (λ (k : ℕ). take k line) (let e : n ≡ 0 = omega (arith, none) in e))
  | inl some ↦
      let e : n ≡ n - 1 + 1 = omega (arith, some) in
      inr (record {
        front = take (n - 1) line;
        last = get_or line (n - 1) 0;
        parts = ap (λ (k : ℕ). take k line) e ∙ take_more line (n - 1) 0 (omega (arith, some, within));
        blank = stops some;
      })
]

pub last_word : (line front word : List ℕ) (n : ℕ) → front ≡ take n line → word ≡ drop n line → n ≤ length line → ((k : ℕ) → n ≤ k → k < length line → is_blank (get_or line k 0) ≡ false)
    → (0 < n → is_blank (get_or line (n - 1) 0) ≡ true) → IsLastWord line front word
last_word line front word n front_is word_is within none stops = record {
  parts = sym (take-append-drop n line) ∙ sym (ap (λ (bs : List ℕ). bs ++ drop n line) front_is) ∙ sym (ap (λ (bs : List ℕ). front ++ bs) word_is);
  closed = subst IsClosed (sym front_is) (closed_at line n within stops);
  plain = ap (list_any is_blank) word_is ∙ list_any_none is_blank (drop n line) (λ k d in'.
      let long : length (drop n line) ≡ length line - n = length-drop n line in
      let here : n + k < length line = omega (arith, in', long) in
      ap is_blank (get_or-drop n line k d ∙ get_or_default line (n + k) d 0 here) ∙ none (n + k) (omega arith) here);
}

-- ---- a carriage return at the end

without_by : (line : List ℕ) (b : Bool) → 0 < length line → (slice_index line (length line - 1) == carriage_return) ≡ b → without_return line ≡ cond b (take (length line - 1) line) line
without_by line b some is =
    let short : List ℕ = take (length line - 1) line in
    ap (λ (t : Bool). cond (t && slice_index line (length line - 1) == carriage_return) short line) (lt-ltb 0 (length line) some) ∙ ap (λ (t : Bool). cond t short line) is

return_cons : (d : ℕ) (line : List ℕ) → 0 < length line → without_return (d ∷ line) ≡ d ∷ without_return line
return_cons d line some =
    let at : length (d ∷ line) - 1 ≡ suc (length line - 1) = omega (arith, some) in
    let last : slice_index (d ∷ line) (length (d ∷ line) - 1) ≡ slice_index line (length line - 1) = ap (slice_index (d ∷ line)) at in
    let both : (b : Bool) → (slice_index line (length line - 1) == carriage_return) ≡ b
    → (without_return (d ∷ line) ≡ cond b (take (length (d ∷ line) - 1) (d ∷ line)) (d ∷ line)) × (without_return line ≡ cond b (take (length line - 1) line) line) = λ b is.
    (without_by (d ∷ line) b (omega arith) (ap (λ (c : ℕ). c == carriage_return) last ∙ is), without_by line b some is) in
    elim (cases_Bool (slice_index line (length line - 1) == carriage_return)) [
      | inl is ↦ (both true is).0 ∙ ap (λ (k : ℕ). take k (d ∷ line)) at ∙ sym (ap (λ (bs : List ℕ). d ∷ bs) (both true is).1)
      | inr other ↦ (both false other).0 ∙ sym (ap (λ (bs : List ℕ). d ∷ bs) (both false other).1)
    ]

return_after : (front : List ℕ) (c : ℕ) (more : List ℕ) → without_return (front ++ c ∷ more) ≡ front ++ without_return (c ∷ more)
return_after [] c more = refl
return_after (d ∷ front) c more = return_cons d (front ++ c ∷ more) (omega (arith, length-append front (c ∷ more))) ∙ ap (λ (bs : List ℕ). d ∷ bs) (return_after front c more)

-- ---- no header

no_sizes : (front word more : List ℕ) → IsClosed front → HasNoBlank word → IsNoSize word
    → (is_blank_line (front ++ (word ++ more)) ≡ false) × (sizes_from (words_of (front ++ (word ++ more))) ≡ None)
no_sizes front [] more closed plain none = let one : ◌≡◌ {A = Option ℕ} (Some 1) None = none (0x31 ∷ []) refl in absurd (cc)
no_sizes front (c ∷ cs) more closed plain none = (
  filled front more c cs plain,
  ap sizes_from (line_words front more c cs closed plain) ∙ no_size (words_of front) (words_of (after_word more)) ((c ∷ cs) ++ in_word more) (none (in_word more) (in_word_plain more)),
)

-- the last byte of a prefix is ignored
pub no_header : (start front : List ℕ) (n last : ℕ) → take n start ≡ front ++ last ∷ [] → EndsWithNoSize front → IsNoHeader start
no_header start front n last is ends = λ more.
    let following : List ℕ = drop n start ++ more in
    let rest : List ℕ = without_return (last ∷ following) in
    let all : start ++ more ≡ front ++ last ∷ following =
    ap (λ (bs : List ℕ). bs ++ more) (sym (take-append-drop n start)) ∙ append_assoc (take n start) (drop n start) more
    ∙ ap (λ (bs : List ℕ). bs ++ following) is ∙ append_assoc front (last ∷ []) following in
    let line : without_return (start ++ more) ≡ ends.front ++ (ends.word ++ rest) =
    ap without_return all ∙ return_after front last following
    ∙ ap (λ (bs : List ℕ). bs ++ rest) ends.is_cut.parts ∙ append_assoc ends.front ends.word rest in
    let p = no_sizes ends.front ends.word rest ends.is_cut.closed ends.is_cut.plain ends.none in
    (ap is_blank_line line ∙ p.0, ap (λ (bs : List ℕ). sizes_from (words_of bs)) line ∙ p.1)
