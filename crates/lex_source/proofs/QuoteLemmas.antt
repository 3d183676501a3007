-- Quoted fields: the doubling of quotes, the position of the closing quote, and how a doubled text
-- is read back.
use Rattle.std.proofs.Common.{◌≡◌, ℕ, ◌+◌, ◌-◌, ◌<◌, ◌≤◌, false, cond, List, [], ◌∷◌, ◌++◌, length, take, drop, get_or, refl, sym, ◌∙◌, ap, subst, arith, inl, inr, length-take, length-drop, append_assoc}
use Rattle.std.specs.Prelude.{slice_index, min}
use Rattle.std.specs.List.{list_any}
use Rattle.std.proofs.lemmas.Bool.{or_parts, ne_eqb, eq-eqb, eqb-false, eqb-true, cases_eq}
use Rattle.std.proofs.lemmas.List.{take-append-le, get_or_default, get_or-take, get_or-drop, take_more, take-append-drop, take-take, drop-take}
use Rattle.std.proofs.lemmas.List.Folds.{list_any_none}
use Rattle.std.proofs.lemmas.Grind.{flat_map-append}
use Rattle.memchr.specs.Find.{Nowhere, NoneBefore, Passes}
use Rattle.mj_model.specs.Bytes.{quote, is_quote}
use Rattle.mj_model.specs.Fields.{with_doubled_quotes}
use Rattle.mj_model.proofs.Basics.{same_head, same_tail}
use Rattle.mj_model.proofs.FieldLemmas.{doubled_quote, doubled_other}
use Rattle.lex_source.specs.Splits.{IsSplit}
use Rattle.lex_source.specs.Spelled.{IsDoubled, IsNextQuote}
use Rattle.lex_source.proofs.SplitLemmas.{cut_parts}

of_byte : ℕ → List ℕ
of_byte c = cond (is_quote c) (quote ∷ quote ∷ []) (c ∷ [])

doubled-append : (xs ys : List ℕ) → with_doubled_quotes (xs ++ ys) ≡ with_doubled_quotes xs ++ with_doubled_quotes ys
unfolding of_byte
doubled-append xs ys = flat_map-append of_byte xs ys

-- without a quote nothing is doubled
pub doubled_plain : (xs : List ℕ) → list_any is_quote xs ≡ false → with_doubled_quotes xs ≡ xs
doubled_plain [] h = refl
doubled_plain (c ∷ cs) h =
    let p = or_parts (is_quote c) (list_any is_quote cs) h in
    doubled_other c cs (eqb-false c quote p.0) ∙ ap (λ (xs : List ℕ). c ∷ xs) (doubled_plain cs p.1)

-- there is no quote from `start` up to the next quote
plain_before : (text : List ℕ) (start at : ℕ) → IsNextQuote text start at → list_any is_quote (take (at - start) (drop start text)) ≡ false
plain_before text start at next =
    list_any_none is_quote (take (at - start) (drop start text)) (λ k d in'.
    let low : k < at - start = omega (arith, length-take {A = ℕ}) in
    let short : at ≤ length text = next.high in
    let within : start + k < length text = omega arith in
    let here : get_or (take (at - start) (drop start text)) k d ≡ get_or text (start + k) 0 =
    get_or-take (at - start) (drop start text) k d low ∙ get_or-drop start text k d ∙ get_or_default text (start + k) d 0 within in
    ap is_quote here ∙ ne_eqb (get_or text (start + k) 0) quote (next.before (start + k) (omega arith) (omega arith)))

-- the result of `memchr` for the next quote
pub next_found : (text rest : List ℕ) (start at : ℕ) → rest ≡ drop start text → start ≤ length text → NoneBefore (Passes is_quote rest) 0 (length rest) at → Passes is_quote rest at
    → IsNextQuote text start (start + at)
next_found text rest start at is within none found =
    let in' : at < length rest = none.high in
    let long : length rest ≡ length (drop start text) = ap (λ (xs : List ℕ). length xs) is in
    record {
      low = omega arith;
      high = omega (arith, length-drop {A = ℕ});
      before = λ k low high here.
          let e : start + (k - start) ≡ k = omega arith in
          let back : get_or rest (k - start) 0 ≡ get_or text k 0 = ap (λ (xs : List ℕ). get_or xs (k - start) 0) is ∙ get_or-drop start text (k - start) 0 ∙ ap (λ (n : ℕ). get_or text n 0) e in
          none.before (k - start) (omega arith) (omega arith) (eq-eqb (get_or rest (k - start) 0) quote (back ∙ here));
      here = λ _. sym (ap (λ (xs : List ℕ). get_or xs at 0) is ∙ get_or-drop start text at 0) ∙ eqb-true (get_or rest at 0) quote found;
    }

pub next_missing : (text rest : List ℕ) (start : ℕ) → rest ≡ drop start text → start ≤ length text → Nowhere (Passes is_quote rest) 0 (length rest) → IsNextQuote text start (length text)
next_missing text rest start is within none =
    let long : length rest ≡ length (drop start text) = ap (λ (xs : List ℕ). length xs) is in
    record {
      low = within;
      high = omega arith;
      before = λ k low high here.
          let e : start + (k - start) ≡ k = omega arith in
          let back : get_or rest (k - start) 0 ≡ get_or text k 0 = ap (λ (xs : List ℕ). get_or xs (k - start) 0) is ∙ get_or-drop start text (k - start) 0 ∙ ap (λ (n : ℕ). get_or text n 0) e in
          none (k - start) (omega arith) (omega (arith, length-drop {A = ℕ})) (eq-eqb (get_or rest (k - start) 0) quote (back ∙ here));
      here = λ past. absurd (omega arith);
    }

pub take_on : (xs : List ℕ) (i j : ℕ) → i ≤ j → take j xs ≡ take i xs ++ take (j - i) (drop i xs)
take_on xs i j le =
    let e : i + (j - i) ≡ j = omega arith in
    sym (take-append-drop i (take j xs)) ∙ ap (λ (ys : List ℕ). ys ++ drop i (take j xs)) (take-take i j xs le)
    ∙ ap (λ (n : ℕ). take i xs ++ drop i (take n xs)) (sym e) ∙ ap (λ (ys : List ℕ). take i xs ++ ys) (drop-take i (j - i) xs)

pub doubled_start : (text : List ℕ) (at : ℕ) → IsNextQuote text 0 at → IsDoubled (take at text)
doubled_start text at next =
    let e : at - 0 ≡ at = omega arith in
    (take at text, sym (doubled_plain (take at text) (subst (λ (n : ℕ). list_any is_quote (take n text) ≡ false) e (plain_before text 0 at next))))

pub doubled_more : (text : List ℕ) (at next : ℕ) → IsDoubled (take at text) → at + 1 < length text → slice_index text at ≡ quote → slice_index text (at + 1) ≡ quote
    → IsNextQuote text (at + 2) next → IsDoubled (take next text)
doubled_more text at next inside in' one two more =
    let piece : List ℕ = take (next - (at + 2)) (drop (at + 2) text) in
    let start : at + 2 ≤ next = more.low in
    let two_more : take (at + 2) text ≡ take at text ++ quote ∷ quote ∷ [] =
    ap (λ (n : ℕ). take n text) (let e : at + 2 ≡ at + 1 + 1 = omega arith in e) ∙ take_more text (at + 1) 0 in'
    ∙ ap (λ (xs : List ℕ). xs ++ get_or text (at + 1) 0 ∷ []) (take_more text at 0 (omega arith))
    ∙ ap (λ (b : ℕ). (take at text ++ get_or text at 0 ∷ []) ++ b ∷ []) two ∙ ap (λ (b : ℕ). (take at text ++ b ∷ []) ++ quote ∷ []) one
    ∙ append_assoc (take at text) (quote ∷ []) (quote ∷ []) in (
      inside.0 ++ quote ∷ piece,
      take_on text (at + 2) next start ∙ ap (λ (xs : List ℕ). xs ++ piece) two_more ∙ append_assoc (take at text) (quote ∷ quote ∷ []) piece
          ∙ ap (λ (xs : List ℕ). take at text ++ quote ∷ quote ∷ xs) (sym (doubled_plain piece (plain_before text (at + 2) next more)))
          ∙ ap (λ (xs : List ℕ). xs ++ quote ∷ quote ∷ with_doubled_quotes piece) inside.1 ∙ sym (doubled-append inside.0 (quote ∷ piece)),
    )

read_back : (before following field : List ℕ) → with_doubled_quotes field ≡ before ++ quote ∷ following → list_any is_quote before ≡ false
    → (left : List ℕ) × (following ≡ quote ∷ with_doubled_quotes left) × (field ≡ before ++ quote ∷ left)
read_back [] following [] e none = absurd (cc)
read_back [] following (c ∷ cs) e none = elim (cases_eq c quote) [
  | inl q ↦ (cs, sym (same_tail quote quote (quote ∷ with_doubled_quotes cs) following (sym (doubled_quote c cs q) ∙ e)), ap (λ (d : ℕ). d ∷ cs) q)
  | inr n ↦ absurd (n (same_head c quote (with_doubled_quotes cs) following (sym (doubled_other c cs n) ∙ e)))
]
read_back (b ∷ bs) following [] e none = absurd (cc)
read_back (b ∷ bs) following (c ∷ cs) e none =
    let p = or_parts (is_quote b) (list_any is_quote bs) none in
    elim (cases_eq c quote) [
      | inl q ↦ absurd (eqb-false b quote p.0 (sym (same_head quote b (quote ∷ with_doubled_quotes cs) (bs ++ quote ∷ following) (sym (doubled_quote c cs q) ∙ e))))
      | inr n ↦
          let e' : c ∷ with_doubled_quotes cs ≡ b ∷ (bs ++ quote ∷ following) = sym (doubled_other c cs n) ∙ e in
          let r = read_back bs following cs (same_tail c b (with_doubled_quotes cs) (bs ++ quote ∷ following) e') p.1 in
          (r.0, r.1, ap (λ (d : ℕ). d ∷ cs) (same_head c b (with_doubled_quotes cs) (bs ++ quote ∷ following) e') ∙ ap (λ (xs : List ℕ). b ∷ xs) r.2)
    ]

pub pair : (field text before following : List ℕ) → text ≡ with_doubled_quotes field → IsSplit is_quote text before following
    → (left : List ℕ) × (following ≡ quote ∷ with_doubled_quotes left) × (field ≡ before ++ quote ∷ left)
pair field text before following is cut =
    let p = cut_parts quote text before following cut in
    read_back before following field (sym is ∙ p.0) p.1

-- without a quote a doubled text is the field
pub no_left : (field : List ℕ) → list_any is_quote (with_doubled_quotes field) ≡ false → with_doubled_quotes field ≡ field
no_left [] h = refl
no_left (c ∷ cs) h = elim (cases_eq c quote) [
  | inl q ↦ let e = ap (list_any is_quote) (doubled_quote c cs q) in absurd (cc)
  | inr n ↦
      let more : list_any is_quote (with_doubled_quotes cs) ≡ false = (or_parts (is_quote c) (list_any is_quote (with_doubled_quotes cs)) (sym (ap (list_any is_quote) (doubled_other c cs n)) ∙ h)).1 in
      doubled_other c cs n ∙ ap (λ (xs : List ℕ). c ∷ xs) (no_left cs more)
]

pub unquoted : (field text : List ℕ) → text ≡ with_doubled_quotes field → list_any is_quote text ≡ false → text ≡ field
unquoted field text is h = is ∙ no_left field (ap (list_any is_quote) (sym is) ∙ h)

-- the first quote of a doubled text is followed by another
pub after_quote : (rest before following : List ℕ) → IsDoubled rest → IsSplit is_quote rest before following → (0 < length following) × (slice_index following 0 < 128)
after_quote rest before following d cut =
    let r = pair d.0 rest before following d.1 cut in
    subst (λ (xs : List ℕ). (0 < length xs) × (slice_index xs 0 < 128)) (sym r.1) (omega arith, omega arith)

-- the step back over one pair
pub read_more : (raw field rest before following done next after : List ℕ) → (left : List ℕ) × (rest ≡ with_doubled_quotes left) × (field ≡ done ++ left) → IsSplit is_quote rest before following → next ≡ drop 1 following
    → after ≡ (done ++ before) ++ quote ∷ [] → (left : List ℕ) × (next ≡ with_doubled_quotes left) × (field ≡ after ++ left)
read_more raw field rest before following done next after p cut is pushed =
    let r = pair p.0 rest before following p.1 cut in (
      r.0,
      is ∙ ap (λ (xs : List ℕ). drop 1 xs) r.1,
      p.2 ∙ ap (λ (xs : List ℕ). done ++ xs) r.2 ∙ sym (append_assoc done before (quote ∷ r.0)) ∙ sym (append_assoc (done ++ before) (quote ∷ []) r.0)
          ∙ ap (λ (xs : List ℕ). xs ++ r.0) (sym pushed),
    )

pub read_all : (field rest done after : List ℕ) → (left : List ℕ) × (rest ≡ with_doubled_quotes left) × (field ≡ done ++ left) → list_any is_quote rest ≡ false → after ≡ done ++ rest → after ≡ field
read_all field rest done after p none pushed = pushed ∙ ap (λ (xs : List ℕ). done ++ xs) (unquoted p.0 rest p.1 none) ∙ sym p.2

-- the bytes before stay unchanged
pub prefix_more : (old done more new : List ℕ) → take (length old) done ≡ old → new ≡ done ++ more → take (length old) new ≡ old
prefix_more old done more new front is =
    let long : length (take (length old) done) ≡ min (length old) (length done) = length-take (length old) done in
    let same : length (take (length old) done) ≡ length old = ap length front in
    let low : length old ≤ length done = omega (arith, long, same) in
    ap (take (length old)) is ∙ take-append-le (length old) done more low ∙ front
