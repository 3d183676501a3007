-- The first field of a UTF-8 line is UTF-8: it starts after an ASCII character and ends before one,
-- and the character that doubles its quotes is ASCII.
use Rattle.std.proofs.Common.{◌≡◌, ℕ, ◌+◌, ◌<◌, List, [], ◌∷◌, ◌++◌, length, drop, get_or, Option, ◌⊎◌, inl, inr, refl, sym, ap, ◌∙◌, subst, arith, append_assoc, append-nil}
use Rattle.std.specs.Prelude.{IsUtf8}
use Rattle.std.specs.List.{list_any, before_first, after_first, prefix_len}
use Rattle.std.specs.Str.{IsCharBoundary}
use Rattle.std.proofs.Math.Seq.{get_or-append_seam, take-append_seam}
use Rattle.std.proofs.lemmas.Bool.{cases_Bool, cases_eq, cases_lt}
use Rattle.std.proofs.lemmas.List.{drop_at, length-append}
use Rattle.std.proofs.lemmas.Str.{IsCharBoundary-after_ascii, IsCharBoundary-before_ascii, IsCharBoundary-start, IsUtf8-append, IsUtf8-drop, IsUtf8-take}
use Rattle.mj_model.specs.Bytes.{comma, is_blank, is_comma, quote}
use Rattle.mj_model.specs.Fields.{IsFieldOf, IsFirstField, with_doubled_quotes, without_leading_blanks}
use Rattle.mj_model.proofs.FieldLemmas.{doubled_other, doubled_quote}
use Rattle.lex_source.specs.Splits.{IsSplit}
use Rattle.lex_source.proofs.SplitLemmas.{after_blanks, cut_parts, uncut}

-- ---- the parts of UTF-8 text around an ASCII character are UTF-8

around : (xs ys : List ℕ) (c : ℕ) → c < 128 → IsUtf8 (xs ++ c ∷ ys) → IsUtf8 xs × IsUtf8 ys
around xs ys c low u =
    let all = xs ++ c ∷ ys in
    let here = get_or-append_seam xs c ys 0 in
    let long = length-append xs (c ∷ ys) in
    let within : length xs < length all = omega (arith, long) in
    let ascii : get_or all (length xs) 0 < 128 = omega (arith, here, low) in
    let one = length-append xs (c ∷ []) in
    let following : drop (length xs + 1) all ≡ ys =
    ap (drop (length xs + 1)) (sym (append_assoc xs (c ∷ []) ys)) ∙ drop_at (xs ++ c ∷ []) ys (length xs + 1) (omega (arith, one)) in (
      subst IsUtf8 (take-append_seam xs (c ∷ ys)) (IsUtf8-take all (length xs) u (IsCharBoundary-before_ascii all (length xs) within ascii)),
      subst IsUtf8 following (IsUtf8-drop all (length xs + 1) u (IsCharBoundary-after_ascii all (length xs) u within ascii)),
    )

-- ---- quoted fields

-- the end of a quoted field: the end of the line or a quote
abbrev IsEnd : List ℕ → Type 0
IsEnd tail = (tail ≡ []) ⊎ ((following : List ℕ) × (tail ≡ quote ∷ following))

undoubled : (before field tail : List ℕ) → IsEnd tail → IsUtf8 (before ++ (with_doubled_quotes field ++ tail)) → IsUtf8 (before ++ field)
undoubled before [] tail (inl none) u = subst (λ (t : List ℕ). IsUtf8 (before ++ t)) none u
undoubled before [] tail (inr (following, is)) u =
    subst IsUtf8 (sym (append-nil before)) (around before following quote (omega arith) (subst (λ (t : List ℕ). IsUtf8 (before ++ t)) is u)).0
undoubled before (c ∷ cs) tail end u = elim (cases_eq c quote) [
  | inl is ↦
      let parts = around before (quote ∷ (with_doubled_quotes cs ++ tail)) quote (omega arith) (subst (λ (t : List ℕ). IsUtf8 (before ++ (t ++ tail))) (doubled_quote c cs is) u) in
      let rest = undoubled (quote ∷ []) cs tail end parts.1 in
      subst (λ (d : ℕ). IsUtf8 (before ++ d ∷ cs)) (sym is) (IsUtf8-append before (quote ∷ cs) parts.0 rest)
  | inr other ↦
      let from : IsUtf8 (before ++ c ∷ (with_doubled_quotes cs ++ tail)) = subst (λ (t : List ℕ). IsUtf8 (before ++ (t ++ tail))) (doubled_other c cs other) u in
      subst IsUtf8 (append_assoc before (c ∷ []) cs)
      (undoubled (before ++ c ∷ []) cs tail end (subst IsUtf8 (sym (append_assoc before (c ∷ []) (with_doubled_quotes cs ++ tail))) from))
]

-- ---- a field without quotes

before_comma : (text : List ℕ) → IsUtf8 text → IsUtf8 (before_first is_comma text)
before_comma text u = elim (cases_Bool (list_any is_comma text)) [
  | inl found ↦
      let cut : IsSplit is_comma text (before_first is_comma text) (after_first is_comma text) = record { found = found; before_is = refl; following_is = refl } in
      let parts = cut_parts comma text (before_first is_comma text) (after_first is_comma text) cut in
      (around (before_first is_comma text) (after_first is_comma text) comma (omega arith) (subst IsUtf8 parts.0 u)).0
  | inr none ↦ subst IsUtf8 (uncut is_comma text none) u
]

-- ---- the first field

field_is_text : (text field : List ℕ) (rest : Option (List ℕ)) → IsUtf8 text → IsFieldOf text field rest → IsUtf8 field
field_is_text text field rest u (inl plain) = subst IsUtf8 (sym plain.1) (before_comma text u)
field_is_text text field rest u (inr (inl (following, is, out, more))) =
    undoubled [] field (quote ∷ following) (inr (following, refl)) (around [] (with_doubled_quotes field ++ quote ∷ following) quote (omega arith) (subst IsUtf8 is u)).1
field_is_text text field rest u (inr (inr (is, none))) =
    undoubled [] field [] (inl refl) (subst IsUtf8 (sym (append-nil (with_doubled_quotes field))) (around [] (with_doubled_quotes field) quote (omega arith) (subst IsUtf8 is u)).1)

without_blanks_is_text : (line : List ℕ) → IsUtf8 line → IsUtf8 (without_leading_blanks line)
without_blanks_is_text line u =
    let n = prefix_len is_blank line in
    elim (cases_lt 0 n) [
      | inl some ↦ IsUtf8-drop line n u (after_blanks line n u refl some)
      | inr none ↦ let e : 0 ≡ n = omega (arith, none) in IsUtf8-drop line n u (subst (IsCharBoundary line) e (IsCharBoundary-start line u))
    ]

pub first_is_text : (line field : List ℕ) (rest : Option (List ℕ)) → IsUtf8 line → IsFirstField line field rest → IsUtf8 field
first_is_text line field rest u h = field_is_text (without_leading_blanks line) field rest (without_blanks_is_text line u) h
