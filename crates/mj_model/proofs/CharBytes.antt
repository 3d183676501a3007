-- Characters of a text and their bytes.
use Rattle.std.proofs.Common.{◌≡◌, ℕ, zero, suc, ◌+◌, ◌<◌, ◌≤◌, Bool, true, false, cond, inl, inr, List, [], ◌∷◌, length, take, drop, sym, ap, ◌∙◌, refl, arith, subst}
use Rattle.std.specs.Prelude.{encode_utf8_all, encode_utf8, chars, IsUtf8}
use Rattle.std.specs.Char.{len_utf8}
use Rattle.std.specs.List.{prefix_len}
use Rattle.std.proofs.Math.Utf8.{scalar, scalars, scalar_cases}
use Rattle.std.proofs.lemmas.Bool.{and_parts, cases_order}
use Rattle.std.proofs.lemmas.List.{drop_at, drop-drop, length-append, length-take, take-append-drop}
use Rattle.std.proofs.lemmas.Str.{length-encode, len_utf8_bounds, encodes-append, encodes-chars, chars-encodes, scalars-chars}
use Rattle.mj_model.specs.declared.category.CharInfo.{CharInfo}
use Rattle.mj_model.specs.Categories.{shares}
use Rattle.mj_model.specs.CharDef.{code_point_max}
use Rattle.mj_model.specs.Run.{run, bytes_of, sharing_with_first}
use Rattle.mj_model.specs.Tables.{Overlay}
use Rattle.mj_model.specs.Blanks.{skip, space, chars_from}

-- ---- bytes of characters

bytes_on : (n c : ℕ) (cs : List ℕ) → bytes_of (suc n) (c ∷ cs) ≡ len_utf8 c + bytes_of n cs
bytes_on n c cs = length-append (encode_utf8 c) (encode_utf8_all (take n cs)) ∙ ap (λ (k : ℕ). k + bytes_of n cs) (length-encode c)

-- more characters have more bytes
pub bytes_more : (n m : ℕ) (cs : List ℕ) → n < m → m ≤ length cs → bytes_of n cs < bytes_of m cs
bytes_more n m [] less low = absurd (omega arith)
bytes_more n zero (c ∷ cs) less low = absurd (omega arith)
bytes_more zero (suc m) (c ∷ cs) less low = let e = bytes_on m c cs in let b = len_utf8_bounds c in omega (arith, e, b.0)
bytes_more (suc n) (suc m) (c ∷ cs) less low =
    let e = bytes_on m c cs in
    let f = bytes_on n c cs in
    let r = bytes_more n m cs (omega arith) (omega arith) in
    omega (arith, e, f, r)

-- so as many bytes are as many characters
pub bytes_same : (n m : ℕ) (cs : List ℕ) → n ≤ length cs → m ≤ length cs → bytes_of n cs ≡ bytes_of m cs → n ≡ m
bytes_same n m cs low also same = elim (cases_order n m) [
  | inl e ↦ e
  | inr (inl less) ↦ let b = bytes_more n m cs less also in absurd (omega (arith, b, same))
  | inr (inr more) ↦ let b = bytes_more m n cs more low in absurd (omega (arith, b, same))
]

pub bytes_within : (n : ℕ) (cs : List ℕ) → bytes_of n cs ≤ length (encode_utf8_all cs)
bytes_within n cs =
    let e = ap length (sym (encodes-append (take n cs) (drop n cs)) ∙ ap encode_utf8_all (take-append-drop n cs)) in
    let f = length-append (encode_utf8_all (take n cs)) (encode_utf8_all (drop n cs)) in
    omega (arith, e, f)

-- a character is a code point
pub is_code_point : (c : ℕ) → scalar c ≡ true → c ≤ code_point_max
is_code_point c h = elim (scalar_cases c h) [ inl low ↦ omega (arith, low) | inr high ↦ omega (arith, high.1) ]

-- ---- the first n characters of a text

scalars_drop : (n : ℕ) (cs : List ℕ) → scalars cs ≡ true → scalars (drop n cs) ≡ true
scalars_drop zero cs h = h
scalars_drop (suc n) [] h = h
scalars_drop (suc n) (c ∷ cs) h = scalars_drop n cs (and_parts (scalar c) (scalars cs) h).1

following : (n : ℕ) (cs : List ℕ) → drop (bytes_of n cs) (encode_utf8_all cs) ≡ encode_utf8_all (drop n cs)
following n cs =
    ap (drop (bytes_of n cs)) (sym (ap encode_utf8_all (take-append-drop n cs)) ∙ encodes-append (take n cs) (drop n cs))
    ∙ drop_at (encode_utf8_all (take n cs)) (encode_utf8_all (drop n cs)) (bytes_of n cs) refl

-- valid UTF-8 follows them
pub text_after : (text : List ℕ) (n : ℕ) → IsUtf8 text → IsUtf8 (drop (bytes_of n (chars text)) text)
text_after text n u = (
  drop n (chars text),
  (
    scalars_drop n (chars text) (scalars-chars text u),
    sym (following n (chars text)) ∙ ap (drop (bytes_of n (chars text))) (encodes-chars text u),
  ),
)

pub chars_after : (text : List ℕ) (n : ℕ) → IsUtf8 text → chars (drop (bytes_of n (chars text)) text) ≡ drop n (chars text)
chars_after text n u =
    ap (λ (bytes : List ℕ). chars (drop (bytes_of n (chars text)) bytes)) (sym (encodes-chars text u)) ∙ ap chars (following n (chars text))
    ∙ chars-encodes (drop n (chars text)) (scalars_drop n (chars text) (scalars-chars text u))

-- they end in the text
pub chars_within : (text : List ℕ) (n : ℕ) → IsUtf8 text → bytes_of n (chars text) ≤ length text
chars_within text n u = let b = bytes_within n (chars text) in let e = ap length (encodes-chars text u) in omega (arith, b, e)

-- bytes come of characters
some_char : (cs : List ℕ) → 0 < length (encode_utf8_all cs) → 0 < length cs
some_char [] h = h
some_char (c ∷ cs) h = omega arith

pub chars_there : (text : List ℕ) → IsUtf8 text → 0 < length text → 0 < length (chars text)
chars_there text u some = some_char (chars text) (let e = ap length (encodes-chars text u) in omega (arith, e, some))

-- ---- runs

run_by : (n m : ℕ) (b : Bool) → n ≤ m → cond b (suc n) 0 ≤ suc m
run_by n m true h = omega arith
run_by n m false h = omega arith

pub run_within : (info : ℕ → CharInfo) (entry : CharInfo) (cs : List ℕ) → run info entry cs ≤ length cs
run_within info entry [] = omega arith
run_within info entry (c ∷ cs) = run_by (run info (info c) cs) (length cs) (shares entry (info c)) (run_within info (info c) cs)

pub alike_within : (info : ℕ → CharInfo) (first : ℕ) (cs : List ℕ) → sharing_with_first info first cs ≤ length (first ∷ cs)
alike_within info first cs = let e = length-take (prefix_len (λ c. shares (info first) (info c)) cs) cs in omega (arith, e)

-- ---- blanks

-- valid UTF-8 follows the blanks at a position
pub text_after_blanks : (o : Overlay) (text : List ℕ) (p : ℕ) → IsUtf8 (drop p text) → IsUtf8 (drop (skip o text p) text)
text_after_blanks o text p u =
    let n = run o.system.info (o.system.info space) (chars_from text p) in
    subst IsUtf8 (drop-drop (bytes_of n (chars_from text p)) p text) (text_after (drop p text) n u)
