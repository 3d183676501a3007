-- The run at the start of a text, scanned character by character up to a limit.
use Rattle.std.proofs.Common.{◌≡◌, ℕ, zero, suc, ◌+◌, ◌-◌, ◌<◌, ◌≤◌, Bool, true, false, cond, List, [], ◌∷◌, ◌++◌, length, take, drop, get_or, refl, sym, ap, ◌∙◌, arith, subst}
use Rattle.std.specs.Prelude.{encode_utf8_all, encode_utf8, IsUtf8, chars}
use Rattle.std.specs.Char.{len_utf8}
use Rattle.std.proofs.Math.Seq.{take-append-add}
use Rattle.std.proofs.lemmas.List.{drop-drop, drop_at, length-append, length-drop, take_more, take-append-le}
use Rattle.std.proofs.lemmas.Str.{chars_past_char, length-encode, encodes-append}
use Rattle.mj_model.specs.declared.category.CharInfo.{CharInfo}
use Rattle.mj_model.specs.Categories.{shares}
use Rattle.mj_model.specs.Run.{run, bytes_of}
use Rattle.word_lookup.proofs.PlaceLemmas.{no_chars}
use Rattle.mj_model.proofs.CharBytes.{bytes_within, chars_after, chars_within, text_after}

-- ---- bytes

-- the bytes of one character more
pub one_more_byte : (cs : List ℕ) (k c : ℕ) → k < length cs → c ≡ get_or cs k c → bytes_of (k + 1) cs ≡ bytes_of k cs + len_utf8 c
one_more_byte cs k c less at =
    let e = ap (λ (xs : List ℕ). length (encode_utf8_all xs)) (take_more cs k c less) in
    let f = ap length (encodes-append (take k cs) (get_or cs k c ∷ [])) in
    let g = length-append (encode_utf8_all (take k cs)) (encode_utf8_all (get_or cs k c ∷ [])) in
    let h = length-append (encode_utf8 (get_or cs k c)) [] in
    let i = length-encode (get_or cs k c) in
    let j = ap len_utf8 at in
    omega (arith, e, f, g, h, i, j)

-- the bytes of one character before others
pub bytes_after : (n c : ℕ) (cs : List ℕ) → bytes_of (1 + n) (c ∷ cs) ≡ len_utf8 c + bytes_of n cs
bytes_after n c cs =
    let e : 1 + n ≡ suc n = omega arith in
    ap (λ (k : ℕ). bytes_of k (c ∷ cs)) e ∙ length-append (encode_utf8 c) (encode_utf8_all (take n cs)) ∙ ap (λ (k : ℕ). k + bytes_of n cs) (length-encode c)

-- the bytes of characters and some after them
pub bytes_through : (xs ys : List ℕ) (n : ℕ) → bytes_of (length xs + n) (xs ++ ys) ≡ length (encode_utf8_all xs) + bytes_of n ys
bytes_through xs ys n =
    ap (λ (zs : List ℕ). length (encode_utf8_all zs)) (take-append-add xs ys n) ∙ ap length (encodes-append xs (take n ys))
    ∙ length-append (encode_utf8_all xs) (encode_utf8_all (take n ys))

pub bytes_before : (n : ℕ) (xs ys : List ℕ) → n ≤ length xs → bytes_of n (xs ++ ys) ≤ length (encode_utf8_all xs)
bytes_before n xs ys low =
    let same = ap (λ (zs : List ℕ). length (encode_utf8_all zs)) (take-append-le n xs ys low) in
    let all = bytes_within n xs in
    omega (arith, same, all)

-- the bytes of more characters
pub bytes_join : (m n : ℕ) (cs : List ℕ) → bytes_of (m + n) cs ≡ bytes_of m cs + bytes_of n (drop m cs)
bytes_join zero n cs = let e : 0 + n ≡ n = omega arith in let same = ap (λ (k : ℕ). bytes_of k cs) e in omega (arith, same)
bytes_join (suc m) n [] = let a = bytes_within (suc m + n) [] in let b = bytes_within n [] in omega (arith, a, b)
bytes_join (suc m) n (c ∷ cs) =
    let e : suc m + n ≡ 1 + (m + n) = omega arith in
    let f : suc m ≡ 1 + m = omega arith in
    let a = ap (λ (k : ℕ). bytes_of k (c ∷ cs)) e ∙ bytes_after (m + n) c cs in
    let b = ap (λ (k : ℕ). bytes_of k (c ∷ cs)) f ∙ bytes_after m c cs in
    let h = bytes_join m n cs in
    omega (arith, a, b, h)

-- ---- a run that goes past a character goes on from it

first_by : (n : ℕ) (b : Bool) → 0 < cond b (suc n) 0 → cond b (suc n) 0 ≡ suc n
first_by n true h = refl
first_by n false h = absurd (omega (arith, h))

more_by : (k n m : ℕ) (b : Bool) → suc k < cond b (suc n) 0 → (k < n → n ≡ k + m) → cond b (suc n) 0 ≡ suc k + m
more_by k n m true h on = let e = on (omega (arith, h)) in omega (arith, e)
more_by k n m false h on = absurd (omega (arith, h))

module _ (info : ℕ → CharInfo) where
  pub goes_on : (entry : CharInfo) (c : ℕ) (cs : List ℕ) → 0 < run info entry (c ∷ cs) → run info entry (c ∷ cs) ≡ suc (run info (info c) cs)
  goes_on entry c cs some = first_by (run info (info c) cs) (shares entry (info c)) some

  pub run_through : (entry : CharInfo) (xs : List ℕ) (c : ℕ) (cs : List ℕ) → length xs < run info entry (xs ++ c ∷ cs)
      → run info entry (xs ++ c ∷ cs) ≡ length xs + suc (run info (info c) cs)
  run_through entry [] c cs less = let e = goes_on entry c cs less in omega (arith, e)
  run_through entry (x ∷ xs) c cs less = more_by (length xs) (run info (info x) (xs ++ c ∷ cs)) (suc (run info (info c) cs)) (shares entry (info x)) less (λ h. run_through (info x) xs c cs h)

-- ---- character by character

-- a text after its first n characters
pub record IsLeft (text left : List ℕ) (n : ℕ) : Type 0 where
  pub utf8 : IsUtf8 left
  pub chars_are : drop n (chars text) ≡ chars left
  pub bytes : length text - length left ≡ bytes_of n (chars text)
  pub fits : length left ≤ length text

pub left_after : (text left : List ℕ) (n : ℕ) → IsUtf8 text → left ≡ drop (bytes_of n (chars text)) text → IsLeft text left n
left_after text left n u at =
    let within = chars_within text n u in
    let short = length-drop (bytes_of n (chars text)) text in
    let long = ap length at in
    record {
      utf8 = subst IsUtf8 (sym at) (text_after text n u);
      chars_are = sym (ap chars at ∙ chars_after text n u);
      bytes = omega (arith, within, short, long);
      fits = omega (arith, within, short, long);
    }

-- one more character was scanned
pub record IsTaken (text rest : List ℕ) (n c : ℕ) : Type 0 where
  pub chars_are : drop n (chars text) ≡ c ∷ drop (n + 1) (chars text)
  pub at : rest ≡ drop (bytes_of (n + 1) (chars text)) text

pub taken : (text left rest : List ℕ) (n c : ℕ) → IsUtf8 text → left ≡ drop (bytes_of n (chars text)) text → left ≡ encode_utf8 c ++ rest → IsTaken text rest n c
taken text left rest n c u at spelled =
    let cs = chars text in
    let before = left_after text left n u at in
    let one = length-encode c in
    let suffix : drop (len_utf8 c) left ≡ rest = ap (drop (len_utf8 c)) spelled ∙ drop_at (encode_utf8 c) rest (len_utf8 c) (omega (arith, one)) in
    let split : drop n cs ≡ c ∷ chars rest = before.chars_are ∙ chars_past_char left rest c before.utf8 spelled in
    let join = bytes_join n 1 cs in
    let width = ap (bytes_of 1) split ∙ bytes_after 0 c (chars rest) in
    let bytes : bytes_of n cs + len_utf8 c ≡ bytes_of (n + 1) cs = omega (arith, join, width) in
    let backward_cost_at : rest ≡ drop (bytes_of (n + 1) cs) text =
    sym suffix ∙ ap (drop (len_utf8 c)) at ∙ drop-drop (len_utf8 c) (bytes_of n cs) text ∙ ap (λ (k : ℕ). drop k text) bytes in
    record { chars_are = split ∙ ap (λ (ds : List ℕ). c ∷ ds) (ap chars backward_cost_at ∙ chars_after text (n + 1) u); at = backward_cost_at }

run_on_by : (n : ℕ) (b shared : Bool) → b ≡ shared → cond b (suc n) 0 ≡ cond shared (suc n) 0
run_on_by n b shared e = ap (λ t. cond t (suc n) 0) e

-- a loop over the characters goes on, or ends at one that is not in the run, or at the end of the
-- text
pub turn : (info : ℕ → CharInfo) (entry last next : CharInfo) (cs ds : List ℕ) (n c : ℕ) → drop n cs ≡ c ∷ ds → n + run info last (drop n cs) ≡ run info entry cs → next ≡ info c → shares last next ≡ true
    → (n + 1) + run info next ds ≡ run info entry cs
turn info entry last next cs ds n c split so_far is shared =
    let e = ap (run info last) split in
    let f = run_on_by (run info (info c) ds) (shares last (info c)) true (ap (shares last) (sym is) ∙ shared) in
    let g = ap (λ (i : CharInfo). run info i ds) is in
    omega (arith, so_far, e, f, g)

pub stop : (info : ℕ → CharInfo) (entry last next : CharInfo) (cs ds : List ℕ) (n c : ℕ) → drop n cs ≡ c ∷ ds → n + run info last (drop n cs) ≡ run info entry cs → next ≡ info c → shares last next ≡ false
    → n ≡ run info entry cs
stop info entry last next cs ds n c split so_far is off =
    let e = ap (run info last) split in
    let f = run_on_by (run info (info c) ds) (shares last (info c)) false (ap (shares last) (sym is) ∙ off) in
    omega (arith, so_far, e, f)

pub end : (info : ℕ → CharInfo) (entry last : CharInfo) (text left : List ℕ) (n : ℕ) → IsUtf8 text → left ≡ drop (bytes_of n (chars text)) text → length left ≡ 0 → n + run info last (drop n (chars text)) ≡ run info entry (chars text)
    → n ≡ run info entry (chars text)
end info entry last text left n u at empty so_far =
    let e = ap (run info last) ((left_after text left n u at).chars_are ∙ no_chars left left (left_after text left n u at).utf8 refl empty) in
    omega (arith, so_far, e)
