-- Scanned parts of a run: the part after a position in it, a part that is scanned further, and what
-- a part implies for the run.
use Rattle.std.proofs.Common.{◌≡◌, ℕ, ◌+◌, ◌-◌, ◌<◌, ◌≤◌, Bool, false, List, [], ◌∷◌, ◌++◌, length, drop, inl, inr, refl, sym, ap, ◌∙◌, subst, arith}
use Rattle.std.specs.Prelude.{IsTrue, IsUtf8, chars, encode_utf8_all, min, nat_lt}
use Rattle.std.proofs.lemmas.Bool.{cases_lt, ltb-true}
use Rattle.std.proofs.lemmas.List.{drop-drop}
use Rattle.std.specs.Char.{len_utf8}
use Rattle.mj_model.specs.declared.category.CharInfo.{CharInfo}
use Rattle.mj_model.specs.Blanks.{chars_from}
use Rattle.mj_model.specs.Run.{bytes_of, run}
use Rattle.mj_model.specs.Words.{is_place}
use Rattle.word_lookup.specs.declared.category_scan.CategoryScan.{CategoryScan}
use Rattle.mj_model.proofs.CharBytes.{bytes_within, chars_after, text_after}
use Rattle.mj_model.proofs.PlaceWords.{place_there}
use Rattle.word_lookup.specs.CategoryScans.{IsCategoryScan, IsFirst, count_between, following_in_run}
use Rattle.word_lookup.proofs.PlaceLemmas.{blanks_fit, parted, text_there}
use Rattle.word_lookup.proofs.RunLemmas.{bytes_before, bytes_after, bytes_join, bytes_through, run_through}

-- ---- its first character

pub started_run : (info : ℕ → CharInfo) (text rest : List ℕ) (start c n : ℕ) (entry : CharInfo) → IsTrue (is_place text start) → rest ≡ drop start text → IsFirst rest c (len_utf8 c) → n ≡ len_utf8 c → entry ≡ info c
    → IsCategoryScan info text (record { from = start; to = start + n; following = 0; last = entry; is_whole = false })
started_run info text rest start c n entry there at first width is =
    let cs = chars (drop (len_utf8 c) rest) in
    let split : chars_from text start ≡ c ∷ cs = ap chars (sym at) ∙ first.split in
    let one = ap (bytes_of 1) split ∙ bytes_after 0 c cs in
    let suffix : cs ≡ chars_from text (start + n) =
    ap (λ (bytes : List ℕ). chars (drop (len_utf8 c) bytes)) at ∙ ap chars (drop-drop (len_utf8 c) start text) ∙ ap (λ (k : ℕ). chars_from text (start + k)) (sym width) in
    let on : following_in_run info (chars_from text start) ≡ run info entry (chars_from text (start + n)) =
    ap (following_in_run info) split ∙ ap (λ (i : CharInfo). run info i cs) (sym is) ∙ ap (run info entry) suffix in
    record {
      begins = there;
      ends = omega (arith, one, width);
      goes_on = omega (arith, on);
      whole = λ h. absurd (cc);
    }

-- ---- the part after a position in it

following_after : (info : ℕ → CharInfo) (xs : List ℕ) (d : ℕ) (ds : List ℕ) (n r : ℕ) → following_in_run info (xs ++ d ∷ ds) ≡ n + r → length xs ≤ n → run info (info d) ds ≡ (n - length xs) + r
following_after info [] d ds n r is low = omega (arith, is)
following_after info (x ∷ xs) d ds n r is low = let through = run_through info (info x) xs d ds (omega (arith, is, low)) in omega (arith, through, is, low)

-- a part contains the characters before a position in it
count_within : (info : ℕ → CharInfo) (text : List ℕ) (r : CategoryScan) (place : ℕ) (xs cs : List ℕ) → IsCategoryScan info text r → chars_from text r.from ≡ xs ++ cs
    → length (encode_utf8_all xs) ≡ place - r.from → r.from ≤ place → place < r.to → length xs ≤ r.following
count_within info text r place xs cs is split width low less = elim (cases_lt r.following (length xs)) [
  | inl short ↦
      let few = bytes_before (1 + r.following) xs cs (omega (arith, short)) in
      let same = ap (bytes_of (1 + r.following)) split in
      let ends = is.ends in
      absurd (omega (arith, few, same, ends, width, low, less))
  | inr enough ↦ enough
]

rest_by : (info : ℕ → CharInfo) (text : List ℕ) (r : CategoryScan) (place : ℕ) (xs cs : List ℕ) → IsCategoryScan info text r → chars_from text r.from ≡ xs ++ cs
    → length (encode_utf8_all xs) ≡ place - r.from → r.from ≤ place → place < r.to → chars_from text place ≡ cs → IsTrue (is_place text place)
    → IsCategoryScan info text (record { from = place; to = r.to; following = r.following - length xs; last = r.last; is_whole = r.is_whole })
rest_by info text r place xs [] is split width low less here there =
    let few = count_within info text r place xs [] is split width low less in
    let n = 1 + (r.following - length xs) in
    let all : 1 + r.following ≡ length xs + n = omega (arith, few) in
    let bytes = ap (bytes_of (1 + r.following)) split ∙ ap (λ (k : ℕ). bytes_of k (xs ++ [])) all ∙ bytes_through xs [] n in
    let none = bytes_within n [] in
    let ends = is.ends in
    absurd (omega (arith, bytes, none, ends, width, low, less))
rest_by info text r place xs (d ∷ ds) is split width low less here there =
    let few = count_within info text r place xs (d ∷ ds) is split width low less in
    let n = 1 + (r.following - length xs) in
    let all : 1 + r.following ≡ length xs + n = omega (arith, few) in
    let bytes = ap (bytes_of (1 + r.following)) split ∙ ap (λ (k : ℕ). bytes_of k (xs ++ d ∷ ds)) all ∙ bytes_through xs (d ∷ ds) n in
    let same = ap (bytes_of n) here in
    let ends = is.ends in
    record {
      begins = there;
      ends = omega (arith, ends, bytes, same, width, low);
      goes_on = ap (following_in_run info) here ∙ following_after info xs d ds r.following (run info r.last (chars_from text r.to)) (ap (following_in_run info) (sym split) ∙ is.goes_on) few;
      whole = is.whole;
    }

-- the characters before the position are subtracted
pub rest_of_run : (info : ℕ → CharInfo) (text : List ℕ) (r : CategoryScan) (place count : ℕ) → IsCategoryScan info text r → IsTrue (is_place text place) → r.from ≤ place → place < r.to
    → count ≡ count_between text r.from place
    → IsCategoryScan info text (record { from = place; to = r.to; following = r.following - count; last = r.last; is_whole = r.is_whole })
rest_of_run info text r place count is there low less counted =
    let parts = parted text r.from place is.begins there low in
    let rest = rest_by info text r place parts.before (chars_from text place) is parts.chars_are parts.bytes low less refl there in
    subst (λ (k : ℕ). IsCategoryScan info text (record { from = place; to = r.to; following = r.following - k; last = r.last; is_whole = r.is_whole })) (sym (counted ∙ sym (ap length parts.are))) rest

pub count_low : (info : ℕ → CharInfo) (text : List ℕ) (r : CategoryScan) (place count : ℕ) → IsCategoryScan info text r → IsTrue (is_place text place) → r.from ≤ place → place < r.to
    → count ≡ count_between text r.from place → count ≤ r.following
count_low info text r place count is there low less counted =
    let parts = parted text r.from place is.begins there low in
    let few = count_within info text r place parts.before (chars_from text place) is parts.chars_are parts.bytes low less in
    let same = ap length parts.are in
    omega (arith, few, counted, same)

-- ---- a part that is scanned further

-- a part ends at the start of a character or at the end of the text
pub end_there : (info : ℕ → CharInfo) (text : List ℕ) (r : CategoryScan) → IsCategoryScan info text r → IsTrue (is_place text r.to)
end_there info text r is =
    let m = 1 + r.following in
    let utf8 = text_there text r.from is.begins in
    let low = blanks_fit text (drop r.from text) r.from m (bytes_of m (chars_from text r.from)) is.begins refl refl in
    let at : drop (bytes_of m (chars_from text r.from)) (drop r.from text) ≡ drop r.to text = drop-drop _ r.from text ∙ ap (λ (k : ℕ). drop k text) (sym is.ends) in
    let ends = is.ends in
    place_there text r.to (omega (arith, ends, low)) (subst IsUtf8 at (text_after (drop r.from text) m utf8))

chars_at_end : (info : ℕ → CharInfo) (text : List ℕ) (r : CategoryScan) → IsCategoryScan info text r → chars_from text r.to ≡ drop (1 + r.following) (chars_from text r.from)
chars_at_end info text r is =
    let m = 1 + r.following in
    ap (λ (k : ℕ). chars_from text k) is.ends ∙ ap chars (sym (drop-drop _ r.from text)) ∙ chars_after (drop r.from text) m (text_there text r.from is.begins)

-- a part ends at the end of its first character or later
pub ends_after : (info : ℕ → CharInfo) (text : List ℕ) (growth_started r : CategoryScan) → IsCategoryScan info text growth_started → IsCategoryScan info text r → r.from ≡ growth_started.from → growth_started.following ≡ 0 → growth_started.to ≤ r.to
ends_after info text growth_started r first is from one =
    let cs = chars_from text growth_started.from in
    let same = ap (λ (k : ℕ). bytes_of (1 + r.following) (chars_from text k)) from in
    let few = ap (λ (k : ℕ). bytes_of (1 + k) cs) one in
    let join = bytes_join (1 + 0) r.following cs in
    let long : 1 + r.following ≡ (1 + 0) + r.following = omega arith in
    let all = ap (λ (k : ℕ). bytes_of k cs) long in
    let ends = is.ends in
    let started_ends = first.ends in
    omega (arith, ends, started_ends, same, few, join, all, from)

-- a part with more characters
pub further_run : (info : ℕ → CharInfo) (text rest : List ℕ) (r : CategoryScan) (left n bytes : ℕ) (last : CharInfo) (whole : Bool) → IsCategoryScan info text r → rest ≡ drop r.to text
    → n ≡ min left (run info r.last (chars rest)) → bytes ≡ bytes_of n (chars rest) → run info r.last (chars rest) ≡ n + run info last (drop n (chars rest)) → whole ≡ nat_lt n left
    → IsCategoryScan info text (record { from = r.from; to = r.to + bytes; following = r.following + n; last = last; is_whole = whole })
further_run info text rest r left n bytes last whole is at count width on whole_is =
    let there = end_there info text r is in
    let cs = chars_from text r.from in
    let here : chars rest ≡ chars_from text r.to = ap chars at in
    let w : bytes ≡ bytes_of n (chars_from text r.to) = width ∙ ap (bytes_of n) here in
    let join = bytes_join (1 + r.following) n cs in
    let same = ap (bytes_of n) (chars_at_end info text r is) in
    let long : 1 + (r.following + n) ≡ (1 + r.following) + n = omega arith in
    let all = ap (λ (k : ℕ). bytes_of k cs) long in
    let ends = is.ends in
    let suffix : drop n (chars rest) ≡ chars_from text (r.to + bytes) =
    ap (drop n) here ∙ sym (chars_after (drop r.to text) n (text_there text r.to there)) ∙ ap chars (drop-drop _ r.to text) ∙ ap (λ (k : ℕ). chars_from text (r.to + k)) (sym w) in
    let from_here : run info r.last (chars_from text r.to) ≡ n + run info last (chars_from text (r.to + bytes)) =
    ap (run info r.last) (sym here) ∙ on ∙ ap (λ (ds : List ℕ). n + run info last ds) suffix in
    let goes_on = is.goes_on in
    let counted : n ≡ min left (run info r.last (chars_from text r.to)) = count ∙ ap (λ (ds : List ℕ). min left (run info r.last ds)) here in
    record {
      begins = is.begins;
      ends = omega (arith, ends, w, join, same, all);
      goes_on = omega (arith, goes_on, from_here);
      whole = λ h. let less = ltb-true n left (sym whole_is ∙ h) in omega (arith, less, counted, from_here);
    }

-- ---- what a part implies

-- the bytes of the characters that follow, as far as the part was scanned
pub bytes_reported : (info : ℕ → CharInfo) (text rest : List ℕ) (r : CategoryScan) (start c n : ℕ) → IsCategoryScan info text r → r.from ≡ start → rest ≡ drop start text → IsFirst rest c n
    → r.to ≡ start + n + bytes_of r.following (chars (drop n rest))
bytes_reported info text rest r start c n is from at first =
    let split : chars_from text r.from ≡ c ∷ chars (drop n rest) = ap (λ (k : ℕ). chars_from text k) from ∙ ap chars (sym at) ∙ first.split in
    let width = ap (bytes_of (1 + r.following)) split ∙ bytes_after r.following c (chars (drop n rest)) in
    let ends = is.ends in
    let one = first.bytes in
    omega (arith, ends, from, width, one)

-- if fewer characters than the limit are counted, these are all
pub bytes_counted : (cs : List ℕ) (following limit characters bytes : ℕ) → characters ≡ min following limit → bytes ≡ bytes_of following cs → characters < limit → bytes ≡ bytes_of characters cs
bytes_counted cs following limit characters bytes count width less =
    let all : following ≡ characters = omega (arith, count, less) in
    width ∙ ap (λ (k : ℕ). bytes_of k cs) all
