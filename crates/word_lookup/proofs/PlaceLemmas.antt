-- Positions of a text, and the blanks there.
use Rattle.std.proofs.Common.{◌≡◌, ℕ, ◌+◌, ◌-◌, ◌<◌, ◌≤◌, Bool, true, cond, ◌&&◌, List, [], ◌∷◌, ◌++◌, length, take, drop, get_or, sym, ap, ◌∙◌, refl, arith, subst}
use Rattle.std.specs.Prelude.{IsTrue, IsUtf8, chars, encode_utf8, encode_utf8_all, min, nat_le, nat_lt}
use Rattle.std.specs.Char.{len_utf8}
use Rattle.std.specs.Str.{IsCharBoundary, is_utf8}
use Rattle.std.proofs.lemmas.Bool.{and_parts, and_from, and_right, leb-true, lt-ltb, le-ltb}
use Rattle.std.proofs.lemmas.List.{nil_from_length, get_or-drop, length-drop, length-append, length-take, drop-drop, drop_at, take-append-drop}
use Rattle.std.proofs.lemmas.Str.{IsCharBoundary-start, IsCharBoundary-from_drop, IsUtf8-take, chars-append, IsUtf8-from_is_utf8, length-le-encodes, length-encode, encodes-chars, chars_past_char}
use Rattle.mj_model.specs.declared.category.CharInfo.{CharInfo}
use Rattle.mj_model.specs.Blanks.{skip, space, chars_from}
use Rattle.mj_model.specs.KnownWords.{known_words}
use Rattle.mj_model.specs.Run.{run, bytes_of}
use Rattle.mj_model.specs.Tables.{Overlay, Token}
use Rattle.mj_model.specs.UnknownSpans.{spans}
use Rattle.mj_model.specs.Words.{is_place, is_empty, unknown, words}
use Rattle.mj_model.proofs.CharBytes.{run_within, chars_within, text_after, text_after_blanks}
use Rattle.mj_model.proofs.PlaceWords.{place_there}
use Rattle.word_lookup.specs.CategoryScans.{IsFirst}
use Rattle.word_lookup.specs.UnknownEntries.{words_of_spans}

pub place_within : (text : List ℕ) (p : ℕ) → IsTrue (is_place text p) → p ≤ length text
place_within text p h = leb-true p (length text) (and_parts (nat_le p (length text)) (is_utf8 (drop p text)) h).0

pub text_there : (text : List ℕ) (p : ℕ) → IsTrue (is_place text p) → IsUtf8 (drop p text)
text_there text p h = IsUtf8-from_is_utf8 (drop p text) (and_parts (nat_le p (length text)) (is_utf8 (drop p text)) h).1

pub boundary : (text : List ℕ) (p : ℕ) → IsTrue (is_place text p) → IsCharBoundary text p
boundary text p h =
    let low = place_within text p h in
    let start = IsCharBoundary-start (drop p text) (text_there text p h) in
    let at = get_or-drop p text 0 0 in
    let same : p + 0 ≡ p = omega arith in
    let here : get_or (drop p text) 0 0 ≡ get_or text p 0 = at ∙ ap (λ (k : ℕ). get_or text k 0) same in
    let long = length-drop p text in
    (low, λ less above. let r = start.1 (omega (arith, long, less)) (omega (arith, here, above)) in omega (arith, r, here))

-- ---- the characters around a position

-- a text from one position on is the characters up to another position, which take the bytes
-- between, and those from there on
pub record IsParted (text : List ℕ) (from place : ℕ) : Type 0 where
  pub before : List ℕ
  pub are : before ≡ chars (take (place - from) (drop from text))
  pub chars_are : chars (drop from text) ≡ before ++ chars (drop place text)
  pub bytes : length (encode_utf8_all before) ≡ place - from

pub parted : (text : List ℕ) (from place : ℕ) → IsTrue (is_place text from) → IsTrue (is_place text place) → from ≤ place → IsParted text from place
parted text from place first second low =
    let rest = drop from text in
    let n = place - from in
    let utf8 = text_there text from first in
    let within = place_within text place second in
    let long = length-drop from text in
    let at : from + n ≡ place = omega (arith, low) in
    let suffix : drop n rest ≡ drop place text = drop-drop n from text ∙ ap (λ (k : ℕ). drop k text) at in
    let boundary = IsCharBoundary-from_drop rest n (omega (arith, within, long)) (subst IsUtf8 (sym suffix) (text_there text place second)) in
    let front = IsUtf8-take rest n utf8 boundary in
    let count = length-take n rest in
    let spelled = ap length (encodes-chars (take n rest) front) in
    record {
      before = chars (take n rest);
      are = refl;
      chars_are = ap chars (sym (take-append-drop n rest)) ∙ chars-append (take n rest) (drop n rest) front ∙ ap (λ (bytes : List ℕ). chars (take n rest) ++ chars bytes) suffix;
      bytes = omega (arith, spelled, count, within, long, low);
    }

-- ---- blanks

pub blanks_fit : (text rest : List ℕ) (p n bytes : ℕ) → IsTrue (is_place text p) → rest ≡ drop p text → bytes ≡ bytes_of n (chars rest) → p + bytes ≤ length text
blanks_fit text rest p n bytes h e b =
    let low = place_within text p h in
    let w = chars_within (drop p text) n (text_there text p h) in
    let same = ap (λ (t : List ℕ). bytes_of n (chars t)) e in
    let long = length-drop p text in
    omega (arith, low, w, same, long, b)

pub blanks_are : (o : Overlay) (text rest : List ℕ) (p : ℕ) (entry : CharInfo) (n bytes : ℕ) → IsTrue (is_place text p) → rest ≡ drop p text → entry ≡ o.system.info space
    → n ≡ min (length rest) (run o.system.info entry (chars rest)) → bytes ≡ bytes_of n (chars rest) → p + bytes ≡ skip o text p
blanks_are o text rest p entry n bytes h e s is b =
    let info = o.system.info in
    let u = text_there text p h in
    let cs = chars (drop p text) in
    let r = run info (info space) cs in
    let few = run_within info (info space) cs in
    let short = length-le-encodes cs in
    let spelled = ap length (encodes-chars (drop p text) u) in
    let runs : run info entry (chars rest) ≡ r = ap (λ (i : CharInfo). run info i (chars rest)) s ∙ ap (λ (t : List ℕ). run info (info space) (chars t)) e in
    let long = ap length e in
    let whole : n ≡ r = omega (arith, is, runs, few, short, spelled, long) in
    ap (λ (k : ℕ). p + k) (b ∙ ap (λ (k : ℕ). bytes_of k (chars rest)) whole ∙ ap (λ (t : List ℕ). bytes_of r (chars t)) e)

-- what follows the blanks of a position
pub place_after_blanks : (o : Overlay) (text : List ℕ) (p start : ℕ) → IsTrue (is_place text p) → start ≡ skip o text p → start ≤ length text → IsTrue (is_place text start)
place_after_blanks o text p start h e low =
    place_there text start low (subst (λ (k : ℕ). IsUtf8 (drop k text)) (sym e) (text_after_blanks o text p (text_there text p h)))

-- ---- the words

pub no_words : (o : Overlay) (text : List ℕ) (p start : ℕ) → start ≡ skip o text p → length text ≤ start → words o text p ≡ []
no_words o text p start at all =
    ap (λ (b : Bool). cond b (known_words o text p ++ unknown o (is_empty (known_words o text p)) p (skip o text p) (chars_from text (skip o text p))) [])
    (and_right (is_place text p) (nat_lt (skip o text p) (length text)) (le-ltb (skip o text p) (length text) (omega (arith, at, all))))

pub words_are : (o : Overlay) (text : List ℕ) (p start : ℕ) → IsTrue (is_place text p) → start ≡ skip o text p → start < length text
    → words o text p ≡ known_words o text p ++ unknown o (is_empty (known_words o text p)) p start (chars_from text start)
words_are o text p start place at less =
    let here : (is_place text p && nat_lt (skip o text p) (length text)) ≡ true = and_from (is_place text p) (nat_lt (skip o text p) (length text)) place (lt-ltb (skip o text p) (length text) (omega (arith, at, less))) in
    ap (λ (b : Bool). cond b (known_words o text p ++ unknown o (is_empty (known_words o text p)) p (skip o text p) (chars_from text (skip o text p))) []) here
    ∙ ap (λ (k : ℕ). known_words o text p ++ unknown o (is_empty (known_words o text p)) p k (chars_from text k)) (sym at)

-- blanks end in the text
pub skip_within : (o : Overlay) (text : List ℕ) (p : ℕ) → IsTrue (is_place text p) → skip o text p ≤ length text
skip_within o text p h = blanks_fit text (drop p text) p (run o.system.info (o.system.info space) (chars (drop p text))) _ h refl refl

-- ---- the first character

pub first_taken : (text bytes rest : List ℕ) (c n : ℕ) → IsUtf8 text → bytes ≡ text → bytes ≡ encode_utf8 c ++ rest → n ≡ len_utf8 c → IsFirst text c n
first_taken text bytes rest c n u e h is =
    let spelled : text ≡ encode_utf8 c ++ rest = sym e ∙ h in
    let split = chars_past_char text rest c u spelled in
    let one = length-encode c in
    let suffix : drop n text ≡ rest = ap (drop n) spelled ∙ drop_at (encode_utf8 c) rest n (omega (arith, one, is)) in
    let long = ap length spelled in
    let both = length-append (encode_utf8 c) rest in
    let low : n ≤ length text = omega (arith, long, both, one, is) in
    let bytes_are : bytes_of 1 (chars text) ≡ n =
    ap (bytes_of 1) split ∙ length-append (encode_utf8 c) [] ∙ omega (arith, one, is) in
    record {
      place = place_there text n low (subst (λ (k : ℕ). IsUtf8 (drop k text)) bytes_are (text_after text 1 u));
      split = split ∙ ap (λ (xs : List ℕ). c ∷ chars xs) (sym suffix);
      long = (let d = length-drop n text in omega (arith, d, low));
      bytes = is;
    }

pub unknown_are : (o : Overlay) (none_known : Bool) (place start c i : ℕ) (all following : List ℕ) (ts : List Token) (ns : List ℕ) → all ≡ c ∷ following
    → i ≡ (o.system.info c).head → ts ≡ o.system.unknown i → ns ≡ spans o none_known c following
    → words_of_spans place start all ts ns ≡ unknown o none_known place start all
unknown_are o none_known place start c i all following ts ns e at t s =
    ap (λ (xs : List ℕ). words_of_spans place start xs ts ns) e
    ∙ ap (λ (entries : List Token). words_of_spans place start (c ∷ following) entries ns) (t ∙ ap o.system.unknown at)
    ∙ ap (λ (lengths : List ℕ). words_of_spans place start (c ∷ following) (o.system.unknown (o.system.info c).head) lengths) s
    ∙ ap (λ (xs : List ℕ). unknown o none_known place start xs) (sym e)

-- an empty text has no characters
pub no_chars : (text rest : List ℕ) → IsUtf8 text → rest ≡ text → length rest ≡ 0 → chars text ≡ []
no_chars text rest u same none =
    let short = length-le-encodes (chars text) in
    let spelled = ap length (encodes-chars text u) in
    let e = ap length same in
    nil_from_length (chars text) (omega (arith, short, spelled, e, none))

-- if no characters are left, the text ends
pub ends_there : (text : List ℕ) (p : ℕ) → IsTrue (is_place text p) → chars_from text p ≡ [] → length text ≤ p
ends_there text p h none =
    let spelled = ap length (encodes-chars (drop p text) (text_there text p h)) in
    let empty = ap (λ (cs : List ℕ). length (encode_utf8_all cs)) none in
    let long = length-drop p text in
    omega (arith, spelled, empty, long)
