-- The words at a position. Each has that position, has a character after its blanks, and ends at
-- the start of a character or at the end of the text. None is repeated.
use Rattle.std.proofs.Common.{◌≡◌, ℕ, ◌+◌, ◌<◌, ◌≤◌, Bool, true, false, cond, ◌&&◌, List, [], ◌++◌, length, drop, Contains, inl, inr, sym, ap, ◌∙◌, refl, arith, subst}
use Rattle.std.specs.Prelude.{nat_lt, nat_le, chars, IsUtf8, IsTrue}
use Rattle.std.specs.Str.{is_utf8}
use Rattle.std.specs.List.{AllByRecursion}
use Rattle.std.proofs.lemmas.Bool.{and_parts, and_from, ltb-true, le-leb}
use Rattle.std.proofs.lemmas.List.{drop-drop, length-drop}
use Rattle.std.proofs.lemmas.Str.{IsUtf8-from_is_utf8, is_utf8-from_IsUtf8, IsUtf8-drop, IsCharBoundary-from_take}
use Rattle.mj_model.specs.declared.word.Word.{Word}
use Rattle.mj_model.specs.declared.word.Origin.TheVariants.{Known, Unknown}
use Rattle.mj_model.specs.Tables.{Overlay, Lexeme, lexicons, HasText}
use Rattle.mj_model.specs.Run.{bytes_of}
use Rattle.mj_model.specs.Blanks.{skip, chars_from}
use Rattle.mj_model.specs.KnownWords.{known_words}
use Rattle.mj_model.specs.Words.{is_empty, unknown, is_place, words}
use Rattle.mj_model.specs.Lists.{IsMember, AreDistinct}
use Rattle.mj_model.specs.Laws.{HasWords, KeepsPlaces}
use Rattle.mj_model.proofs.Members.{in_from_Contains, in_append, holds_in, one_position, apart_append}
use Rattle.mj_model.proofs.CharBytes.{bytes_more, text_after, chars_within, text_after_blanks}
use Rattle.mj_model.proofs.KnownMembers.{IsKnownFrom, in_known_from, known_ends, known_origin, apart_known_from}
use Rattle.mj_model.proofs.UnknownMembers.{IsUnknown, in_unknown, apart_unknown}

-- z covers some bytes of a text from a start on, and valid UTF-8 follows them
record Spans (place start : ℕ) (text : List ℕ) (z : Word) : Type 0 where
  bytes : ℕ
  above : 0 < bytes
  low : bytes ≤ length text
  place_is : z.place ≡ place
  start_is : z.start ≡ start
  end_is : z.end ≡ start + bytes
  following : IsUtf8 (drop bytes text)

known_spans : (place start : ℕ) (text : List ℕ) (lexicons : List (List Lexeme)) (z : Word) → IsUtf8 text → AllByRecursion (AllByRecursion HasText) lexicons → IsKnownFrom place start text 0 lexicons z → Spans place start text z
known_spans place start text lexicons z u texts f =
    let k = f.is_known in
    let e = k.of_length in
    let surface : IsUtf8 e.entry.surface = holds_in HasText f.lexicon e.entry (holds_in (AllByRecursion HasText) lexicons f.lexicon texts f.among) e.listed in
    record {
      bytes = k.n;
      above = k.above;
      low = k.low;
      place_is = ap (λ (w : Word). w.place) e.is;
      start_is = ap (λ (w : Word). w.start) e.is;
      end_is = known_ends place start text f.dict f.lexicon z k;
      following = IsUtf8-drop text k.n u (IsCharBoundary-from_take text k.n u k.low (subst IsUtf8 e.spelled surface));
    }

unknown_spans : (place start : ℕ) (text : List ℕ) (z : Word) → IsUtf8 text → IsUnknown place start (chars text) z → Spans place start text z
unknown_spans place start text z u k = record {
  bytes = bytes_of k.n (chars text);
  above = (let b = bytes_more 0 k.n (chars text) k.above k.low in omega (arith, b));
  low = chars_within text k.n u;
  place_is = ap (λ (w : Word). w.place) k.is;
  start_is = ap (λ (w : Word). w.start) k.is;
  end_is = ap (λ (w : Word). w.end) k.is;
  following = text_after text k.n u;
}

-- ---- each word at a position

-- a position that may have words
record IsOpen (o : Overlay) (text : List ℕ) (p : ℕ) : Type 0 where
  begins : IsUtf8 (drop p text)
  below : skip o text p < length text

is_open : (o : Overlay) (text : List ℕ) (p : ℕ) → (is_place text p && nat_lt (skip o text p) (length text)) ≡ true → IsOpen o text p
is_open o text p e =
    let parts = and_parts (is_place text p) (nat_lt (skip o text p) (length text)) e in
    let place = and_parts (nat_le p (length text)) (is_utf8 (drop p text)) parts.0 in
    record { begins = IsUtf8-from_is_utf8 (drop p text) place.1; below = ltb-true (skip o text p) (length text) parts.1 }

-- a word at a position
pub record IsWordAt (o : Overlay) (text : List ℕ) (p : ℕ) (z : Word) : Type 0 where
  pub place_is : z.place ≡ p
  pub start_is : z.start ≡ skip o text p
  pub longer : z.start < z.end
  pub within : z.end ≤ length text
  pub ends : IsUtf8 (drop z.end text)

word_at : (o : Overlay) (text : List ℕ) (p : ℕ) (z : Word) → IsOpen o text p → Spans p (skip o text p) (drop (skip o text p) text) z → IsWordAt o text p z
word_at o text p z at_p s =
    let start = skip o text p in
    let rest = length-drop start text in
    let b = at_p.below in
    let a = s.above in
    let l = s.low in
    let at = s.start_is in
    let end = s.end_is in
    record {
      place_is = s.place_is;
      start_is = s.start_is;
      longer = omega (arith, a, at, end);
      within = omega (arith, l, rest, b, end);
      ends = subst IsUtf8 (drop-drop s.bytes start text ∙ ap (λ (n : ℕ). drop n text) (sym end)) s.following;
    }

in_words_by : (o : Overlay) (text : List ℕ) (p : ℕ) (b : Bool) → HasWords o → (is_place text p && nat_lt (skip o text p) (length text)) ≡ b → (z : Word)
    → IsMember (cond b (known_words o text p ++ unknown o (is_empty (known_words o text p)) p (skip o text p) (chars_from text (skip o text p))) []) z → IsWordAt o text p z
in_words_by o text p false has e z h = absurd h
in_words_by o text p true has e z h =
    let start = skip o text p in
    let at_p = is_open o text p e in
    let u = text_after_blanks o text p at_p.begins in
    elim (in_append (known_words o text p) (unknown o (is_empty (known_words o text p)) p start (chars_from text start)) z h) [
      | inl i ↦ word_at o text p z at_p (known_spans p start (drop start text) (lexicons o) z u has.surfaces (in_known_from p start (drop start text) 0 (lexicons o) z i))
      | inr j ↦ word_at o text p z at_p (unknown_spans p start (drop start text) z u (in_unknown o (is_empty (known_words o text p)) p start (chars_from text start) z j))
    ]

pub in_words : (o : Overlay) (text : List ℕ) (p : ℕ) (z : Word) → HasWords o → Contains (words o text p) z → IsWordAt o text p z
in_words o text p z has h = in_words_by o text p (is_place text p && nat_lt (skip o text p) (length text)) has refl z (in_from_Contains (words o text p) z h)

-- ---- none is repeated

known_not_unknown : (dict s t : ℕ) → Known dict s ≡ Unknown t → ⊥
known_not_unknown dict s t h = cc

apart_words_by : (o : Overlay) (text : List ℕ) (p : ℕ) (b : Bool) → HasWords o
    → AreDistinct (cond b (known_words o text p ++ unknown o (is_empty (known_words o text p)) p (skip o text p) (chars_from text (skip o text p))) [])
apart_words_by o text p false has = tt
apart_words_by o text p true has =
    let start = skip o text p in
    let cs = chars_from text start in
    apart_append (known_words o text p) (unknown o (is_empty (known_words o text p)) p start cs)
    (apart_known_from p start (drop start text) 0 (lexicons o) has.known_apart)
    (apart_unknown o (is_empty (known_words o text p)) p start cs has.unknown_apart)
    (λ z i j.
    let f = in_known_from p start (drop start text) 0 (lexicons o) z i in
    let k = in_unknown o (is_empty (known_words o text p)) p start cs z j in known_not_unknown f.dict f.is_known.of_length.entry.token.number k.entry.number
    (sym (known_origin p start (drop start text) f.dict f.lexicon z f.is_known) ∙ ap (λ (w : Word). w.origin) k.is))

apart_words : (o : Overlay) (text : List ℕ) (p : ℕ) → HasWords o → AreDistinct (words o text p)
apart_words o text p has = apart_words_by o text p (is_place text p && nat_lt (skip o text p) (length text)) has

-- ---- the words of a text

pub place_there : (text : List ℕ) (p : ℕ) → p ≤ length text → IsUtf8 (drop p text) → IsTrue (is_place text p)
place_there text p low u = and_from (nat_le p (length text)) (is_utf8 (drop p text)) (le-leb p (length text) low) (is_utf8-from_IsUtf8 (drop p text) u)

pub words_keep_places : (o : Overlay) (text : List ℕ) → HasWords o → KeepsPlaces o text
words_keep_places o text has = record {
  are = record {
    places = λ p w h. (in_words o text p w has h).place_is;
    go_on = λ p w h. let a = in_words o text p w has h in let s = a.start_is in let l = a.longer in omega (arith, s, l);
    within = λ p w h. (in_words o text p w has h).within;
    distinct = λ p i j w h k. one_position (words o text p) i j w (apart_words o text p has) h k;
  };
  ends = λ p w h. let a = in_words o text p w has h in place_there text w.end a.within a.ends;
}
