-- Surfaces that are appended one after another: their words are what was to be appended so far.
use Rattle.std.proofs.Common.{◌≡◌, ℕ, zero, suc, ◌+◌, ◌<◌, Bool, true, false, List, [], ◌∷◌, ◌++◌, length, Some, slice_get, get_or, pos, take, drop, map, flat_map, sym, ap, ◌∙◌, refl, arith, subst}
use Rattle.std.specs.Prelude.{◌==◌, chars}
use Rattle.std.specs.List.{AllByRecursion, range_with_len}
use Rattle.std.proofs.lemmas.Bool.{eq-eqb, ne_eqb}
use Rattle.std.proofs.lemmas.List.{append-nil, append_assoc, drop_more, length-append, length-map, take_at}
use Rattle.std.proofs.lemmas.List.Concat.{flat_map-append}
use Rattle.std.proofs.lemmas.List.FromFn.{length-range_with_len}
use Rattle.std.proofs.lemmas.Option.{get_or_from_slice_get, same_Some}
use Rattle.mj_model.specs.declared.word.Word.{Word}
use Rattle.mj_model.specs.Tables.{Overlay, Token}
use Rattle.mj_model.proofs.Basics.{all_append}
use Rattle.mj_model.specs.Words.{is_empty, unknown}
use Rattle.mj_model.specs.declared.paths.entry_list.EntryList.{EntryList}
use Rattle.mj_model.specs.declared.paths.surface.Surface.{Surface}
use Rattle.word_lookup.specs.declared.word_start.WordStart.{WordStart}
use Rattle.dict_image.specs.declared.entry_range.EntryRange.{EntryRange}
use Rattle.word_lookup.specs.EntryWords.{entry_word}
use Rattle.mj_model.specs.Surfaces.{AreSurfacesOf, IsWhole, IsWordOf, HasSameSpan}
use Rattle.word_lookup.specs.Surfaces.{GrowsByWords, surface_words, tokens_of}
use Rattle.word_lookup.specs.SurfacesHere.{surface_here}
use Rattle.word_lookup.proofs.AppendLemmas.{prefix_kept}
use Rattle.word_lookup.proofs.RowLemmas.{LiesAtNumber, row_is, row_within}

pub none_grown : (o : Overlay) (xs : List Surface) → GrowsByWords o [] xs xs
none_grown o xs = ([], record { joined = refl; whole = tt }, sym (append-nil xs))

pub both_grown : (o : Overlay) (a b c : List Surface) (these those : List Word) → GrowsByWords o these a b → GrowsByWords o those b c → GrowsByWords o (these ++ those) a c
both_grown o a b c these those first second =
    let f = surface_words o in (
      first.0 ++ second.0,
      record {
        joined = flat_map-append f first.0 second.0 ∙ ap (λ (ws : List Word). ws ++ flat_map f second.0) first.1.joined ∙ ap (λ (ws : List Word). these ++ ws) second.1.joined;
        whole = all_append (IsWhole f) first.0 second.0 first.1.whole second.1.whole;
      },
      second.2 ∙ ap (λ (xs : List Surface). xs ++ second.0) first.2 ∙ append_assoc a first.0 second.0,
    )

-- `now` is `before` and then surfaces of those words of `all` that are not left
pub record HaveGrown (o : Overlay) (before now : List Surface) (all left : List Word) : Type 0 where
  pub done : List Word
  pub grown : GrowsByWords o done before now
  pub whole : done ++ left ≡ all

pub growth_started : (o : Overlay) (before : List Surface) (all left : List Word) → left ≡ all → HaveGrown o before before all left
growth_started o before all left e = record { done = []; grown = none_grown o before; whole = e }

pub more_grown : (o : Overlay) (before now after : List Surface) (all left these rest : List Word) → HaveGrown o before now all left → left ≡ these ++ rest → GrowsByWords o these now after → HaveGrown o before after all rest
more_grown o before now after all left these rest have e more = record {
  done = have.done ++ these;
  grown = both_grown o before now after have.done these have.grown more;
  whole = append_assoc have.done these rest ∙ ap (λ (ws : List Word). have.done ++ ws) (sym e) ∙ have.whole;
}

pub all_grown : (o : Overlay) (before now : List Surface) (all left : List Word) → HaveGrown o before now all left → left ≡ [] → GrowsByWords o all before now
all_grown o before now all left have e =
    subst (λ (ws : List Word). GrowsByWords o ws before now) (sym (append-nil have.done) ∙ ap (λ (ws : List Word). have.done ++ ws) (sym e) ∙ have.whole) have.grown

-- earlier elements stay in place
pub grown_kept : (o : Overlay) (n m : ℕ) (before now after : List Surface) (words : List Word) → GrowsByWords o words before now → n ≡ length before → take m after ≡ now → take n after ≡ before
grown_kept o n m before now after words more is kept = prefix_kept n m before more.0 after is (kept ∙ more.2)

pub have_kept : (o : Overlay) (n m : ℕ) (before now after : List Surface) (all left : List Word) → HaveGrown o before now all left → n ≡ length before → take m after ≡ now → take n after ≡ before
have_kept o n m before now after all left have is kept = grown_kept o n m before now after have.done have.grown is kept

-- ---- one surface

abbrev no_token : Token
no_token = record { number = 0; left = 0; right = 0; cost = pos 0; feature = [] }

token_of_word : (f : Token → Word) (ts : List Token) (i : ℕ) (w : Word) → slice_get (map f ts) i ≡ Some w → (t : Token) × (slice_get ts i ≡ Some t) × (f t ≡ w)
token_of_word f [] i w at = absurd (cc)
token_of_word f (t ∷ ts) zero w at = (t, refl, same_Some (f t) w at)
token_of_word f (t ∷ ts) (suc i) w at = token_of_word f ts i w at

taken_at : (ts : List Token) (n i : ℕ) (t : Token) → slice_get (take n ts) i ≡ Some t → slice_get ts i ≡ Some t
taken_at ts zero i t at = absurd (cc)
taken_at [] (suc n) i t at = absurd (cc)
taken_at (u ∷ ts) (suc n) zero t at = at
taken_at (u ∷ ts) (suc n) (suc i) t at = taken_at ts n i t at

dropped_at : (ts : List Token) (n i k : ℕ) (t : Token) → k ≡ n + i → slice_get (drop n ts) i ≡ Some t → slice_get ts k ≡ Some t
dropped_at ts zero i k t is at = ap (slice_get ts) (omega (arith, is)) ∙ at
dropped_at [] (suc n) i k t is at = absurd (cc)
dropped_at (u ∷ ts) (suc n) i zero t is at = absurd (omega (arith, is))
dropped_at (u ∷ ts) (suc n) i (suc k) t is at = dropped_at ts n i k t (omega (arith, is)) at

token_at : (ts : List Token) (first count i : ℕ) (t : Token) → slice_get (take count (drop first ts)) i ≡ Some t → slice_get ts (first + i) ≡ Some t
token_at ts first count i t at = dropped_at ts first i (first + i) t refl (taken_at (drop first ts) count i t at)

all_appear : (s : Surface) (es : List Token) → AllByRecursion (HasSameSpan s) (map (entry_word s.list s.place s.start s.end) es)
all_appear s [] = tt
all_appear s (e ∷ es) = (record { place = refl; start = refl; end = refl }, all_appear s es)

pub one_surface : (o : Overlay) (s : Surface) (es : List Token) (before : List Surface) (words : List Word) → map (λ (t : Token). t.number) es ≡ range_with_len s.first s.count
    → AllByRecursion (LiesAtNumber (tokens_of o s.list)) es → 0 < length es → map (entry_word s.list s.place s.start s.end) es ≡ words → GrowsByWords o words before (before ++ s ∷ [])
one_surface o s es before words numbers appear some are =
    let f = entry_word s.list s.place s.start s.end in
    let same : surface_words o s ≡ map f es = ap (map f) (row_is (tokens_of o s.list) es s.first s.count numbers appear) in
    let long = ap length numbers in
    let a = length-map es (λ (t : Token). t.number) in
    let b = length-range_with_len s.first s.count in
    let c = length-map es f in
    let d = ap length same in
    let whole : IsWhole (surface_words o) s =
    record { count_is = omega (arith, long, a, b, c, d); some = omega (arith, long, a, b, some); same_spans = subst (AllByRecursion (HasSameSpan s)) (sym same) (all_appear s es) } in
    (s ∷ [], record { joined = append-nil (surface_words o s) ∙ same ∙ are; whole = (whole, tt) }, refl)

-- the word of one entry of a surface is a surface of its own
pub one_word : (o : Overlay) (s one : Surface) (i : ℕ) → one ≡ record s { first = s.first + i; count = 1 } → IsWhole (surface_words o) s → i < s.count → IsWordOf (surface_words o) s i one
one_word o s one i is whole less =
    let f = entry_word s.list s.place s.start s.end in
    let ts = tokens_of o s.list in
    let within = row_within ts f s.first s.count whole.count_is whole.some in
    let low : s.first + i < length ts = omega (arith, within, less) in
    let t = get_or ts (s.first + i) (no_token) in
    let rest = drop_more ts (s.first + i) t low in
    let single : take 1 (drop (s.first + i) ts) ≡ get_or ts (s.first + i) t ∷ [] = ap (take 1) rest in
    subst (IsWordOf (surface_words o) s i) (sym is) (record {
      whole = record {
        count_is = ap (λ (us : List Token). length (map f us)) single;
        some = omega arith;
        same_spans = all_appear (record s { first = s.first + i; count = 1 }) (take 1 (drop (s.first + i) ts));
      };
      word = λ w at.
          let m = token_of_word f (take s.count (drop s.first ts)) i w at in
          let there : slice_get ts (s.first + i) ≡ Some m.0 = token_at ts s.first s.count i m.0 m.1 in
          ap (map f) (single ∙ ap (λ (u : Token). u ∷ []) (get_or_from_slice_get ts (s.first + i) m.0 t there)) ∙ ap (λ (v : Word). v ∷ []) m.2;
    })

-- the surface of a row that was appended
pub surface_appended : (o : Overlay) (at : WordStart) (list : EntryList) (row : EntryRange) (end : ℕ) (s : Surface) (es : List Token) (before after : List Surface) (words : List Word) → s ≡ surface_here at list row end → after ≡ before ++ s ∷ []
    → map (λ (t : Token). t.number) es ≡ range_with_len row.first row.count → AllByRecursion (LiesAtNumber (tokens_of o list)) es → 0 < length es → map (entry_word list at.place at.start end) es ≡ words → GrowsByWords o words before after
surface_appended o at list row end s es before after words is now numbers appear some are =
    subst (GrowsByWords o words before) (sym (now ∙ ap (λ (t : Surface). before ++ t ∷ []) is)) (one_surface o (surface_here at list row end) es before words numbers appear some are)

-- ---- earlier elements

pub have_prefix : (o : Overlay) (n : ℕ) (before now after : List Surface) (all left : List Word) → HaveGrown o before now all left → n ≡ length before → after ≡ now → take n after ≡ before
have_prefix o n before now after all left have is same = ap (take n) (same ∙ have.grown.2) ∙ take_at before have.grown.0 n (sym is)

pub grown_prefix : (o : Overlay) (n : ℕ) (before now after : List Surface) (words : List Word) → GrowsByWords o words before now → n ≡ length before → after ≡ now → take n after ≡ before
grown_prefix o n before now after words grown is same = ap (take n) (same ∙ grown.2) ∙ take_at before grown.0 n (sym is)

-- ---- known, then unknown

no_words_of : (ks : List Word) → ks ≡ [] → is_empty ks ≡ true
no_words_of ks e = ap is_empty e

some_words_of : (ks : List Word) → 0 < length ks → is_empty ks ≡ false
some_words_of [] some = absurd (omega (arith, some))
some_words_of (w ∷ ks) some = refl

is_none_by : (o : Overlay) (ks : List Word) (old mid more : List Surface) → AreSurfacesOf (surface_words o) ks more → mid ≡ old ++ more → (length mid == length old) ≡ is_empty ks
is_none_by o ks old mid [] are at =
    let long = ap length at in
    let e = length-append old [] in
    eq-eqb (length mid) (length old) (omega (arith, long, e)) ∙ sym (no_words_of ks (sym are.joined))
is_none_by o ks old mid (s ∷ ss) are at =
    let long = ap length at in
    let e = length-append old (s ∷ ss) in
    let words = ap length are.joined in
    let both = length-append (surface_words o s) (flat_map (surface_words o) ss) in
    let count = are.whole.0.count_is in
    let some = are.whole.0.some in
    ne_eqb (length mid) (length old) (λ h. omega (arith, long, e, h)) ∙ sym (some_words_of ks (omega (arith, words, both, count, some)))

pub is_none : (o : Overlay) (ks : List Word) (old mid : List Surface) → GrowsByWords o ks old mid → (length mid == length old) ≡ is_empty ks
is_none o ks old mid grown = is_none_by o ks old mid grown.0 grown.1 grown.2

-- surfaces that were appended to an empty list
pub from_none : (o : Overlay) (words : List Word) (old new : List Surface) → old ≡ [] → GrowsByWords o words old new → AreSurfacesOf (surface_words o) words new
from_none o words old new e grown = subst (AreSurfacesOf (surface_words o) words) (sym (grown.2 ∙ ap (λ (xs : List Surface). xs ++ grown.0) e)) grown.1

-- surfaces without words are none
pub none_of : (o : Overlay) (words : List Word) (surfaces : List Surface) → AreSurfacesOf (surface_words o) words surfaces → words ≡ [] → surfaces ≡ []
none_of o words [] are none = refl
none_of o words (s ∷ ss) are none =
    let words = ap length (are.joined ∙ none) in
    let both = length-append (surface_words o s) (flat_map (surface_words o) ss) in
    let count = are.whole.0.count_is in
    let some = are.whole.0.some in
    absurd (omega (arith, words, both, count, some))

pub known_then_unknown : (o : Overlay) (place start : ℕ) (rest cs : List ℕ) (k ks : List Word) (old mid new : List Surface) (n count : ℕ) → k ≡ ks → GrowsByWords o ks old mid → n ≡ length mid → count ≡ length old → chars rest ≡ cs
    → GrowsByWords o (unknown o (n == count) place start (chars rest)) mid new → GrowsByWords o (k ++ unknown o (is_empty k) place start cs) old new
known_then_unknown o place start rest cs k ks old mid new n count e known long first is more =
    let none : (n == count) ≡ is_empty k =
    ap (λ (m : ℕ). m == count) long ∙ ap (λ (m : ℕ). length mid == m) first ∙ is_none o ks old mid known ∙ ap is_empty (sym e) in
    let same : unknown o (n == count) place start (chars rest) ≡ unknown o (is_empty k) place start cs =
    ap (λ (b : Bool). unknown o b place start (chars rest)) none ∙ ap (λ (xs : List ℕ). unknown o (is_empty k) place start xs) is in
    both_grown o old mid new k (unknown o (is_empty k) place start cs) (subst (λ (ws : List Word). GrowsByWords o ws old mid) (sym e) known) (subst (λ (ws : List Word). GrowsByWords o ws mid new) same more)
