-- Paths over the words of a text: only blanks remain after a path, and its words with their blanks
-- join to the text.
use Rattle.std.proofs.Common.{◌≡◌, ℕ, ◌+◌, ◌-◌, ◌<◌, ◌≤◌, Bool, true, false, cond, ◌&&◌, ◌||◌, List, [], ◌∷◌, ◌++◌, length, take, drop, map, flat_map, get_or, Contains, inl, inr, refl, sym, ap, ◌∙◌, arith, subst}
use Rattle.std.specs.Prelude.{pos, nat_lt, ◌==◌, IsUtf8}
use Rattle.std.proofs.Math.Utf8.{scalar, scalars}
use Rattle.std.proofs.lemmas.Bool.{cases_lt, and_from, and_parts, lt-ltb}
use Rattle.std.proofs.lemmas.List.{drop-drop, drop-take, take-take, take-append-drop, length-append, length-drop, length-map}
use Rattle.std.proofs.lemmas.List.Elements.{Contains-get_or}
use Rattle.std.proofs.lemmas.Str.{scalars-chars}
use Rattle.mj_model.specs.declared.word.Word.{Word}
use Rattle.mj_model.specs.declared.word.Origin.TheVariants.{Unknown}
use Rattle.mj_model.specs.CharDef.{code_point_max}
use Rattle.mj_model.specs.Tables.{Overlay, category_at}
use Rattle.mj_model.specs.Run.{run, bytes_of, sharing_with_first}
use Rattle.mj_model.specs.Blanks.{skip, space, chars_from}
use Rattle.mj_model.specs.KnownWords.{known_words}
use Rattle.mj_model.specs.UnknownSpans.{grouped_span, length_spans, one_if_none, spans}
use Rattle.mj_model.specs.Words.{is_empty, unknown_word, unknown, is_place, words}
use Rattle.mj_model.specs.Paths.{IsChain, IsPath}
use Rattle.mj_model.specs.Laws.{HasWords, CoversAll, between, joined_words}
use Rattle.mj_model.proofs.CharBytes.{chars_within, chars_there, is_code_point, text_after_blanks}
use Rattle.mj_model.proofs.PlaceWords.{in_words, place_there}

-- ---- there is a word if something other than blanks follows

one_or : (b : Bool) (x : ℕ) (xs : List ℕ) → 0 < length (cond b (1 ∷ []) (x ∷ xs))
one_or true x xs = omega arith
one_or false x xs = omega arith

one_or_more : (xs : List ℕ) → 0 < length (one_if_none true xs)
one_or_more [] = omega arith
one_or_more (x ∷ xs) = one_or (length (x ∷ xs) == 0) x xs

if_or_true : (b : Bool) (xs : List ℕ) → 0 < length xs → 0 < length (cond (b || true) xs [])
if_or_true true xs h = h
if_or_true false xs h = h

spans_there : (o : Overlay) (c : ℕ) (cs : List ℕ) → 0 < length (spans o true c cs)
spans_there o c cs =
    let info = o.system.info in
    let category = category_at o (info c).head in
    let whole = 1 + run info (info c) cs in
    let spans_made = grouped_span category o.grouping whole ++ length_spans category whole (sharing_with_first info c cs) in if_or_true category.invoke (one_if_none true spans_made) (one_or_more spans_made)

unknown_for : (o : Overlay) (place start c : ℕ) (cs ns : List ℕ) → CoversAll o → c ≤ code_point_max → 0 < length ns
    → 0 < length (flat_map (λ n. map (unknown_word place start (bytes_of n (c ∷ cs))) (o.system.unknown (o.system.info c).head)) ns)
unknown_for o place start c cs [] covers code there = absurd (omega arith)
unknown_for o place start c cs (n ∷ ns) covers code there =
    let entries = o.system.unknown (o.system.info c).head in
    let f = λ (m : ℕ). map (unknown_word place start (bytes_of m (c ∷ cs))) entries in
    let a = length-append (f n) (flat_map f ns) in
    let b = length-map entries (unknown_word place start (bytes_of n (c ∷ cs))) in
    let s = covers c code in
    omega (arith, a, b, s)

unknown_there : (o : Overlay) (place start : ℕ) (cs : List ℕ) → CoversAll o → scalars cs ≡ true → 0 < length cs → 0 < length (unknown o true place start cs)
unknown_there o place start [] covers all there = absurd (omega arith)
unknown_there o place start (c ∷ cs) covers all there = unknown_for o place start c cs (spans o true c cs) covers (is_code_point c (and_parts (scalar c) (scalars cs) all).0) (spans_there o c cs)

some_there : (o : Overlay) (ks : List Word) (place start : ℕ) (cs : List ℕ) → CoversAll o → scalars cs ≡ true → 0 < length cs → 0 < length (ks ++ unknown o (is_empty ks) place start cs)
some_there o [] place start cs covers all there = unknown_there o place start cs covers all there
some_there o (k ∷ ks) place start cs covers all there = omega arith

pub words_there : (o : Overlay) (text : List ℕ) (p : ℕ) → CoversAll o → p ≤ length text → IsUtf8 (drop p text) → skip o text p < length text → 0 < length (words o text p)
words_there o text p covers low u less =
    let start = skip o text p in
    let rest = length-drop start text in
    let following = text_after_blanks o text p u in
    let there = chars_there (drop start text) following (omega (arith, rest, less)) in
    let is : (is_place text p && nat_lt start (length text)) ≡ true = and_from (is_place text p) (nat_lt start (length text)) (place_there text p low u) (lt-ltb start (length text) less) in
    subst (λ (b : Bool). 0 < length (cond b (known_words o text p ++ unknown o (is_empty (known_words o text p)) p start (chars_from text start)) [])) (sym is)
    (some_there o (known_words o text p) p start (chars_from text start) covers (scalars-chars (drop start text) following) there)

-- ---- only blanks remain

chain_more : (words : ℕ → List Word) (ws : List Word) (p to : ℕ) (w : Word) → IsChain words p ws to → Contains (words to) w → IsChain words p (ws ++ w ∷ []) w.end
chain_more words [] p to w h i = (subst (λ (q : ℕ). Contains (words q) w) (sym h) i, refl)
chain_more words (v ∷ vs) p to w h i = (h.0, chain_more words vs v.end to w h.1 i)

-- a chain leads from a position to a position
chain_places : (o : Overlay) (text : List ℕ) → HasWords o → (ws : List Word) (p to : ℕ) → p ≤ length text → IsUtf8 (drop p text) → IsChain (words o text) p ws to → (to ≤ length text) × IsUtf8 (drop to text)
chain_places o text has [] p to low u h = (omega (arith, low, h), subst (λ (n : ℕ). IsUtf8 (drop n text)) h u)
chain_places o text has (w ∷ ws) p to low u h =
    let a = in_words o text p w has h.0 in
    chain_places o text has ws w.end to a.within a.ends h.1

blanks_within : (o : Overlay) (text : List ℕ) (p : ℕ) → p ≤ length text → IsUtf8 (drop p text) → skip o text p ≤ length text
blanks_within o text p low u =
    let n = chars_within (drop p text) (run o.system.info (o.system.info space) (chars_from text p)) u in
    let rest = length-drop p text in
    omega (arith, n, rest, low)

no_word : Word
no_word = record { place = 0; start = 0; end = 0; left = 0; right = 0; cost = pos 0; origin = Unknown 0 }

pub only_blanks_remain : (o : Overlay) (text : List ℕ) → HasWords o → CoversAll o → IsUtf8 text → (path : List Word) (to : ℕ) → IsPath (words o text) path to → skip o text to ≡ length text
only_blanks_remain o text has covers u path to is =
    let at = chain_places o text has path 0 to (omega arith) u is.chain in
    let blanks = blanks_within o text to at.0 at.1 in
    elim (cases_lt (skip o text to) (length text)) [
      | inl less ↦
          let there = words_there o text to covers at.0 at.1 less in
          let w = get_or (words o text to) 0 no_word in
          let i = Contains-get_or (words o text to) 0 no_word there in
          let later = is.longest (path ++ w ∷ []) w.end (chain_more (words o text) path 0 to w is.chain i) in
          let a = in_words o text to w has i in
          let begins = a.start_is in
          let longer = a.longer in
          absurd (omega (arith, later, begins, longer))
      | inr all ↦ omega (arith, all, blanks)
    ]

-- ---- the words join to the text

between_joined : (text : List ℕ) (p q r : ℕ) → p ≤ q → q ≤ r → between text p q ++ between text q r ≡ between text p r
between_joined text p q r first second =
    let xs = drop p text in
    let n = q - p in
    let m = r - q in
    let all : n + m ≡ r - p = omega arith in
    let from : p + n ≡ q = omega arith in
    let a : take n (take (n + m) xs) ≡ take n xs = take-take n (n + m) xs (omega arith) in
    let b : drop n (take (n + m) xs) ≡ take m (drop q text) =
    drop-take n m xs ∙ ap (take m) (drop-drop n p text) ∙ ap (λ (k : ℕ). take m (drop k text)) from in
    sym (ap (λ (front : List ℕ). front ++ take m (drop q text)) a)
    ∙ sym (ap (λ (rest : List ℕ). take n (take (n + m) xs) ++ rest) b)
    ∙ take-append-drop n (take (n + m) xs)
    ∙ ap (λ (k : ℕ). take k xs) all

between_same : (text : List ℕ) (p q : ℕ) → p ≡ q → [] ≡ between text p q
between_same text p q e =
    let none : 0 ≡ q - p = omega (arith, e) in
    ap (λ (n : ℕ). take n (drop p text)) none

-- the words of a chain, which ends no earlier than it starts
chain_joins : (o : Overlay) (text : List ℕ) → HasWords o → (ws : List Word) (p to : ℕ) → IsChain (words o text) p ws to → (p ≤ to) × (joined_words text ws ≡ between text p to)
chain_joins o text has [] p to h = (omega (arith, h), between_same text p to h)
chain_joins o text has (w ∷ ws) p to h =
    let a = in_words o text p w has h.0 in
    let r = chain_joins o text has ws w.end to h.1 in
    let place = a.place_is in
    let start = a.start_is in
    let longer = a.longer in
    let on = r.0 in
    let word : between text w.place w.start ++ between text w.start w.end ≡ between text p w.end =
    between_joined text w.place w.start w.end (omega (arith, place, start)) (omega (arith, longer))
    ∙ ap (λ (q : ℕ). between text q w.end) place in (
      omega (arith, start, longer, on),
      ap (λ (xs : List ℕ). xs ++ joined_words text ws) word
          ∙ ap (λ (xs : List ℕ). between text p w.end ++ xs) r.1
          ∙ between_joined text p w.end to (omega (arith, start, longer)) on,
    )

pub words_join : (o : Overlay) (text : List ℕ) → HasWords o → (path : List Word) (to : ℕ) → IsPath (words o text) path to → joined_words text path ++ drop to text ≡ text
words_join o text has path to is =
    let all : to - 0 ≡ to = omega arith in
    ap (λ (xs : List ℕ). xs ++ drop to text) ((chain_joins o text has path 0 to is.chain).1 ∙ ap (λ (n : ℕ). take n text) all)
    ∙ take-append-drop to text
