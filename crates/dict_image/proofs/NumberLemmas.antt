-- The numbers of a lexicon's tokens are those from 0 on, each once, and its surfaces are text.
use Rattle.std.proofs.Common.{◌≡◌, ℕ, zero, suc, ◌+◌, ◌-◌, ◌<◌, ◌≤◌, List, [], ◌∷◌, ◌++◌, map, inl, inr, sym, ap, ◌∙◌, refl, arith, subst}
use Rattle.std.specs.Prelude.{IsUtf8}
use Rattle.std.specs.List.{AllByRecursion, flat_map, range_with_len}
use Rattle.std.proofs.lemmas.List.{map-append}
use Rattle.image_format.specs.ImageBytes.{header_of, section}
use Rattle.image_format.specs.ImageMeaning.{LexiconSections, entries_of_group, entry_under, image_tables, key_in, lexicon_sections, tokens_in}
use Rattle.image_format.specs.ImageSections.{IsIndex, index_at, token_from}
use Rattle.mj_model.specs.Lists.{AreDistinct, IsMember}
use Rattle.mj_model.specs.Tables.{HasDistinctTokens, HasText, Lexeme, Token}
use Rattle.mj_model.proofs.Basics.{all_append}
use Rattle.dict_image.specs.Validation.Outlines.{IsImage}
use Rattle.dict_image.proofs.FormedLemmas.{groups_are, texts_are}

-- ---- numbers that follow one another

pub range_joined : (a m n : ℕ) → range_with_len a (m + n) ≡ range_with_len a m ++ range_with_len (a + m) n
range_joined a zero n = let e : a ≡ a + 0 = omega arith in let f : 0 + n ≡ n = omega arith in ap (range_with_len a) f ∙ ap (λ (b : ℕ). range_with_len b n) e
range_joined a (suc m) n =
    let e : a + 1 + m ≡ a + suc m = omega arith in
    let f : suc m + n ≡ suc (m + n) = omega arith in
    ap (range_with_len a) f ∙ ap (λ (xs : List ℕ). a ∷ xs) (range_joined (a + 1) m n ∙ ap (λ (b : ℕ). range_with_len (a + 1) m ++ range_with_len b n) e)

range_from : (a n x : ℕ) → IsMember (range_with_len a n) x → a ≤ x
range_from a zero x h = absurd h
range_from a (suc n) x h = elim h [
  | inl here ↦ omega (arith, here)
  | inr following ↦ let low = range_from (a + 1) n x following in omega (arith, low)
]

range_apart : (a n : ℕ) → AreDistinct (range_with_len a n)
range_apart a zero = tt
range_apart a (suc n) = (λ h. let low = range_from (a + 1) n a h in omega (arith, low), range_apart (a + 1) n)

-- ---- numbers of tokens

abbrev pub number_of : Token → ℕ
number_of t = t.number

abbrev token_of : Lexeme → Token
token_of e = e.token

pub numbers_are : (tokens features : List ℕ) (a n : ℕ) → map number_of (map (token_from tokens features) (range_with_len a n)) ≡ range_with_len a n
numbers_are tokens features a zero = refl
numbers_are tokens features a (suc n) = ap (λ (xs : List ℕ). a ∷ xs) (numbers_are tokens features (a + 1) n)

pub tokens_named : (surface : List ℕ) (ts : List Token) → map token_of (map (entry_under surface) ts) ≡ ts
tokens_named surface [] = refl
tokens_named surface (t ∷ ts) = ap (λ (xs : List Token). t ∷ xs) (tokens_named surface ts)

-- the tokens of a list of an index are distinct
pub list_apart : (tokens features index : List ℕ) (i : ℕ) → HasDistinctTokens (tokens_in tokens features index i)
list_apart tokens features index i =
    subst AreDistinct (sym (numbers_are tokens features (index_at index i) (index_at index (suc i) - index_at index i))) (range_apart (index_at index i) (index_at index (suc i) - index_at index i))

pub index_falls_not : (lists low high : ℕ) (index : List ℕ) (a n : ℕ) → IsIndex lists low high index → a + n ≤ lists → index_at index a ≤ index_at index (a + n)
index_falls_not lists low high index a zero is within =
    let e : a + 0 ≡ a = omega arith in
    let same = ap (index_at index) e in
    omega (arith, same)
index_falls_not lists low high index a (suc n) is within =
    let e : suc (a + n) ≡ a + suc n = omega arith in
    let before = index_falls_not lists low high index a n is (omega (arith, within)) in
    let step = is.rising (a + n) (omega (arith, within)) in
    let same = ap (index_at index) e in
    omega (arith, before, step, same)

-- the numbers of the tokens of one group after another
numbers_in : (s : LexiconSections) (lists low high a n : ℕ) → IsIndex lists low high s.groups → a + n ≤ lists
    → map number_of (map token_of (flat_map (entries_of_group s) (range_with_len a n))) ≡ range_with_len (index_at s.groups a) (index_at s.groups (a + n) - index_at s.groups a)
numbers_in s lists low high a zero is within =
    let e : a + 0 ≡ a = omega arith in
    let same = ap (index_at s.groups) e in
    let none : 0 ≡ index_at s.groups (a + 0) - index_at s.groups a = omega (arith, same) in
    ap (range_with_len (index_at s.groups a)) none
numbers_in s lists low high a (suc n) is within =
    let these = entries_of_group s a in
    let rest = flat_map (entries_of_group s) (range_with_len (a + 1) n) in
    let start = index_at s.groups a in
    let next = index_at s.groups (suc a) in
    let end = index_at s.groups (a + suc n) in
    let tokens = tokens_in s.tokens s.features s.groups a in
    let one : a + 1 ≡ suc a = omega arith in
    let all : a + 1 + n ≡ a + suc n = omega arith in
    let first : map number_of (map token_of these) ≡ range_with_len start (next - start) =
    ap (map number_of) (tokens_named (key_in s.form s.keys a) tokens) ∙ numbers_are s.tokens s.features start (next - start) in
    let following : map number_of (map token_of rest) ≡ range_with_len next (end - next) =
    numbers_in s lists low high (a + 1) n is (omega (arith, within)) ∙ ap (λ (b : ℕ). range_with_len (index_at s.groups b) (index_at s.groups (a + 1 + n) - index_at s.groups b)) one ∙ ap (λ (b : ℕ). range_with_len next (index_at s.groups b - next)) all in
    let up = is.rising a (omega (arith, within)) in
    let on = index_falls_not lists low high s.groups (suc a) n is (omega (arith, within)) in
    let same : index_at s.groups (suc a + n) ≡ end = ap (index_at s.groups) (let e : suc a + n ≡ a + suc n = omega arith in e) in
    let joined : end - start ≡ (next - start) + (end - next) = omega (arith, up, on, same) in
    let middle : start + (next - start) ≡ next = omega (arith, up) in
    ap (map number_of) (map-append token_of these rest) ∙ map-append number_of (map token_of these) (map token_of rest)
    ∙ ap (λ (xs : List ℕ). xs ++ map number_of (map token_of rest)) first ∙ ap (λ (xs : List ℕ). range_with_len start (next - start) ++ xs) following
    ∙ sym (ap (range_with_len start) joined ∙ range_joined start (next - start) (end - next) ∙ ap (λ (b : ℕ). range_with_len start (next - start) ++ range_with_len b (end - next)) middle)

-- no two entries of the lexicon have one number
pub lexicon_apart : (bytes : List ℕ) → IsImage bytes → HasDistinctTokens (map token_of (image_tables bytes).lexicon)
lexicon_apart bytes w =
    let h = header_of bytes in
    let index = section bytes 6 in
    subst AreDistinct (sym (numbers_in (lexicon_sections bytes) h.groups 0 h.tokens 0 h.groups (groups_are bytes w) (omega arith))) (range_apart (index_at index 0) (index_at index (0 + h.groups) - index_at index 0))

-- ---- surfaces

named_texts : (surface : List ℕ) (ts : List Token) → IsUtf8 surface → AllByRecursion HasText (map (entry_under surface) ts)
named_texts surface [] utf8 = tt
named_texts surface (t ∷ ts) utf8 = (utf8, named_texts surface ts utf8)

-- the key of each group is text
abbrev pub HasTexts : ℕ → LexiconSections → Type 0
HasTexts groups s = (g : ℕ) → g < groups → IsUtf8 (key_in s.form s.keys g)

texts_in : (groups : ℕ) (s : LexiconSections) (a n : ℕ) → HasTexts groups s → a + n ≤ groups → AllByRecursion HasText (flat_map (entries_of_group s) (range_with_len a n))
texts_in groups s a zero are within = tt
texts_in groups s a (suc n) are within =
    all_append HasText (entries_of_group s a) (flat_map (entries_of_group s) (range_with_len (a + 1) n))
    (named_texts (key_in s.form s.keys a) (tokens_in s.tokens s.features s.groups a) (are a (omega (arith, within)))) (texts_in groups s (a + 1) n are (omega (arith, within)))

-- the surfaces of the lexicon are text
pub lexicon_texts : (bytes : List ℕ) → IsImage bytes → AllByRecursion HasText (image_tables bytes).lexicon
lexicon_texts bytes w = texts_in (header_of bytes).groups (lexicon_sections bytes) 0 (header_of bytes).groups (texts_are bytes w) (omega arith)
