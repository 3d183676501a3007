-- Entries with consecutive numbers are those at these indices among all.
use Rattle.std.proofs.Common.{◌≡◌, ℕ, zero, suc, ◌+◌, ◌-◌, ◌<◌, ◌≤◌, List, [], ◌∷◌, length, get_or, take, drop, map, filter, Some, inl, inr, sym, ap, ◌∙◌, refl, arith, subst}
use Rattle.std.specs.Prelude.{slice_get, bytes_eq}
use Rattle.std.specs.List.{AllByRecursion, range_with_len}
use Rattle.std.proofs.lemmas.Bool.{cases_lt, ltb-true}
use Rattle.std.proofs.lemmas.List.{drop_more, length-take, length-drop, length-map}
use Rattle.std.proofs.lemmas.Option.{get_or_from_slice_get, none-some, same_Some, slice_get_within}
use Rattle.mj_model.specs.declared.word.Word.{Word}
use Rattle.mj_model.specs.Lists.{up_to, IsMember}
use Rattle.mj_model.specs.Tables.{Lexeme, Tables, Token}
use Rattle.mj_model.proofs.Members.{append_in, each_holds, flat_map_in, in_filter, in_map, in_up_to, map_in}
use Rattle.image_format.specs.ImageMeaning.{entries_under}
use Rattle.dict_image.specs.declared.ids_and_cost.IdsAndCost.{IdsAndCost}
use Rattle.dict_image.specs.Fitting.{AreFitting}
use Rattle.dict_image.specs.Numbered.{numbered_tokens, unknown_tokens}
use Rattle.dict_image.specs.Prefixes.{has_entries, prefix_at, prefixes_in}
use Rattle.dict_image.specs.Views.{ids_and_cost_of}
use Rattle.mj_model.specs.declared.paths.surface.Surface.{Surface}
use Rattle.word_lookup.specs.EntryWords.{entry_word}
use Rattle.word_lookup.specs.Surfaces.{word_with, words_among, words_by_ids}

-- the index of an entry is its number
abbrev pub LiesAtNumber : List Token → Token → Type 0
LiesAtNumber all e = slice_get all e.number ≡ Some e

pub row_is : (all es : List Token) (first count : ℕ) → map (λ (t : Token). t.number) es ≡ range_with_len first count → AllByRecursion (LiesAtNumber all) es → take count (drop first all) ≡ es
row_is all [] first zero numbers appear = refl
row_is all [] first (suc n) numbers appear = absurd (let long = ap length numbers in omega (arith, long))
row_is all (t ∷ ts) first zero numbers appear = absurd (let long = ap length numbers in omega (arith, long))
row_is all (t ∷ ts) first (suc n) numbers appear =
    let number : t.number ≡ first = ap (λ (ns : List ℕ). get_or ns 0 0) numbers in
    let rest : map (λ (t : Token). t.number) ts ≡ range_with_len (first + 1) n = ap (λ (ns : List ℕ). drop 1 ns) numbers in
    let at : slice_get all first ≡ Some t = ap (slice_get all) (sym number) ∙ appear.0 in
    let here = get_or_from_slice_get all first t t at in
    ap (take (suc n)) (drop_more all first t (slice_get_within all first t at) ∙ ap (λ (u : Token). u ∷ drop (first + 1) all) here)
    ∙ ap (λ (us : List Token). t ∷ us) (row_is all ts (first + 1) n rest appear.1)

-- ---- entries of a dictionary

place_in : (xs : List Token) (x : Token) → IsMember xs x → (i : ℕ) × (slice_get xs i ≡ Some x)
place_in [] x h = absurd h
place_in (y ∷ ys) x (inl e) = (0, ap Some e)
place_in (y ∷ ys) x (inr h) = let r = place_in ys x h in (suc r.0, r.1)

appear_at_numbers : (all part : List Token) → ((i : ℕ) (e : Token) → slice_get all i ≡ Some e → e.number ≡ i) → ((e : Token) → IsMember part e → IsMember all e) → AllByRecursion (LiesAtNumber all) part
appear_at_numbers all part numbered within = each_holds (LiesAtNumber all) part (λ e h.
    let at = place_in all e (within e h) in
    ap (slice_get all) (numbered at.0 e at.1) ∙ at.1)

abbrev token_of : Lexeme → Token
token_of e = e.token

-- the entries of a surface
pub known_appear : (t : Tables) (key : List ℕ) → AreFitting t → AllByRecursion (LiesAtNumber (numbered_tokens t)) (entries_under key t.lexicon)
known_appear t key fits =
    let has = λ (e : Lexeme). bytes_eq e.surface key in appear_at_numbers (numbered_tokens t) (entries_under key t.lexicon) fits.numbered (λ e h.
    let l = in_map token_of (filter has t.lexicon) e h in
    let there : IsMember (map token_of t.lexicon) e = subst (IsMember (map token_of t.lexicon)) l.2 (map_in token_of t.lexicon l.0 (in_filter has t.lexicon l.0 l.1).0) in
    append_in (map token_of t.lexicon) (unknown_tokens t) e (inl there))

up_to_in : (n i : ℕ) → i < n → IsMember (up_to n) (suc i)
up_to_in zero i less = absurd (omega (arith, less))
up_to_in (suc n) i less = elim (cases_lt i n) [
  | inl below ↦ append_in (up_to n) (suc n ∷ []) (suc i) (inl (up_to_in n i below))
  | inr high ↦ let e : suc n ≡ suc i = omega (arith, high, less) in append_in (up_to n) (suc n ∷ []) (suc i) (inr (inl e))
]

-- the entries of a category
pub unknown_appear : (t : Tables) (i : ℕ) → AreFitting t → i < length t.categories → AllByRecursion (LiesAtNumber (numbered_tokens t)) (t.unknown i)
unknown_appear t i fits less =
    let f = λ (n : ℕ). t.unknown (n - 1) in
    let one : suc i - 1 ≡ i = omega arith in
    appear_at_numbers (numbered_tokens t) (t.unknown i) fits.numbered (λ e h.
    let here : IsMember (f (suc i)) e = subst (λ (k : ℕ). IsMember (t.unknown k) e) (sym one) h in
    append_in (map token_of t.lexicon) (unknown_tokens t) e (inr (flat_map_in f (up_to (length t.categories)) (suc i) e (up_to_in (length t.categories) i less) here)))

-- ---- surfaces that are prefixes of a text

-- a prefix of so many bytes at most, with its entries
pub record IsPrefix (n : ℕ) (all : List Token) (prefix : ℕ × List Token) : Type 0 where
  pub within : prefix.0 ≤ n
  pub some : 0 < length prefix.1
  pub appear : AllByRecursion (LiesAtNumber all) prefix.1

pub prefixes_are : (text : List ℕ) (t : Tables) → AreFitting t → AllByRecursion (IsPrefix (length text) (numbered_tokens t)) (prefixes_in text t.lexicon)
prefixes_are text t fits = each_holds (IsPrefix (length text) (numbered_tokens t)) (prefixes_in text t.lexicon) (λ prefix h.
    let f = in_filter has_entries (map (prefix_at text t.lexicon) (up_to (length text))) prefix h in
    let m = in_map (prefix_at text t.lexicon) (up_to (length text)) prefix f.0 in
    let low = (in_up_to (length text) m.0 m.1).1 in
    let same : m.0 ≡ prefix.0 = ap (λ (p : ℕ × List Token). p.0) m.2 in
    record {
      within = omega (arith, low, same);
      some = ltb-true 0 (length prefix.1) f.1;
      appear = subst (λ (p : ℕ × List Token). AllByRecursion (LiesAtNumber (numbered_tokens t)) p.1) m.2 (known_appear t (take m.0 text) fits);
    })

-- ---- one entry of a row

get_in_take : (xs : List Token) (n i : ℕ) → i < n → slice_get (take n xs) i ≡ slice_get xs i
get_in_take xs zero i less = absurd (omega (arith, less))
get_in_take [] (suc n) i less = refl
get_in_take (x ∷ xs) (suc n) zero less = refl
get_in_take (x ∷ xs) (suc n) (suc i) less = get_in_take xs n i (omega (arith, less))

get_in_drop : (xs : List Token) (n i : ℕ) → slice_get (drop n xs) i ≡ slice_get xs (n + i)
get_in_drop xs zero i = let e : i ≡ 0 + i = omega arith in ap (slice_get xs) e
get_in_drop [] (suc n) i = refl
get_in_drop (x ∷ xs) (suc n) i = let e : suc n + i ≡ suc (n + i) = omega arith in get_in_drop xs n i ∙ ap (slice_get (x ∷ xs)) (sym e)

pub get_in_row : (all : List Token) (first count i : ℕ) → i < count → slice_get (take count (drop first all)) i ≡ slice_get all (first + i)
get_in_row all first count i less = get_in_take (drop first all) count i less ∙ get_in_drop all first i

-- a whole row lies within the list
pub row_within : (all : List Token) (f : Token → Word) (first count : ℕ) → length (map f (take count (drop first all))) ≡ count → 0 < count → first + count ≤ length all
row_within all f first count whole some =
    let a = length-map (take count (drop first all)) f in
    let b = length-take count (drop first all) in
    let c = length-drop first all in
    omega (arith, whole, some, a, b, c)

-- ---- the words of a row, by ids and costs

-- entries whose numbers are those from this one on
words_are : (s : Surface) (n : ℕ) (ts : List Token) → ((i : ℕ) (t : Token) → slice_get ts i ≡ Some t → t.number ≡ n + i) → words_by_ids s n (map ids_and_cost_of ts) ≡ map (entry_word s.list s.place s.start s.end) ts
words_are s n [] numbered = refl
words_are s n (t ∷ ts) numbered =
    let number : n ≡ t.number = let e = numbered 0 t refl in omega (arith, e) in
    let word = λ (k : ℕ). word_with s k (ids_and_cost_of t) in
    ap (λ (w : Word). w ∷ words_by_ids s (n + 1) (map ids_and_cost_of ts)) (ap word number)
    ∙ ap (λ (ws : List Word). entry_word s.list s.place s.start s.end t ∷ ws) (words_are s (n + 1) ts (λ i u at. let e = numbered (suc i) u at in omega (arith, e)))

-- the words of a surface whose entries are among these
pub words_of_row : (all : List Token) (s : Surface) → ((i : ℕ) (t : Token) → slice_get all i ≡ Some t → t.number ≡ i) → words_by_ids s s.first (map ids_and_cost_of (take s.count (drop s.first all))) ≡ words_among all s
words_of_row all s numbered = words_are s s.first (take s.count (drop s.first all)) (λ i t at.
    let within = slice_get_within (take s.count (drop s.first all)) i t at in
    let few = length-take s.count (drop s.first all) in
    let less : i < s.count = omega (arith, within, few) in
    numbered (s.first + i) t (sym (get_in_row all s.first s.count i less) ∙ at))

-- one of the words of a row
pub words_length : (s : Surface) (n : ℕ) (row : List IdsAndCost) → length (words_by_ids s n row) ≡ length row
words_length s n [] = refl
words_length s n (ids ∷ rest) = ap suc (words_length s (n + 1) rest)

pub word_is : (s : Surface) (n : ℕ) (row : List IdsAndCost) (i : ℕ) (ids : IdsAndCost) → slice_get row i ≡ Some ids → slice_get (words_by_ids s n row) i ≡ Some (word_with s (n + i) ids)
word_is s n [] i ids at = absurd (none-some ids at)
word_is s n (first ∷ rest) zero ids at =
    let e : n ≡ n + 0 = omega arith in
    let same = same_Some first ids at in
    ap (λ (k : ℕ). Some (word_with s k first)) e ∙ ap (λ (x : IdsAndCost). Some (word_with s (n + 0) x)) same
word_is s n (first ∷ rest) (suc i) ids at =
    let e : n + 1 + i ≡ n + suc i = omega arith in
    word_is s (n + 1) rest i ids at ∙ ap (λ (k : ℕ). Some (word_with s k ids)) e
