-- The tokens of an index's lists, one list after another, are in the order of their numbers. So the
-- one with a number is the token of that number, if it is among them.
use Rattle.std.proofs.Common.{◌≡◌, ℕ, zero, suc, ◌+◌, ◌-◌, ◌<◌, ◌≤◌, Bool, true, false, cond, eqb, List, [], ◌∷◌, ◌++◌, length, map, Option, Some, None, sym, ap, ◌∙◌, refl, arith}
use Rattle.std.specs.Prelude.{find, ◌==◌, slice_get}
use Rattle.std.specs.List.{flat_map, range_with_len}
use Rattle.std.proofs.lemmas.Bool.{eqb-true, eqb-false, lt-ltb}
use Rattle.std.proofs.lemmas.List.{map-append}
use Rattle.std.proofs.lemmas.List.Concat.{flat_map-append}
use Rattle.std.proofs.lemmas.List.FromFn.{get_or-map-range_with_len, length-map-range_with_len}
use Rattle.std.proofs.lemmas.Option.{same_Some, slice_get-get_or, slice_get_within}
use Rattle.image_format.specs.ImageBytes.{header_of, section, all_tokens, kind_of}
use Rattle.image_format.specs.ImageFaults.{AreCounts}
use Rattle.image_format.specs.ImageMeaning.{LexiconSections, entries_of_group, image_tables, image_token, image_unknown, key_in, lexicon_sections, tokens_in}
use Rattle.image_format.specs.ImageSections.{IsIndex, index_at, token_from}
use Rattle.mj_model.specs.Lists.{up_to}
use Rattle.mj_model.specs.Tables.{Lexeme, Token, Kind, System, User}
use Rattle.dict_image.specs.Validation.Outlines.{IsImage}
use Rattle.dict_image.specs.Numbered.{numbered_tokens, unknown_tokens}
use Rattle.dict_image.proofs.CategoryLemmas.{count_of_image}
use Rattle.dict_image.proofs.FormedLemmas.{groups_are, is_header, unknown_are}
use Rattle.dict_image.proofs.NumberLemmas.{index_falls_not, range_joined, tokens_named}

-- ---- one list after another

pub lists_joined : (tokens features : List ℕ) (lists low high : ℕ) (index : List ℕ) (a n : ℕ) → IsIndex lists low high index → a + n ≤ lists
    → flat_map (tokens_in tokens features index) (range_with_len a n) ≡ map (token_from tokens features) (range_with_len (index_at index a) (index_at index (a + n) - index_at index a))
lists_joined tokens features lists low high index a zero is within =
    let e : a + 0 ≡ a = omega arith in
    let same = ap (index_at index) e in
    let none : 0 ≡ index_at index (a + 0) - index_at index a = omega (arith, same) in
    ap (λ (k : ℕ). map (token_from tokens features) (range_with_len (index_at index a) k)) none
lists_joined tokens features lists low high index a (suc n) is within =
    let f = token_from tokens features in
    let start = index_at index a in
    let next = index_at index (suc a) in
    let end = index_at index (a + suc n) in
    let one : a + 1 ≡ suc a = omega arith in
    let all : a + 1 + n ≡ a + suc n = omega arith in
    let following : flat_map (tokens_in tokens features index) (range_with_len (a + 1) n) ≡ map f (range_with_len next (end - next)) =
    lists_joined tokens features lists low high index (a + 1) n is (omega (arith, within)) ∙ ap (λ (b : ℕ). map f (range_with_len (index_at index b) (index_at index (a + 1 + n) - index_at index b))) one
    ∙ ap (λ (b : ℕ). map f (range_with_len next (index_at index b - next))) all in
    let up = is.rising a (omega (arith, within)) in
    let on = index_falls_not lists low high index (suc a) n is (omega (arith, within)) in
    let same : index_at index (suc a + n) ≡ end = ap (index_at index) (let e : suc a + n ≡ a + suc n = omega arith in e) in
    let joined : end - start ≡ (next - start) + (end - next) = omega (arith, up, on, same) in
    let middle : start + (next - start) ≡ next = omega (arith, up) in
    ap (λ (ts : List Token). map f (range_with_len start (next - start)) ++ ts) following
    ∙ sym (map-append f (range_with_len start (next - start)) (range_with_len next (end - next)))
    ∙ ap (map f) (sym (ap (range_with_len start) joined ∙ range_joined start (next - start) (end - next) ∙ ap (λ (b : ℕ). range_with_len start (next - start) ++ range_with_len b (end - next)) middle))

-- an index whose lists divide the tokens from one number to another
all_lists : (tokens features : List ℕ) (lists low high : ℕ) (index : List ℕ) → IsIndex lists low high index
    → flat_map (tokens_in tokens features index) (range_with_len 0 lists) ≡ map (token_from tokens features) (range_with_len low (high - low))
all_lists tokens features lists low high index is =
    let e : 0 + lists ≡ lists = omega arith in
    let last : index_at index (0 + lists) ≡ high = ap (index_at index) e ∙ is.last in lists_joined tokens features lists low high index 0 lists is (omega arith)
    ∙ ap (λ (k : ℕ). map (token_from tokens features) (range_with_len (index_at index 0) (k - index_at index 0))) last
    ∙ ap (λ (k : ℕ). map (token_from tokens features) (range_with_len k (high - k))) is.first

-- ---- the lexicon

groups_tokens : (s : LexiconSections) (groups : List ℕ) → map (λ (e : Lexeme). e.token) (flat_map (entries_of_group s) groups) ≡ flat_map (tokens_in s.tokens s.features s.groups) groups
groups_tokens s [] = refl
groups_tokens s (group ∷ groups) =
    let tokens = tokens_in s.tokens s.features s.groups group in
    map-append (λ (e : Lexeme). e.token) (entries_of_group s group) (flat_map (entries_of_group s) groups)
    ∙ ap (λ (ts : List Token). ts ++ map (λ (e : Lexeme). e.token) (flat_map (entries_of_group s) groups)) (tokens_named (key_in s.form s.keys group) tokens)
    ∙ ap (λ (ts : List Token). tokens ++ ts) (groups_tokens s groups)

-- the lexicon's tokens are those from number 0 on
pub lexicon_numbered : (bytes : List ℕ) → IsImage bytes → map (λ (e : Lexeme). e.token) (image_tables bytes).lexicon ≡ map (image_token bytes) (range_with_len 0 (header_of bytes).tokens)
lexicon_numbered bytes w =
    let h = header_of bytes in
    let e : h.tokens - 0 ≡ h.tokens = omega arith in
    groups_tokens (lexicon_sections bytes) (range_with_len 0 h.groups)
    ∙ all_lists (section bytes 7) (section bytes 8) h.groups 0 h.tokens (section bytes 6) (groups_are bytes w)
    ∙ ap (λ (k : ℕ). map (image_token bytes) (range_with_len 0 k)) e

-- ---- the unknown entries

unknown_lists : (bytes : List ℕ) (n : ℕ) → n ≤ (header_of bytes).categories
    → flat_map (λ k. image_unknown bytes (k - 1)) (up_to n) ≡ flat_map (tokens_in (section bytes 7) (section bytes 8) (section bytes 4)) (range_with_len 0 n)
unknown_lists bytes zero within = refl
unknown_lists bytes (suc n) within =
    let h = header_of bytes in
    let f = λ (k : ℕ). image_unknown bytes (k - 1) in
    let g = tokens_in (section bytes 7) (section bytes 8) (section bytes 4) in
    let one : suc n - 1 ≡ n = omega arith in
    let here : f (suc n) ≡ g n = ap (image_unknown bytes) one ∙ ap (λ (b : Bool). cond b (g n) []) (lt-ltb n h.categories (omega (arith, within))) in
    let more : suc n ≡ n + 1 = omega arith in
    let last : 0 + n ≡ n = omega arith in
    flat_map-append f (up_to n) (suc n ∷ [])
    ∙ ap (λ (ts : List Token). flat_map f (up_to n) ++ (ts ++ [])) here
    ∙ ap (λ (ts : List Token). ts ++ (g n ++ [])) (unknown_lists bytes n (omega (arith, within)))
    ∙ sym (ap (λ (k : ℕ). flat_map g (range_with_len 0 k)) more ∙ ap (flat_map g) (range_joined 0 n 1 ∙ ap (λ (k : ℕ). range_with_len 0 n ++ k ∷ []) last) ∙ flat_map-append g (range_with_len 0 n) (n ∷ []))

unknown_by : (bytes : List ℕ) (kind : Kind) → IsImage bytes → kind_of (header_of bytes) ≡ kind → AreCounts kind (header_of bytes).categories (header_of bytes).unknown
    → flat_map (λ k. image_unknown bytes (k - 1)) (up_to (header_of bytes).categories) ≡ map (image_token bytes) (range_with_len (header_of bytes).tokens (header_of bytes).unknown)
unknown_by bytes System w is counts =
    let h = header_of bytes in
    let e : all_tokens h - h.tokens ≡ h.unknown = omega arith in
    unknown_lists bytes h.categories (omega arith)
    ∙ all_lists (section bytes 7) (section bytes 8) h.categories h.tokens (all_tokens h) (section bytes 4) (unknown_are bytes is w)
    ∙ ap (λ (k : ℕ). map (image_token bytes) (range_with_len h.tokens k)) e
unknown_by bytes User w is counts =
    let h = header_of bytes in
    ap (λ (k : ℕ). flat_map (λ k. image_unknown bytes (k - 1)) (up_to k)) counts.0
    ∙ sym (ap (λ (k : ℕ). map (image_token bytes) (range_with_len h.tokens k)) counts.1)

-- the unknown entries' tokens follow those of the lexicon
pub unknown_numbered : (bytes : List ℕ) → IsImage bytes → unknown_tokens (image_tables bytes) ≡ map (image_token bytes) (range_with_len (header_of bytes).tokens (header_of bytes).unknown)
unknown_numbered bytes w =
    ap (λ (k : ℕ). flat_map (λ k. image_unknown bytes (k - 1)) (up_to k)) (count_of_image bytes)
    ∙ unknown_by bytes (kind_of (header_of bytes)) w refl (is_header bytes w).counts

-- ---- all entries

-- the entries in the order of their numbers
pub all_numbered : (bytes : List ℕ) → IsImage bytes → numbered_tokens (image_tables bytes) ≡ map (image_token bytes) (range_with_len 0 (all_tokens (header_of bytes)))
all_numbered bytes w =
    let h = header_of bytes in
    let f = image_token bytes in
    let known : List Token = map f (range_with_len 0 h.tokens) in
    let e : 0 + h.tokens ≡ h.tokens = omega arith in
    ap (λ (ts : List Token). ts ++ unknown_tokens (image_tables bytes)) (lexicon_numbered bytes w)
    ∙ ap (λ (ts : List Token). known ++ ts) (unknown_numbered bytes w)
    ∙ sym (ap (map f) (range_joined 0 h.tokens h.unknown ∙ ap (λ (b : ℕ). range_with_len 0 h.tokens ++ range_with_len b h.unknown) e) ∙ map-append f (range_with_len 0 h.tokens) (range_with_len h.tokens h.unknown))

pub numbered_count : (bytes : List ℕ) → IsImage bytes → length (numbered_tokens (image_tables bytes)) ≡ all_tokens (header_of bytes)
numbered_count bytes w = ap length (all_numbered bytes w) ∙ length-map-range_with_len (image_token bytes) 0 (all_tokens (header_of bytes))

-- each entry is at the position of its number
pub numbered_at : (bytes : List ℕ) (i : ℕ) → IsImage bytes → i < all_tokens (header_of bytes) → slice_get (numbered_tokens (image_tables bytes)) i ≡ Some (image_token bytes i)
numbered_at bytes i w less =
    let n = all_tokens (header_of bytes) in
    let ts = map (image_token bytes) (range_with_len 0 n) in
    let long = length-map-range_with_len (image_token bytes) 0 n in
    ap (λ (all : List Token). slice_get all i) (all_numbered bytes w)
    ∙ slice_get-get_or ts i (image_token bytes i) (omega (arith, long, less))
    ∙ ap Some (get_or-map-range_with_len (image_token bytes) 0 n i i (image_token bytes i) less (omega arith))

pub number_is_place : (bytes : List ℕ) → IsImage bytes → (i : ℕ) (e : Token) → slice_get (numbered_tokens (image_tables bytes)) i ≡ Some e → e.number ≡ i
number_is_place bytes w i e at =
    let count = numbered_count bytes w in
    let within = slice_get_within (numbered_tokens (image_tables bytes)) i e at in
    let same : e ≡ image_token bytes i = same_Some e (image_token bytes i) (sym at ∙ numbered_at bytes i w (omega (arith, count, within))) in
    ap (λ (t : Token). t.number) same

-- ---- the token with a number

abbrev pub has_number : ℕ → Token → Bool
has_number i t = t.number == i

found_by : (bytes : List ℕ) (a i : ℕ) (rest : Option Token) (b : Bool) → eqb a i ≡ b → ((a ≡ i → ⊥) → rest ≡ Some (image_token bytes i)) → cond b (Some (image_token bytes a)) rest ≡ Some (image_token bytes i)
found_by bytes a i rest true e following = ap (λ (k : ℕ). Some (image_token bytes k)) (eqb-true a i e)
found_by bytes a i rest false e following = following (eqb-false a i e)

found_at : (bytes : List ℕ) (a n i : ℕ) → a ≤ i → i < a + n → find (has_number i) (map (image_token bytes) (range_with_len a n)) ≡ Some (image_token bytes i)
found_at bytes a zero i low less = absurd (omega (arith, low, less))
found_at bytes a (suc n) i low less =
    found_by bytes a i (find (has_number i) (map (image_token bytes) (range_with_len (a + 1) n))) (eqb a i) refl
    (λ other. found_at bytes (a + 1) n i (omega (arith, low, other)) (omega (arith, less)))

none_by : (bytes : List ℕ) (a i : ℕ) (rest : Option Token) (b : Bool) → eqb a i ≡ b → (a ≡ i → ⊥) → rest ≡ None → cond b (Some (image_token bytes a)) rest ≡ None
none_by bytes a i rest true e other following = absurd (other (eqb-true a i e))
none_by bytes a i rest false e other following = following

none_at : (bytes : List ℕ) (a n i : ℕ) → (a ≤ i → i < a + n → ⊥) → find (has_number i) (map (image_token bytes) (range_with_len a n)) ≡ None
none_at bytes a zero i outside = refl
none_at bytes a (suc n) i outside =
    none_by bytes a i (find (has_number i) (map (image_token bytes) (range_with_len (a + 1) n))) (eqb a i) refl
    (λ same. outside (omega (arith, same)) (omega (arith, same)))
    (none_at bytes (a + 1) n i (λ low less. outside (omega (arith, low)) (omega (arith, less))))

pub numbered_found : (bytes : List ℕ) (ts : List Token) (a n i : ℕ) (t : Token) → ts ≡ map (image_token bytes) (range_with_len a n) → a ≤ i → i < a + n → t ≡ image_token bytes i → Some t ≡ find (has_number i) ts
numbered_found bytes ts a n i t are low less is = ap Some is ∙ sym (ap (find (has_number i)) are ∙ found_at bytes a n i low less)

pub numbered_none : (bytes : List ℕ) (ts : List Token) (a n i : ℕ) → ts ≡ map (image_token bytes) (range_with_len a n) → (a ≤ i → i < a + n → ⊥) → None ≡ find (has_number i) ts
numbered_none bytes ts a n i are outside = sym (ap (find (has_number i)) are ∙ none_at bytes a n i outside)
