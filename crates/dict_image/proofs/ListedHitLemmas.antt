-- The listed keys that are prefixes of a text, step by step.
use Rattle.std.proofs.Common.{◌≡◌, ℕ, zero, suc, ◌+◌, ◌-◌, ◌<◌, ◌≤◌, List, [], ◌∷◌, ◌++◌, length, take, drop, Option, Some, None, ap, ◌∙◌, refl, arith}
use Rattle.std.proofs.Math.Seq.{take-add}
use Rattle.std.specs.List.{cons_option, filter_map, range_with_len}
use Rattle.std.specs.Option.{option_map}
use Rattle.image_format.specs.OlderSections.{listed_number}
use Rattle.mj_model.specs.Lists.{up_to}
use Rattle.dict_image.specs.Groups.{hit_in}
use Rattle.dict_image.specs.KeyLists.{KeyList}
use Rattle.dict_image.specs.ListedHits.{listed_hits_after}

abbrev number_in : KeyList → List ℕ → Option ℕ
number_in list key = listed_number list.count list.bytes key

abbrev hits_over : KeyList → List ℕ → List ℕ → List (ℕ × ℕ)
hits_over list text ns = filter_map (hit_in (number_in list) text) ns

-- the hits longer than n bytes are the hit of n + 1 bytes, if there is one, and those longer than
-- that
next_hits : (list : KeyList) (text : List ℕ) (n : ℕ) → n < length text
    → listed_hits_after list text n ≡ cons_option (option_map (λ (g : ℕ). (n + 1, g)) (number_in list (take (n + 1) text))) (listed_hits_after list text (n + 1))
next_hits list text n less =
    let e : length text - n ≡ suc (length text - (n + 1)) = omega (arith, less) in
    ap (λ (k : ℕ). hits_over list text (range_with_len (n + 1) k)) e

pub hit_here : (list : KeyList) (text : List ℕ) (n g : ℕ) → n < length text → number_in list (take (n + 1) text) ≡ Some g → listed_hits_after list text n ≡ (n + 1, g) ∷ listed_hits_after list text (n + 1)
hit_here list text n g less is = next_hits list text n less ∙ ap (λ (found : Option ℕ). cons_option (option_map (λ (g : ℕ). (n + 1, g)) found) (listed_hits_after list text (n + 1))) is

pub no_hit_here : (list : KeyList) (text : List ℕ) (n : ℕ) → n < length text → number_in list (take (n + 1) text) ≡ None → listed_hits_after list text n ≡ listed_hits_after list text (n + 1)
no_hit_here list text n less is =
    next_hits list text n less ∙ ap (λ (found : Option ℕ). cons_option (option_map (λ (g : ℕ). (n + 1, g)) found) (listed_hits_after list text (n + 1))) is

-- no hit is longer than the text
pub no_hits_at_end : (list : KeyList) (text : List ℕ) → listed_hits_after list text (length text) ≡ []
no_hits_at_end list text =
    let e : length text - length text ≡ 0 = omega arith in
    ap (λ (k : ℕ). hits_over list text (range_with_len (length text + 1) k)) e

none_among : (list : KeyList) (text : List ℕ) (a n : ℕ) → ((m : ℕ) → a ≤ m → number_in list (take m text) ≡ None) → hits_over list text (range_with_len a n) ≡ []
none_among list text a zero none = refl
none_among list text a (suc n) none =
    ap (λ (found : Option ℕ). cons_option (option_map (λ (g : ℕ). (a, g)) found) (hits_over list text (range_with_len (a + 1) n))) (none a (omega arith))
    ∙ none_among list text (a + 1) n (λ m up. none m (omega (arith, up)))

-- no hit is longer than bytes with which no key starts
pub no_hits_after : (list : KeyList) (text : List ℕ) (n : ℕ) → ((more : List ℕ) → number_in list (take (n + 1) text ++ more) ≡ None) → listed_hits_after list text n ≡ []
no_hits_after list text n none =
    none_among list text (n + 1) (length text - n) (λ m up.
    let e : m ≡ n + 1 + (m - (n + 1)) = omega (arith, up) in
    ap (λ (k : ℕ). number_in list (take k text)) e ∙ ap (number_in list) (take-add (n + 1) (m - (n + 1)) text) ∙ none (take (m - (n + 1)) (drop (n + 1) text)))

-- ---- from the first byte

range_more : (n a : ℕ) → range_with_len a (n + 1) ≡ range_with_len a n ++ (a + n) ∷ []
range_more zero a = let e : a ≡ a + 0 = omega arith in ap (λ (k : ℕ). k ∷ []) e
range_more (suc n) a =
    let e : suc n + 1 ≡ suc (n + 1) = omega arith in
    let f : a + 1 + n ≡ a + suc n = omega arith in
    ap (range_with_len a) e ∙ ap (λ (ks : List ℕ). a ∷ ks) (range_more n (a + 1) ∙ ap (λ (k : ℕ). range_with_len (a + 1) n ++ k ∷ []) f)

lengths_up_to : (n : ℕ) → range_with_len 1 n ≡ up_to n
lengths_up_to zero = refl
lengths_up_to (suc n) =
    let e : suc n ≡ n + 1 = omega arith in
    let f : 1 + n ≡ suc n = omega arith in
    ap (range_with_len 1) e ∙ range_more n 1 ∙ ap (λ (ks : List ℕ). ks ++ (1 + n) ∷ []) (lengths_up_to n) ∙ ap (λ (k : ℕ). up_to n ++ k ∷ []) f

pub all_hits : (list : KeyList) (text : List ℕ) → listed_hits_after list text 0 ≡ hits_over list text (up_to (length text))
all_hits list text =
    let e : length text - 0 ≡ length text = omega arith in
    ap (λ (k : ℕ). hits_over list text (range_with_len 1 k)) e ∙ ap (hits_over list text) (lengths_up_to (length text))
