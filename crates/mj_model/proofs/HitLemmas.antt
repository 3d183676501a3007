-- The hits of a walk are the keys that are prefixes of the text.
use Rattle.std.proofs.Common.{◌≡◌, ℕ, zero, suc, ◌+◌, ◌<◌, ◌≤◌, List, [], ◌∷◌, ◌++◌, length, get_or, map, take, drop, Option, Some, None, MatchOption, sym, ap, ◌∙◌, refl, arith}
use Rattle.std.specs.Option.{option_map}
use Rattle.std.specs.List.{filter_map}
use Rattle.std.proofs.lemmas.List.{drop_more, drop_all, take-take, take-map, take-append-le, length-take-le, length-map, get_or-take}
use Rattle.mj_model.specs.Lists.{up_to}
use Rattle.mj_model.specs.CellMap.{Cell, step, walk, codes_of, value_of, prefixes_of}
use Rattle.mj_model.proofs.CellWalks.{walk_none}
use Rattle.mj_model.specs.declared.cell_walk.steps.WalkState.{WalkState}
use Rattle.mj_model.specs.Steps.{IsStepTo}
use Rattle.mj_model.specs.Hits.{hit_at, hit_of, value_here, hits_with, hits_from, hits_at}
use Rattle.mj_model.proofs.KeyWalks.{length-codes_of, code_of_byte, walk_take_more, no_value_by_stop, value_by_end}

pub no_hits : (cells : List Cell) (s n : ℕ) (text : List ℕ) → length text ≤ n → hits_from cells s n (drop n text) ≡ []
unfolding hits_from
no_hits cells s n text over = ap (hits_from cells s n) (drop_all n text over)

hits_more : (cells : List Cell) (s n : ℕ) (text : List ℕ) → n < length text
    → hits_from cells s n (drop n text) ≡ hits_with (λ (t : ℕ). hits_from cells t (suc n) (drop (suc n) text)) cells (suc n) (step cells s (get_or text n 0 + 1))
unfolding hits_from
hits_more cells s n text less =
    let e : n + 1 ≡ suc n = omega arith in
    let f : suc (get_or text n 0) ≡ get_or text n 0 + 1 = let x = get_or text n 0 in omega arith in
    ap (hits_from cells s n) (drop_more text n 0 less ∙ ap (λ (i : ℕ). get_or text n 0 ∷ drop i text) e) ∙ ap (λ (c : ℕ). hits_with (λ (t : ℕ). hits_from cells t (suc n) (drop (suc n) text)) cells (suc n) (step cells s c)) f

-- the hits before and after one byte
pub hits_on : (cells : List Cell) (s n : ℕ) (text : List ℕ) (found : Option WalkState) → n < length text → IsStepTo cells s (get_or text n 0 + 1) found
    → MatchOption found ((hits_from cells s n (drop n text) ≡ []) × (hits_at cells found (n + 1) (drop (n + 1) text) ≡ [])) (λ place. hits_from cells s n (drop n text) ≡ hit_at (n + 1) (value_here cells place.state) ++ hits_at cells found (n + 1) (drop (n + 1) text))
hits_on cells s n text None less stopped =
    (hits_more cells s n text less ∙ ap (hits_with (λ (t : ℕ). hits_from cells t (suc n) (drop (suc n) text)) cells (suc n)) stopped, refl)
hits_on cells s n text (Some place) less led =
    let e : suc n ≡ n + 1 = omega arith in
    hits_more cells s n text less ∙ ap (hits_with (λ (t : ℕ). hits_from cells t (suc n) (drop (suc n) text)) cells (suc n)) led.0
    ∙ ap (λ (i : ℕ). hit_at i (value_here cells place.state) ++ hits_from cells place.state i (drop i text)) e

-- ---- all hits

-- the k numbers after n
abbrev counted : ℕ → ℕ → List ℕ
counted n zero = []
counted n (suc k) = suc n ∷ counted (suc n) k

counted_more : (n k : ℕ) → counted n (suc k) ≡ counted n k ++ suc (n + k) ∷ []
counted_more n zero = ap (λ (i : ℕ). suc i ∷ []) (let e : n ≡ n + 0 = omega arith in e)
counted_more n (suc k) = ap (λ (xs : List ℕ). suc n ∷ xs) (counted_more (suc n) k ∙ ap (λ (i : ℕ). counted (suc n) k ++ suc i ∷ []) (let e : suc n + k ≡ n + suc k = omega arith in e))

up_to_is : (m : ℕ) → up_to m ≡ counted 0 m
up_to_is zero = refl
up_to_is (suc m) = ap (λ (xs : List ℕ). xs ++ suc m ∷ []) (up_to_is m) ∙ ap (λ (i : ℕ). counted 0 m ++ suc i ∷ []) (let e : m ≡ 0 + m = omega arith in e) ∙ sym (counted_more 0 m)

take_codes : (key : List ℕ) (n : ℕ) → n ≤ length key → take n (codes_of key) ≡ map suc (take n key)
unfolding codes_of
take_codes key n within = take-append-le n (map suc key) (0 ∷ []) (let e = length-map key suc in omega (arith, e, within)) ∙ take-map suc n key

-- the codes of a text's first bytes start as the codes of the text do
begins_same : (text : List ℕ) (n m : ℕ) → n ≤ m → m ≤ length text → take n (codes_of (take m text)) ≡ take n (codes_of text)
begins_same text n m le within =
    take_codes (take m text) n (let e = length-take-le m text within in omega (arith, e, le)) ∙ ap (map suc) (take-take n m text le) ∙ sym (take_codes text n (omega (arith, le, within)))

none_past : (cells : List Cell) (text : List ℕ) (n s m : ℕ) → n < m → m ≤ length text → walk cells 0 (take n (codes_of text)) ≡ Some s → step cells s (get_or text n 0 + 1) ≡ None → value_of cells (take m text) ≡ None
none_past cells text n s m less within led none =
    let key = take m text in
    let long = length-take-le m text within in
    let below : n < length key = omega (arith, long, less) in
    let some : 0 < length key = omega (arith, below) in
    let coded : n < length (codes_of key) = let e = length-codes_of key in omega (arith, e, below) in
    let same : get_or key n 0 ≡ get_or text n 0 = get_or-take m text n 0 less in
    no_value_by_stop cells key n s (get_or text n 0 + 1) some coded (code_of_byte key n below ∙ ap (λ (x : ℕ). x + 1) same) (ap (walk cells 0) (begins_same text n m (omega (arith, less)) within) ∙ led) none

none_counted : (cells : List Cell) (text : List ℕ) (n k : ℕ) → ((m : ℕ) → n < m → m ≤ length text → value_of cells (take m text) ≡ None) → n + k ≡ length text → filter_map (hit_of cells text) (counted n k) ≡ []
none_counted cells text n zero none all = refl
none_counted cells text n (suc k) none all =
    let first : hit_of cells text (suc n) ≡ None = ap (option_map (λ (v : ℕ). (suc n, v))) (none (suc n) (omega arith) (omega (arith, all))) in
    let rest = none_counted cells text (suc n) k (λ m less within. none m (omega (arith, less)) within) (omega (arith, all)) in
    rw first rest

hit_or_not : (n : ℕ) (o : Option ℕ) (xs : List (ℕ × ℕ)) (f : ℕ → Option (ℕ × ℕ)) (ns : List ℕ) → f n ≡ option_map (λ (v : ℕ). (n, v)) o → filter_map f ns ≡ xs → hit_at n o ++ xs ≡ filter_map f (n ∷ ns)
hit_or_not n None xs f ns at rest = sym (rw at rest)
hit_or_not n (Some v) xs f ns at rest = sym (rw at (ap (λ (ys : List (ℕ × ℕ)). (n, v) ∷ ys) rest))

hits_are_by : (cells : List Cell) (text : List ℕ) (k n s : ℕ) → n + suc k ≡ length text → walk cells 0 (take n (codes_of text)) ≡ Some s → (o : Option ℕ) → step cells s (get_or text n 0 + 1) ≡ o
    → ((t : ℕ) → walk cells 0 (take (suc n) (codes_of text)) ≡ Some t → hits_from cells t (suc n) (drop (suc n) text) ≡ filter_map (hit_of cells text) (counted (suc n) k))
    → hits_with (λ (t : ℕ). hits_from cells t (suc n) (drop (suc n) text)) cells (suc n) o ≡ filter_map (hit_of cells text) (counted n (suc k))
hits_are_by cells text k n s all led None at rest = sym (none_counted cells text n (suc k) (λ m less within. none_past cells text n s m less within led at) all)
hits_are_by cells text k n s all led (Some t) at rest =
    let less : n < length text = omega (arith, all) in
    let coded : n < length (codes_of text) = let e = length-codes_of text in omega (arith, e, less) in
    let e : n + 1 ≡ suc n = omega arith in
    let there : walk cells 0 (take (suc n) (codes_of text)) ≡ Some t =
    ap (λ (i : ℕ). walk cells 0 (take i (codes_of text))) (sym e) ∙ walk_take_more cells (codes_of text) n s (get_or text n 0 + 1) t coded (code_of_byte text n less) led at in
    let key = take (suc n) text in
    let long : length key ≡ suc n = length-take-le (suc n) text (omega (arith, less)) in
    let value : value_of cells key ≡ value_here cells t =
    value_by_end cells key t (omega (arith, long)) (ap (λ (i : ℕ). walk cells 0 (take i (codes_of key))) long ∙ ap (walk cells 0) (begins_same text (suc n) (suc n) (omega arith) (omega (arith, less))) ∙ there) in
    hit_or_not (suc n) (value_here cells t) (hits_from cells t (suc n) (drop (suc n) text)) (hit_of cells text) (counted (suc n) k) (ap (option_map (λ (v : ℕ). (suc n, v))) value) (sym (rest t there))

hits_are : (cells : List Cell) (text : List ℕ) (k n s : ℕ) → n + k ≡ length text → walk cells 0 (take n (codes_of text)) ≡ Some s → hits_from cells s n (drop n text) ≡ filter_map (hit_of cells text) (counted n k)
hits_are cells text zero n s all led = no_hits cells s n text (omega (arith, all))
hits_are cells text (suc k) n s all led =
    let less : n < length text = omega (arith, all) in
    hits_more cells s n text less ∙ hits_are_by cells text k n s all led (step cells s (get_or text n 0 + 1)) refl (λ t there. hits_are cells text k (suc n) t (omega (arith, all)) there)

-- the hits of a new walk are all keys that are prefixes of the text
pub all_hits : (cells : List Cell) (text : List ℕ) → hits_from cells 0 0 (drop 0 text) ≡ prefixes_of cells text
unfolding prefixes_of
all_hits cells text = hits_are cells text (length text) 0 0 (omega arith) (walk_none cells 0) ∙ ap (filter_map (hit_of cells text)) (sym (up_to_is (length text)))
