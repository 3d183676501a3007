-- Walks over the codes of a key, code by code.
use Rattle.std.proofs.Common.{◌≡◌, ℕ, suc, ◌+◌, ◌<◌, List, [], ◌∷◌, ◌++◌, length, get_or, map, take, drop, Option, Some, None, sym, ap, ◌∙◌, refl, arith}
use Rattle.std.specs.Option.{option_and_then}
use Rattle.std.proofs.lemmas.List.{take_more, drop_more, take-append-drop, length-append, length-map, drop_all, get_or_append_left, get_or-map, get_or_at, append_cancel_right}
use Rattle.mj_model.specs.CellMap.{Cell, base, step, walk, codes_of, value_in, value_of}
use Rattle.mj_model.proofs.Basics.{same_map_suc}
use Rattle.mj_model.proofs.CellWalks.{walk_append, walk_more}

pub length-codes_of : (key : List ℕ) → length (codes_of key) ≡ length key + 1
unfolding codes_of
length-codes_of key = length-append (map suc key) (0 ∷ []) ∙ ap (λ n. n + 1) (length-map key suc)

pub code_of_byte : (key : List ℕ) (i : ℕ) → i < length key → get_or (codes_of key) i 0 ≡ get_or key i 0 + 1
unfolding codes_of
code_of_byte key i less =
    let within : i < length (map suc key) = let e = length-map key suc in omega (arith, e, less) in
    get_or_append_left (map suc key) (0 ∷ []) 0 i within ∙ get_or-map suc key i 0 0 less ∙ (let x = get_or key i 0 in omega arith)

pub code_of_end : (key : List ℕ) → get_or (codes_of key) (length key) 0 ≡ 0
unfolding codes_of
code_of_end key = get_or_at (map suc key) 0 [] 0 (length key) (length-map key suc)

-- the codes determine the key
pub same_key : (xs ys : List ℕ) → codes_of xs ≡ codes_of ys → xs ≡ ys
unfolding codes_of
same_key xs ys e = same_map_suc xs ys (append_cancel_right (map suc xs) (map suc ys) (0 ∷ []) e)

-- ---- one code more

pub walk_take_more : (cells : List Cell) (codes : List ℕ) (i s c t : ℕ) → i < length codes → get_or codes i 0 ≡ c → walk cells 0 (take i codes) ≡ Some s → step cells s c ≡ Some t → walk cells 0 (take (i + 1) codes) ≡ Some t
walk_take_more cells codes i s c t less at led more =
    ap (walk cells 0) (take_more codes i 0 less) ∙ walk_more cells (take i codes) s (get_or codes i 0) t led (ap (step cells s) at ∙ more)

pub split_at : (codes : List ℕ) (i : ℕ) → i < length codes → codes ≡ take i codes ++ get_or codes i 0 ∷ drop (i + 1) codes
split_at codes i less = sym (take-append-drop i codes) ∙ ap (λ (xs : List ℕ). take i codes ++ xs) (drop_more codes i 0 less)

pub walk_stopped : (cells : List Cell) (s c : ℕ) (cs : List ℕ) → step cells s c ≡ None → walk cells s (c ∷ cs) ≡ None
unfolding walk
walk_stopped cells s c cs h = ap (option_and_then (λ (t : ℕ). walk cells t cs)) h

pub walk_stops : (cells : List Cell) (codes : List ℕ) (i s c : ℕ) → i < length codes → get_or codes i 0 ≡ c → walk cells 0 (take i codes) ≡ Some s → step cells s c ≡ None → walk cells 0 codes ≡ None
walk_stops cells codes i s c less at led none =
    ap (walk cells 0) (split_at codes i less) ∙ walk_append cells 0 (take i codes) (get_or codes i 0 ∷ drop (i + 1) codes) s led ∙ walk_stopped cells s (get_or codes i 0) (drop (i + 1) codes) (ap (step cells s) at ∙ none)

-- ---- values

pub value_of_walk : (cells : List Cell) (key : List ℕ) → 0 < length key → value_of cells key ≡ option_and_then (λ (t : ℕ). value_in (base cells t)) (walk cells 0 (codes_of key))
unfolding value_of
value_of_walk cells [] some = absurd (omega (arith, some))
value_of_walk cells (k ∷ ks) some = refl

pub value_of_nothing : (cells : List Cell) → value_of cells [] ≡ None
unfolding value_of
value_of_nothing cells = refl

pub no_value_by_stop : (cells : List Cell) (key : List ℕ) (i s c : ℕ) → 0 < length key → i < length (codes_of key) → get_or (codes_of key) i 0 ≡ c → walk cells 0 (take i (codes_of key)) ≡ Some s → step cells s c ≡ None → value_of cells key ≡ None
no_value_by_stop cells key i s c some less at led none = value_of_walk cells key some ∙ ap (option_and_then (λ (t : ℕ). value_in (base cells t))) (walk_stops cells (codes_of key) i s c less at led none)

last_step : (cells : List Cell) (s : ℕ) (o : Option ℕ) → option_and_then (λ (t : ℕ). walk cells t []) o ≡ o
unfolding walk
last_step cells s None = refl
last_step cells s (Some t) = refl

pub walk_last : (cells : List Cell) (s c : ℕ) → walk cells s (c ∷ []) ≡ step cells s c
unfolding walk
walk_last cells s c = last_step cells s (step cells s c)

pub codes_end : (key : List ℕ) → codes_of key ≡ take (length key) (codes_of key) ++ 0 ∷ []
codes_end key =
    let codes = codes_of key in
    let less : length key < length codes = let e = length-codes_of key in omega (arith, e) in
    let ends : drop (length key + 1) codes ≡ [] = drop_all (length key + 1) codes (let e = length-codes_of key in omega (arith, e)) in
    split_at codes (length key) less ∙ ap (λ c. take (length key) codes ++ c ∷ drop (length key + 1) codes) (code_of_end key) ∙ ap (λ (xs : List ℕ). take (length key) codes ++ 0 ∷ xs) ends

-- what the state of all bytes holds at the key's end
pub value_by_end : (cells : List Cell) (key : List ℕ) (s : ℕ) → 0 < length key → walk cells 0 (take (length key) (codes_of key)) ≡ Some s → value_of cells key ≡ option_and_then (λ (t : ℕ). value_in (base cells t)) (step cells s 0)
value_by_end cells key s some led =
    let codes = codes_of key in
    let walked : walk cells 0 codes ≡ step cells s 0 =
    ap (walk cells 0) (codes_end key) ∙ walk_append cells 0 (take (length key) codes) (0 ∷ []) s led ∙ walk_last cells s 0 in
    value_of_walk cells key some ∙ ap (option_and_then (λ (t : ℕ). value_in (base cells t))) walked
