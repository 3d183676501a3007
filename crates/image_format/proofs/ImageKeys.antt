-- The key of a group is the one key whose value is the group: the steps of its codes, gone back by the checks from the cell that
-- holds the group's value, are those of its bytes.
use Rattle.std.proofs.Common.{◌≡◌, ℕ, zero, suc, ◌+◌, ◌-◌, ◌<◌, ◌≤◌, ℤ, pos, negsuc, true, List, [], ◌∷◌, ◌++◌, append_assoc, append-nil, length, map, Some, inl, inr, sym, ap, ◌∙◌, refl, arith, subst}
use Rattle.std.specs.Option.{option_map_or}
use Rattle.std.proofs.lemmas.Bool.{cases_lt, eqb-true, eq-eqb, false_from_ne_true}
use Rattle.std.proofs.lemmas.Option.{same_Some}
use Rattle.std.proofs.lemmas.List.{get_or_past}
use Rattle.std.proofs.lemmas.List.Sums.{position_or_len_is}
use Rattle.mj_model.specs.declared.limits.TheConstants.{SURFACE_MAX}
use Rattle.mj_model.specs.CellMap.{Cell, free_cell, cell_at, base, check, step, walk, codes_of}
use Rattle.mj_model.specs.CellRules.{MeetsRules}
use Rattle.image_format.specs.ImageSections.{OccursOnce, IsKeyOf, state_in, byte_after, bytes_to, is_value, value_cell, key_of}
use Rattle.mj_model.proofs.CellWalks.{step_place, step_named, child_of, walk_one, walk_none, walk_first, value_parts}

-- ---- walks in two parts

pub walk_split : (cells : List Cell) (s : ℕ) (xs ys : List ℕ) (t : ℕ) → walk cells s (xs ++ ys) ≡ Some t → (u : ℕ) × (walk cells s xs ≡ Some u) × (walk cells u ys ≡ Some t)
walk_split cells s [] ys t h = (s, walk_none cells s, h)
walk_split cells s (c ∷ xs) ys t h =
    let r = walk_first cells s c (xs ++ ys) t h in
    let q = walk_split cells r.0 xs ys t r.2 in
    (q.0, walk_one cells s c xs r.0 r.1 ∙ q.1, q.2)

pub walk_same : (cells : List Cell) (s t : ℕ) → walk cells s [] ≡ Some t → s ≡ t
walk_same cells s t h = same_Some s t (sym (walk_none cells s) ∙ h)

-- the state of a key's bytes, from which code 0 leads to the cell of its value
pub key_state : (cells : List Cell) (key : List ℕ) (t : ℕ) → walk cells 0 (codes_of key) ≡ Some t → (s : ℕ) × (walk cells 0 (map suc key) ≡ Some s) × (step cells s 0 ≡ Some t)
unfolding codes_of
key_state cells key t h =
    let q = walk_split cells 0 (map suc key) (0 ∷ []) t h in
    let r = walk_first cells q.0 0 [] t q.2 in
    (q.0, q.1, subst (λ (u : ℕ). step cells q.0 0 ≡ Some u) (walk_same cells r.0 t r.2) r.1)

-- ---- the way back

bytes_step : (cells : List Cell) (n s t : ℕ) → check cells t ≡ pos s → bytes_to cells (suc n) t ≡ bytes_to cells n s ++ byte_after (base cells s) t ∷ []
unfolding bytes_to
bytes_step cells n s t named = ap (λ (z : ℤ). option_map_or (λ (u : ℕ). bytes_to cells n u ++ byte_after (base cells u) t ∷ []) (state_in z) []) named

bytes_at_root : (cells : List Cell) (n : ℕ) → check cells 0 ≡ negsuc 1 → bytes_to cells n 0 ≡ []
unfolding bytes_to
bytes_at_root cells zero named = refl
bytes_at_root cells (suc n) named = ap (λ (z : ℤ). option_map_or (λ (u : ℕ). bytes_to cells n u ++ byte_after (base cells u) 0 ∷ []) (state_in z) []) named

-- the byte of a step is its code less 1
byte_of_step : (cells : List Cell) (s c t b : ℕ) → step cells s (suc c) ≡ Some t → base cells s ≡ pos b → byte_after (base cells s) t ≡ c
byte_of_step cells s c t b h at =
    let place = step_place cells s (suc c) t b h at in
    let e : t - b - 1 ≡ c = omega (arith, place) in
    ap (λ (z : ℤ). byte_after z t) at ∙ e

-- so many steps back over a walk's bytes, and m more
pub bytes_back : (values : ℕ) (cells : List Cell) (m s t : ℕ) (key : List ℕ) → MeetsRules values cells → walk cells s (map suc key) ≡ Some t → bytes_to cells (length key + m) t ≡ bytes_to cells m s ++ key
bytes_back values cells m s t [] rules h =
    let n : length {A = ℕ} [] + m ≡ m = omega arith in
    ap (λ (k : ℕ). bytes_to cells k t) n ∙ ap (bytes_to cells m) (sym (walk_same cells s t h)) ∙ sym (append-nil (bytes_to cells m s))
bytes_back values cells m s t (c ∷ key) rules h =
    let r = walk_first cells s (suc c) (map suc key) t h in
    let named = step_named cells s (suc c) r.0 r.1 in
    let i = child_of values cells s r.0 rules named in
    let n : suc (length key) + m ≡ length key + suc m = omega arith in
    ap (λ (k : ℕ). bytes_to cells k t) n ∙ bytes_back values cells (suc m) r.0 t key rules r.2
    ∙ ap (λ (front : List ℕ). front ++ key) (bytes_step cells m s r.0 named ∙ ap (λ (byte : ℕ). bytes_to cells m s ++ byte ∷ []) (byte_of_step cells s c r.0 i.from r.1 i.based))
    ∙ append_assoc (bytes_to cells m s) (c ∷ []) key

-- from the state of a key's bytes back to the root, by at least as many steps as there are bytes
pub bytes_of_key : (values : ℕ) (cells : List Cell) (n t : ℕ) (key : List ℕ) → MeetsRules values cells → length key ≤ n → walk cells 0 (map suc key) ≡ Some t → bytes_to cells n t ≡ key
bytes_of_key values cells n t key rules few h =
    let e : n ≡ length key + (n - length key) = omega (arith, few) in
    ap (λ (k : ℕ). bytes_to cells k t) e ∙ bytes_back values cells (n - length key) 0 t key rules h
    ∙ ap (λ (front : List ℕ). front ++ key) (bytes_at_root cells (n - length key) rules.root_check)

-- ---- the cell of a value

is_value_of : (group : ℕ) (cell : Cell) → is_value group cell ≡ true → cell.0 ≡ negsuc group
is_value_of group (pos b, c) h = absurd (cc)
is_value_of group (negsuc v, c) h = ap negsuc (eqb-true v group h)

value_is : (group : ℕ) (cell : Cell) → cell.0 ≡ negsuc group → is_value group cell ≡ true
value_is group (pos b, c) h = absurd (cc)
value_is group (negsuc v, c) h = eq-eqb v group (cc)

value_within : (cells : List Cell) (t v : ℕ) → base cells t ≡ negsuc v → t < length cells
value_within cells t v at = elim (cases_lt t (length cells)) [
  | inl less ↦ less
  | inr past ↦ let e : base cells t ≡ pos 0 = ap (λ (x : Cell). x.0) (get_or_past cells t free_cell past) in absurd (cc)
]

pub value_cell_is : (cells : List Cell) (group t : ℕ) → OccursOnce cells group → base cells t ≡ negsuc group → value_cell cells group ≡ t
value_cell_is cells group t once at =
    let within = value_within cells t group at in
    position_or_len_is (is_value group) cells t free_cell (omega arith)
    (λ k before. false_from_ne_true (is_value group (cell_at cells k)) (λ h. let e = once.only k (is_value_of group (cell_at cells k) h) in let f = once.only t at in omega (arith, before, e, f)))
    (λ less. value_is group (cell_at cells t) at)

-- ---- keys

-- a group's key is found by its cell
pub key_is : (values : ℕ) (cells : List Cell) (group : ℕ) (key : List ℕ) → MeetsRules values cells → OccursOnce cells group → IsKeyOf cells group key → key_of cells group ≡ key
key_is values cells group key rules once is =
    let v = value_parts cells key group is.value in
    let s = key_state cells key v.0 v.1.led in
    ap (λ (t : ℕ). option_map_or (bytes_to cells SURFACE_MAX) (state_in (check cells t)) []) (value_cell_is cells group v.0 once v.1.holds)
    ∙ ap (λ (z : ℤ). option_map_or (bytes_to cells SURFACE_MAX) (state_in z) []) (step_named cells s.0 0 v.0 s.2)
    ∙ bytes_of_key values cells SURFACE_MAX s.0 key rules is.short s.1
