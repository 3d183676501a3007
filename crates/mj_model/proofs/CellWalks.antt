-- Steps and walks over the cells of a double array, and the values that they lead to.
use Rattle.std.proofs.Common.{◌≡◌, ℕ, zero, suc, ◌+◌, ◌<◌, ◌≤◌, ℤ, pos, negsuc, ◌+ℤ◌, Bool, cond, eqb, List, [], ◌∷◌, ◌++◌, reverse, length, Option, Some, None, inl, inr, sym, ap, ◌∙◌, refl, arith, subst}
use Rattle.std.specs.Option.{option_and_then}
use Rattle.std.proofs.lemmas.Bool.{cases_lt, eqb-true, eq-eqb}
use Rattle.std.proofs.lemmas.Option.{same_Some, none-some, option_and_then_some, cond_some}
use Rattle.std.proofs.lemmas.List.{get_or_past, reverse-reverse, length-append}
use Rattle.mj_model.specs.CellMap.{Cell, free_cell, base, check, if_named, step_to, step, walk, codes_of, value_in, value_of}
use Rattle.mj_model.specs.CellRules.{IsBaseAfter, IsUsed, MeetsRules, LeadsToRoot}
use Rattle.mj_model.specs.CellRules.LeadsToRoot.{at_root, by_check}
use Rattle.mj_model.proofs.Basics.{same_pos}

-- ---- steps

if_named_parts : (z : ℤ) (s t u : ℕ) → if_named z s t ≡ Some u → (z ≡ pos s) × (t ≡ u)
if_named_parts (pos k) s t u h = let r = cond_some (eqb k s) t u h in (ap pos (eqb-true k s r.0), r.1)
if_named_parts (negsuc k) s t u h = absurd (none-some u h)

step_to_parts : (cells : List Cell) (s : ℕ) (z : ℤ) (t : ℕ) → step_to cells s z ≡ Some t → (z ≡ pos t) × (check cells t ≡ pos s)
step_to_parts cells s (pos k) t h =
    let r = if_named_parts (check cells k) s k t h in
    (ap pos r.1, subst (λ (i : ℕ). check cells i ≡ pos s) r.1 r.0)
step_to_parts cells s (negsuc k) t h = absurd (none-some t h)

step_to_from : (cells : List Cell) (s : ℕ) (z : ℤ) (t : ℕ) → z ≡ pos t → check cells t ≡ pos s → step_to cells s z ≡ Some t
step_to_from cells s z t at named =
    ap (step_to cells s) at ∙ ap (λ (k : ℤ). if_named k s t) named ∙ ap (λ (b : Bool). cond b (Some t) None) (eq-eqb s s refl)

-- what a step is
pub step_parts : (cells : List Cell) (s c t : ℕ) → step cells s c ≡ Some t → (base cells s +ℤ pos c ≡ pos t) × (check cells t ≡ pos s)
unfolding step
step_parts cells s c t h = step_to_parts cells s (base cells s +ℤ pos c) t h

pub step_from : (cells : List Cell) (s c t : ℕ) → base cells s +ℤ pos c ≡ pos t → check cells t ≡ pos s → step cells s c ≡ Some t
unfolding step
step_from cells s c t at named = step_to_from cells s (base cells s +ℤ pos c) t at named

-- the result of a step from a state with a known base
pub step_place : (cells : List Cell) (s c t b : ℕ) → step cells s c ≡ Some t → base cells s ≡ pos b → t ≡ b + c
step_place cells s c t b h at = sym (same_pos (b + c) t (sym (ap (λ (z : ℤ). z +ℤ pos c) at) ∙ (step_parts cells s c t h).0))

pub step_named : (cells : List Cell) (s c t : ℕ) → step cells s c ≡ Some t → check cells t ≡ pos s
step_named cells s c t h = (step_parts cells s c t h).1

pub step_at : (cells : List Cell) (s c t b : ℕ) → base cells s ≡ pos b → t ≡ b + c → check cells t ≡ pos s → step cells s c ≡ Some t
step_at cells s c t b at place named = step_from cells s c t (ap (λ (z : ℤ). z +ℤ pos c) at ∙ ap pos (sym place)) named

-- ---- named cells

pub named_within : (cells : List Cell) (t s : ℕ) → check cells t ≡ pos s → t < length cells
named_within cells t s named = elim (cases_lt t (length cells)) [
  | inl less ↦ less
  | inr past ↦ let e : check cells t ≡ negsuc 0 = ap (λ (x : Cell). x.1) (get_or_past cells t free_cell past) in absurd (cc)
]

-- a cell whose check is a state: the state has a base of at least 1, and the cell lies one code
-- after it
pub record IsChild (values : ℕ) (cells : List Cell) (s t : ℕ) : Type 0 where
  pub from : ℕ
  pub code : ℕ
  pub within : s < length cells
  pub based : base cells s ≡ pos from
  pub positive : 1 ≤ from
  pub near : code ≤ 256
  pub place : t ≡ from + code
  pub holds : IsBaseAfter values code (base cells t)
  pub led : step cells s code ≡ Some t

child_used : (values : ℕ) (cells : List Cell) (s t : ℕ) → check cells t ≡ pos s → IsUsed values cells t → IsChild values cells s t
child_used values cells s t named u =
    let same : u.state ≡ s = same_pos u.state s (sym u.named ∙ named) in
    let based : base cells s ≡ pos u.from = subst (λ (i : ℕ). base cells i ≡ pos u.from) same u.based in
    record {
      from = u.from;
      code = u.code;
      within = subst (λ (i : ℕ). i < length cells) same u.within;
      based = based;
      positive = u.positive;
      near = u.near;
      place = u.place;
      holds = u.holds;
      led = step_at cells s u.code t u.from based u.place named;
    }

pub child_of : (values : ℕ) (cells : List Cell) (s t : ℕ) → MeetsRules values cells → check cells t ≡ pos s → IsChild values cells s t
child_of values cells s zero rules named = absurd (let r = rules.root_check in cc)
child_of values cells s (suc k) rules named = elim (rules.others (suc k) (omega arith) (named_within cells (suc k) s named)) [
  | inl free ↦ absurd (let e : check cells (suc k) ≡ negsuc 0 = ap (λ (x : Cell). x.1) free in cc)
  | inr used ↦ child_used values cells s (suc k) named used
]

-- a step's code is near, and its cell's base is by the code
pub step_child : (values : ℕ) (cells : List Cell) (s c t : ℕ) → MeetsRules values cells → step cells s c ≡ Some t → (c ≤ 256) × IsBaseAfter values c (base cells t)
step_child values cells s c t rules h =
    let i = child_of values cells s t rules (step_named cells s c t h) in
    let place = step_place cells s c t i.from h i.based in
    let same : i.code ≡ c = let p = i.place in omega (arith, p, place) in
    (subst (λ (k : ℕ). k ≤ 256) same i.near, subst (λ (k : ℕ). IsBaseAfter values k (base cells t)) same i.holds)

-- ---- walks

pub walk_one : (cells : List Cell) (s c : ℕ) (cs : List ℕ) (u : ℕ) → step cells s c ≡ Some u → walk cells s (c ∷ cs) ≡ walk cells u cs
unfolding walk
walk_one cells s c cs u h = ap (option_and_then (λ (t : ℕ). walk cells t cs)) h

pub walk_none : (cells : List Cell) (s : ℕ) → walk cells s [] ≡ Some s
unfolding walk
walk_none cells s = refl

-- the first step of a walk
pub walk_first : (cells : List Cell) (s c : ℕ) (cs : List ℕ) (t : ℕ) → walk cells s (c ∷ cs) ≡ Some t → (u : ℕ) × (step cells s c ≡ Some u) × (walk cells u cs ≡ Some t)
unfolding walk
walk_first cells s c cs t h = option_and_then_some (λ (u : ℕ). walk cells u cs) (step cells s c) t h (λ u e k. (u, e, k))

pub walk_append : (cells : List Cell) (s : ℕ) (xs ys : List ℕ) (u : ℕ) → walk cells s xs ≡ Some u → walk cells s (xs ++ ys) ≡ walk cells u ys
walk_append cells s [] ys u h = ap (λ (i : ℕ). walk cells i ys) (same_Some s u (sym (walk_none cells s) ∙ h))
walk_append cells s (c ∷ xs) ys u h =
    let r = walk_first cells s c xs u h in
    walk_one cells s c (xs ++ ys) r.0 r.1 ∙ walk_append cells r.0 xs ys u r.2

pub walk_more : (cells : List Cell) (xs : List ℕ) (s c t : ℕ) → walk cells 0 xs ≡ Some s → step cells s c ≡ Some t → walk cells 0 (xs ++ c ∷ []) ≡ Some t
walk_more cells xs s c t h k = walk_append cells 0 xs (c ∷ []) s h ∙ walk_one cells s c [] t k ∙ walk_none cells t

-- the checks lead back along a walk
pub leads_on : (cells : List Cell) (s : ℕ) (cs : List ℕ) (t : ℕ) → LeadsToRoot cells s → walk cells s cs ≡ Some t → LeadsToRoot cells t
leads_on cells s [] t l h = subst (LeadsToRoot cells) (same_Some s t (sym (walk_none cells s) ∙ h)) l
leads_on cells s (c ∷ cs) t l h =
    let r = walk_first cells s c cs t h in
    leads_on cells r.0 cs t (by_check (step_named cells s c r.0 r.1) l) r.2

pub leads_back : (cells : List Cell) (cs : List ℕ) (t : ℕ) → walk cells 0 cs ≡ Some t → LeadsToRoot cells t
leads_back cells cs t h = leads_on cells 0 cs t at_root h

-- ---- one walk leads to a cell: walks by their last step first

abbrev onto : List ℕ → List ℕ → List ℕ
onto rs [] = rs
onto rs (c ∷ cs) = onto (c ∷ rs) cs

abbrev BackFrom : List Cell → List ℕ → ℕ → Type 0
BackFrom cells [] t = t ≡ 0
BackFrom cells (c ∷ cs) t = (s : ℕ) × BackFrom cells cs s × (step cells s c ≡ Some t)

back_on : (cells : List Cell) (rs : List ℕ) (s : ℕ) (cs : List ℕ) (t : ℕ) → BackFrom cells rs s → walk cells s cs ≡ Some t → BackFrom cells (onto rs cs) t
back_on cells rs s [] t b h = subst (BackFrom cells rs) (same_Some s t (sym (walk_none cells s) ∙ h)) b
back_on cells rs s (c ∷ cs) t b h =
    let r = walk_first cells s c cs t h in
    back_on cells (c ∷ rs) r.0 cs t (s, b, r.1) r.2

back_is_one : (values : ℕ) (cells : List Cell) (xs ys : List ℕ) (t : ℕ) → MeetsRules values cells → BackFrom cells xs t → BackFrom cells ys t → xs ≡ ys
back_is_one values cells [] [] t rules a b = refl
back_is_one values cells [] (d ∷ ds) t rules a b =
    absurd (let r = rules.root_check in let e : check cells 0 ≡ pos b.0 = subst (λ (i : ℕ). check cells i ≡ pos b.0) a (step_named cells b.0 d t b.2) in cc)
back_is_one values cells (c ∷ cs) [] t rules a b =
    absurd (let r = rules.root_check in let e : check cells 0 ≡ pos a.0 = subst (λ (i : ℕ). check cells i ≡ pos a.0) b (step_named cells a.0 c t a.2) in cc)
back_is_one values cells (c ∷ cs) (d ∷ ds) t rules a b =
    let named = step_named cells a.0 c t a.2 in
    let same : b.0 ≡ a.0 = same_pos b.0 a.0 (sym (step_named cells b.0 d t b.2) ∙ named) in
    let i = child_of values cells a.0 t rules named in
    let other : step cells a.0 d ≡ Some t = subst (λ (s : ℕ). step cells s d ≡ Some t) same b.2 in
    let one : c ≡ d = let p = step_place cells a.0 c t i.from a.2 i.based in let q = step_place cells a.0 d t i.from other i.based in omega (arith, p, q) in
    let rest : cs ≡ ds = back_is_one values cells cs ds a.0 rules a.1 (subst (BackFrom cells ds) same b.1) in
    cc

turned : (xs : List ℕ) → reverse xs ≡ onto [] xs
turned xs = refl

-- the codes that lead from the root to a cell are these alone
pub walk_is_one : (values : ℕ) (cells : List Cell) (xs ys : List ℕ) (t : ℕ) → MeetsRules values cells → walk cells 0 xs ≡ Some t → walk cells 0 ys ≡ Some t → xs ≡ ys
walk_is_one values cells xs ys t rules a b =
    let same : onto [] xs ≡ onto [] ys = back_is_one values cells (onto [] xs) (onto [] ys) t rules (back_on cells [] 0 xs t refl a) (back_on cells [] 0 ys t refl b) in
    sym (reverse-reverse xs) ∙ ap reverse (turned xs ∙ same ∙ sym (turned ys)) ∙ reverse-reverse ys

-- no walk leads from a cell to itself
pub no_way_back : (values : ℕ) (cells : List Cell) (xs : List ℕ) (s c : ℕ) (cs : List ℕ) → MeetsRules values cells → walk cells 0 xs ≡ Some s → walk cells s (c ∷ cs) ≡ Some s → ⊥
no_way_back values cells xs s c cs rules a b =
    let round : walk cells 0 (xs ++ c ∷ cs) ≡ Some s = walk_append cells 0 xs (c ∷ cs) s a ∙ b in
    let same : xs ≡ xs ++ c ∷ cs = walk_is_one values cells xs (xs ++ c ∷ cs) s rules a round in
    let longer : length xs ≡ length xs + suc (length cs) = ap length same ∙ length-append xs (c ∷ cs) in
    omega (arith, longer)

-- ---- values

value_in_parts : (z : ℤ) (v : ℕ) → value_in z ≡ Some v → z ≡ negsuc v
value_in_parts (pos b) v h = absurd (none-some v h)
value_in_parts (negsuc k) v h = ap negsuc (same_Some k v h)

-- the cell of a key's value
pub record IsValueAt (cells : List Cell) (key : List ℕ) (value t : ℕ) : Type 0 where
  pub some : 0 < length key
  pub led : walk cells 0 (codes_of key) ≡ Some t
  pub holds : base cells t ≡ negsuc value

pub value_parts : (cells : List Cell) (key : List ℕ) (value : ℕ) → value_of cells key ≡ Some value → (t : ℕ) × IsValueAt cells key value t
unfolding value_of
value_parts cells [] value h = absurd (none-some value h)
value_parts cells (k ∷ ks) value h =
    option_and_then_some (λ (t : ℕ). value_in (base cells t)) (walk cells 0 (codes_of (k ∷ ks))) value h
    (λ t e v. (t, record { some = omega arith; led = e; holds = value_in_parts (base cells t) value v }))

pub value_from : (cells : List Cell) (key : List ℕ) (value t : ℕ) → IsValueAt cells key value t → value_of cells key ≡ Some value
unfolding value_of
value_from cells [] value t i = absurd (let s = i.some in omega (arith, s))
value_from cells (k ∷ ks) value t i = ap (option_and_then (λ (u : ℕ). value_in (base cells u))) i.led ∙ ap value_in i.holds

same_options : (o p : Option ℕ) → ((v : ℕ) → o ≡ Some v → p ≡ Some v) → ((v : ℕ) → p ≡ Some v → o ≡ Some v) → p ≡ o
same_options None None f g = refl
same_options None (Some x) f g = sym (g x refl)
same_options (Some x) p f g = f x refl

pub same_value : (old new : List Cell) (key : List ℕ) → ((v : ℕ) → value_of old key ≡ Some v → value_of new key ≡ Some v) → ((v : ℕ) → value_of new key ≡ Some v → value_of old key ≡ Some v) → value_of new key ≡ value_of old key
same_value old new key f g = same_options (value_of old key) (value_of new key) f g

-- a key of no value
pub no_value : (cells : List Cell) (key : List ℕ) → ((v : ℕ) → value_of cells key ≡ Some v → ⊥) → value_of cells key ≡ None
no_value cells key h = same_options None (value_of cells key) (λ v e. absurd (none-some v e)) (λ v e. absurd (h v e))
