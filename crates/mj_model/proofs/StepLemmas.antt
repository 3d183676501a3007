-- What a single read determines about a step.
use Rattle.std.proofs.Common.{◌≡◌, ℕ, zero, suc, ◌+◌, ◌<◌, ◌^◌, ◌≤◌, ℤ, pos, negsuc, ◌+ℤ◌, ◌-ℤ◌, List, length, get_or, Option, Some, None, slice_get, inl, inr, sym, ap, ◌∙◌, refl, arith, subst, to_z, of_z, w32, Fits}
use Rattle.std.specs.Option.{option_and_then}
use lib.Signed.{non_neg}
use lib.IntN.{nat_abs}
use lib.Dec.{T}
use mir.Val.{SFits}
use Rattle.std.proofs.lemmas.Int.{ints, to_z-of_z}
use Rattle.std.proofs.lemmas.Bool.{cases_lt}
use Rattle.std.proofs.lemmas.Option.{none-some, slice_get-get_or, get_or_from_slice_get}
use Rattle.std.proofs.lemmas.List.{get_or_past}
use Rattle.mj_model.specs.CellMap.{Cell, free_cell, cell_at, base, check, step, value_in}
use Rattle.mj_model.specs.CellRules.{IsBaseAfter, MeetsRules, AreCells}
use Rattle.mj_model.specs.Steps.{IsSmall}
use Rattle.mj_model.proofs.CellWalks.{step_named, step_place, step_at, step_child}

-- what is not there is as a free cell
pub cell_missing : (cells : List Cell) (i : ℕ) → None ≡ slice_get cells i → cell_at cells i ≡ free_cell
cell_missing cells i e = elim (cases_lt i (length cells)) [
  | inl within ↦ absurd (none-some (get_or cells i free_cell) (e ∙ slice_get-get_or cells i free_cell within))
  | inr past ↦ get_or_past cells i free_cell past
]

pub cell_read : (cells : List Cell) (i : ℕ) (x : Cell) → Some x ≡ slice_get cells i → cell_at cells i ≡ x
cell_read cells i x e = get_or_from_slice_get cells i x free_cell (sym e)

pub no_child_there : (cells : List Cell) (i state : ℕ) → None ≡ slice_get cells i → check cells i ≡ pos state → ⊥
no_child_there cells i state e named = let k : check cells i ≡ negsuc 0 = ap (λ (x : Cell). x.1) (cell_missing cells i e) in cc

-- no check is below -2
least_check : (values : ℕ) (cells : List Cell) (i k : ℕ) → MeetsRules values cells → check cells i ≡ negsuc k → k ≤ 1
least_check values cells zero k rules below = let e = rules.root_check in let same : negsuc k ≡ negsuc 1 = sym below ∙ e in omega (arith, ap nat_abs same)
least_check values cells (suc i) k rules below = elim (cases_lt (suc i) (length cells)) [
  | inl within ↦ elim (rules.others (suc i) (omega arith) within) [
    | inl free ↦ of_free free
    | inr used ↦ absurd (let named = used.named in cc)
  ]
  | inr past ↦ of_free (get_or_past cells (suc i) free_cell past)
] where
  of_free : cell_at cells (suc i) ≡ free_cell → k ≤ 1
  of_free free = let same : negsuc k ≡ negsuc 0 = sym below ∙ ap (λ (x : Cell). x.1) free in omega (arith, ap nat_abs same)

state_of_bits : (z : ℤ) (state : ℕ) → ((k : ℕ) → z ≡ negsuc k → k ≤ 1) → SFits w32 z → IsSmall state → of_z w32 z ≡ state → z ≡ pos state
state_of_bits (pos n) state least fits small same = let e : n ≡ state = grind (arith, ints) in ap pos e
state_of_bits (negsuc k) state least fits small same = let few = least k refl in absurd (grind (arith, ints))

pub child_there : (cells : List Cell) (i state : ℕ) (b k : ℤ) → AreCells cells → Some (b, k) ≡ slice_get cells i → of_z w32 k ≡ state → IsSmall state → SFits w32 b → SFits w32 k
    → (check cells i ≡ pos state) × (base cells i ≡ to_z w32 (of_z w32 b))
child_there cells i state b k are e same small fb fk =
    let at = cell_read cells i (b, k) e in
    let here : check cells i ≡ k = ap (λ (x : Cell). x.1) at in
    (here ∙ state_of_bits k state (λ n below. least_check are.0 cells i n are.1 (here ∙ below)) fk small same, ap (λ (x : Cell). x.0) at ∙ sym (to_z-of_z w32 b fb))

-- a cell of another check
pub other_check : (cells : List Cell) (i state : ℕ) (b k : ℤ) → Some (b, k) ≡ slice_get cells i → (of_z w32 k ≡ state → ⊥) → IsSmall state → check cells i ≡ pos state → ⊥
other_check cells i state b k e other small named =
    let here : k ≡ pos state = sym (ap (λ (x : Cell). x.1) (cell_read cells i (b, k) e)) ∙ named in
    other (ap (of_z w32) here ∙ (let bits : of_z w32 (pos state) ≡ state = grind (arith, ints) in bits))

-- ---- steps

pub no_step : (cells : List Cell) (state c i b : ℕ) → base cells state ≡ pos b → i ≡ b + c → (check cells i ≡ pos state → ⊥) → step cells state c ≡ None
no_step cells state c i b at place none = none_of (step cells state c) (λ t e. none (subst (λ (k : ℕ). check cells k ≡ pos state) (step_place cells state c t b e at ∙ sym place) (step_named cells state c t e))) where
  none_of : (o : Option ℕ) → ((t : ℕ) → o ≡ Some t → ⊥) → o ≡ None
  none_of None h = refl
  none_of (Some t) h = absurd (h t refl)

positive_base : (values c : ℕ) (z : ℤ) → IsBaseAfter values (suc c) z → z ≡ pos (nat_abs z)
positive_base values c z h = h.2 ∙ ap (λ (k : ℤ). pos (nat_abs k)) (sym h.2)

-- the step on a byte
pub byte_step : (cells : List Cell) (state byte b : ℕ) (z : ℤ) → AreCells cells → base cells state ≡ pos b → check cells (b + byte + 1) ≡ pos state → base cells (b + byte + 1) ≡ z
    → (step cells state (byte + 1) ≡ Some (b + byte + 1)) × (base cells (b + byte + 1) ≡ pos (nat_abs z))
byte_step cells state byte b z are at named holds =
    let t = b + byte + 1 in
    let led : step cells state (byte + 1) ≡ Some t = step_at cells state (byte + 1) t b at (omega arith) named in
    let content : IsBaseAfter are.0 (byte + 1) (base cells t) = (step_child are.0 cells state (byte + 1) t are.1 led).1 in
    let more : byte + 1 ≡ suc byte = omega arith in
    let positive : base cells t ≡ pos (nat_abs (base cells t)) = positive_base are.0 byte (base cells t) (subst (λ (k : ℕ). IsBaseAfter are.0 k (base cells t)) more content) in
    (led, positive ∙ ap (λ (k : ℤ). pos (nat_abs k)) holds)

-- a base of at least 0 that was read
pub low_base : (z : ℤ) (b : ℕ) → z ≡ pos b → SFits w32 z → nat_abs (to_z w32 (of_z w32 z)) < 2 ^ 31
low_base z b e fits = grind (arith, ints)

-- the value at a state's end
pub end_step : (cells : List Cell) (state b : ℕ) (z : ℤ) → AreCells cells → base cells state ≡ pos b → check cells b ≡ pos state → base cells b ≡ z
    → (v : ℕ) × (z ≡ negsuc v) × (option_and_then (λ (t : ℕ). value_in (base cells t)) (step cells state 0) ≡ Some v)
end_step cells state b z are at named holds =
    let led : step cells state 0 ≡ Some b = step_at cells state 0 b b at (omega arith) named in
    let content = (step_child are.0 cells state 0 b are.1 led).1 in
    (content.0, sym holds ∙ content.2, ap (option_and_then (λ (t : ℕ). value_in (base cells t))) led ∙ ap value_in content.2)

-- ---- the value of a base

pub reported_value : (z : ℤ) (v : ℕ) → z ≡ negsuc v → SFits w32 z → nat_abs (to_z w32 (of_z w32 (pos 0 -ℤ to_z w32 (of_z w32 (to_z w32 (of_z w32 z) +ℤ pos 1))))) ≡ v
reported_value z v e fits = grind (arith, ints)

pub reported_value_fits : (z : ℤ) (v : ℕ) → z ≡ negsuc v → SFits w32 z
    → T (non_neg (to_z w32 (of_z w32 (pos 0 -ℤ to_z w32 (of_z w32 (to_z w32 (of_z w32 z) +ℤ pos 1)))))) × Fits w32 (nat_abs (to_z w32 (of_z w32 (pos 0 -ℤ to_z w32 (of_z w32 (to_z w32 (of_z w32 z) +ℤ pos 1))))))
reported_value_fits z v e fits = grind (arith, ints)
