-- Lists that are joined, and lists with one element written, by index.
use Rattle.std.proofs.Common.{◌≡◌, ℕ, zero, suc, ◌+◌, ◌<◌, List, [], ◌∷◌, ◌++◌, length, set, Some, ◌⊎◌, inl, inr, sym, subst, ap, ◌∙◌, arith, slice_get}
use Rattle.std.proofs.lemmas.Bool.{cases_eq}
use Rattle.std.proofs.lemmas.List.{length-set, get_or-set_same, get_or-set_other}
use Rattle.std.proofs.lemmas.Option.{get_or_from_slice_get, same_Some, slice_get-get_or, slice_get_within}

-- an element of two lists joined is one of the first or one of the second
pub get_joined : {X : Type 0} (xs ys : List X) (i : ℕ) (x : X) → slice_get (xs ++ ys) i ≡ Some x → (slice_get xs i ≡ Some x) ⊎ ((j : ℕ) × (i ≡ length xs + j) × (slice_get ys j ≡ Some x))
get_joined [] ys i x h = inr (i, omega arith, h)
get_joined (y ∷ xs) ys zero x h = inl h
get_joined (y ∷ xs) ys (suc i) x h = elim (get_joined xs ys i x h) [ inl a ↦ inl a | inr b ↦ inr (b.0, (let e = b.1 in omega (arith, e)), b.2) ]

pub get_first : {X : Type 0} (xs ys : List X) (i : ℕ) (x : X) → slice_get xs i ≡ Some x → slice_get (xs ++ ys) i ≡ Some x
get_first [] ys i x h = absurd (cc)
get_first (y ∷ xs) ys zero x h = h
get_first (y ∷ xs) ys (suc i) x h = get_first xs ys i x h

pub get_second : {X : Type 0} (xs ys : List X) (j : ℕ) (x : X) → slice_get ys j ≡ Some x → slice_get (xs ++ ys) (length xs + j) ≡ Some x
get_second [] ys j x h = let e : j ≡ 0 + j = omega arith in subst (λ (k : ℕ). slice_get ys k ≡ Some x) e h
get_second (y ∷ xs) ys j x h =
    let e : suc (length xs + j) ≡ length (y ∷ xs) + j = omega arith in
    subst (λ (k : ℕ). slice_get ((y ∷ xs) ++ ys) k ≡ Some x) e (get_second xs ys j x h)

pub set_here : {X : Type 0} (xs : List X) (i : ℕ) (x : X) → i < length xs → slice_get (set xs i x) i ≡ Some x
set_here xs i x within = slice_get-get_or (set xs i x) i x (omega (arith, within, length-set xs i x)) ∙ ap Some (get_or-set_same xs i x x within)

pub set_elsewhere : {X : Type 0} (xs : List X) (i j : ℕ) (x y : X) → (j ≡ i → ⊥) → slice_get xs j ≡ Some y → slice_get (set xs i x) j ≡ Some y
set_elsewhere xs i j x y differs at =
    let within = slice_get_within xs j y at in
    slice_get-get_or (set xs i x) j y (omega (arith, within, length-set xs i x)) ∙ ap Some (get_or-set_other xs i j x y differs ∙ get_or_from_slice_get xs j y y at)

-- an element after one was written is the written one, or it was there
pub get_written : {X : Type 0} (xs : List X) (i j : ℕ) (x y : X) → slice_get (set xs i x) j ≡ Some y → ((j ≡ i) × (x ≡ y)) ⊎ ((j ≡ i → ⊥) × (slice_get xs j ≡ Some y))
get_written xs i j x y at =
    let low = slice_get_within (set xs i x) j y at in
    let within : j < length xs = omega (arith, low, length-set xs i x) in
    elim (cases_eq j i) [
      | inl same ↦
          let there : i < length xs = omega (arith, within, same) in
          inl (same, same_Some x y (sym (set_here xs i x there) ∙ ap (slice_get (set xs i x)) (sym same) ∙ at))
      | inr other ↦ inr (other, slice_get-get_or xs j y within ∙ ap Some (sym (get_or-set_other xs i j x y other) ∙ get_or_from_slice_get (set xs i x) j y y at))
    ]
