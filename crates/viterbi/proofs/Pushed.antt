-- Lists with one more element at the end, and their elements by number.
use Rattle.std.proofs.Common.{◌≡◌, ℕ, zero, suc, ◌<◌, List, [], ◌∷◌, ◌++◌, length, Contains, Some, ◌⊎◌, inl, inr, refl, ap, ◌∙◌, arith, slice_get}
use Rattle.std.proofs.lemmas.Option.{same_Some, slice_get_within, slice_get-get_or, get_or_from_slice_get}

pub get_push_old : {X : Type 0} (xs : List X) (y : X) (i : ℕ) (x : X) → slice_get xs i ≡ Some x → slice_get (xs ++ y ∷ []) i ≡ Some x
get_push_old [] y i x h = absurd (cc)
get_push_old (z ∷ xs) y zero x h = h
get_push_old (z ∷ xs) y (suc i) x h = get_push_old xs y i x h

pub get_push_new : {X : Type 0} (xs : List X) (y : X) → slice_get (xs ++ y ∷ []) (length xs) ≡ Some y
get_push_new [] y = refl
get_push_new (z ∷ xs) y = get_push_new xs y

-- elements that follow change none
pub get_prefix : {X : Type 0} (xs ys : List X) (i : ℕ) → i < length xs → slice_get (xs ++ ys) i ≡ slice_get xs i
get_prefix [] ys i less = absurd (omega (arith, less))
get_prefix (x ∷ xs) ys zero less = refl
get_prefix (x ∷ xs) ys (suc i) less = get_prefix xs ys i (omega (arith, less))

-- an element is one from before, or the new one
pub get_push_cases : {X : Type 0} (xs : List X) (y : X) (i : ℕ) (x : X) → slice_get (xs ++ y ∷ []) i ≡ Some x → (slice_get xs i ≡ Some x) ⊎ ((i ≡ length xs) × (y ≡ x))
get_push_cases [] y zero x h = inr (refl, same_Some y x h)
get_push_cases [] y (suc i) x h = absurd (cc)
get_push_cases (z ∷ xs) y zero x h = inl h
get_push_cases (z ∷ xs) y (suc i) x h = elim (get_push_cases xs y i x h) [ inl a ↦ inl a | inr b ↦ inr (ap suc b.0, b.1) ]

pub get_from_Contains : {X : Type 0} (xs : List X) (x : X) → Contains xs x → (i : ℕ) × (slice_get xs i ≡ Some x)
get_from_Contains xs x h = (h.0, slice_get-get_or xs h.0 x h.1 ∙ ap Some h.2)

pub Contains_from_get : {X : Type 0} (xs : List X) (i : ℕ) (x : X) → slice_get xs i ≡ Some x → Contains xs x
Contains_from_get xs i x h = (i, slice_get_within xs i x h, get_or_from_slice_get xs i x x h)
