-- Lists in the same strict order with the same elements are equal, and so are lists of marks of the
-- same things.
use Rattle.std.proofs.Common.{◌≡◌, ℕ, zero, suc, ◌<◌, List, [], ◌∷◌, Bool, true, false, Some, refl, sym, ◌∙◌, subst, arith, slice_get}
use Rattle.std.specs.Prelude.{◌↔◌}
use Rattle.std.proofs.lemmas.Option.{same_Some}

-- the first list has each element of the second one
abbrev pub HasAll : {A : Type 0} → List A → List A → Type 0
HasAll {A = A} xs ys = (i : ℕ) (x : A) → slice_get ys i ≡ Some x → (k : ℕ) × (slice_get xs k ≡ Some x)

module _ {A : Type 0} (Before : A → A → Type 0) (one_way : (x y : A) → Before x y → Before y x → ⊥) where
  abbrev pub InOrder : List A → Type 0
  InOrder xs = (i j : ℕ) (x y : A) → i < j → slice_get xs i ≡ Some x → slice_get xs j ≡ Some y → Before x y

  -- the head of each is an element of the other
  one_head : (x y : A) (xs ys : List A) (k l : ℕ) → InOrder (x ∷ xs) → InOrder (y ∷ ys) → slice_get (y ∷ ys) k ≡ Some x → slice_get (x ∷ xs) l ≡ Some y → x ≡ y
  one_head x y xs ys zero l a b here there = sym (same_Some y x here)
  one_head x y xs ys (suc k) zero a b here there = same_Some x y there
  one_head x y xs ys (suc k) (suc l) a b here there =
      absurd (one_way x y (a 0 (suc l) x y (omega arith) refl there) (b 0 (suc k) y x (omega arith) refl here))

  -- an element after the head of the second list comes after the head of the first, because the
  -- heads are equal
  at_rest : (x y z : A) (xs ys : List A) (i k : ℕ) → x ≡ y → InOrder (y ∷ ys) → slice_get ys i ≡ Some z → slice_get (x ∷ xs) k ≡ Some z → (l : ℕ) × (slice_get xs l ≡ Some z)
  at_rest x y z xs ys i zero same b at here =
      let before : Before y z = b 0 (suc i) y z (omega arith) refl at in
      let is : z ≡ y = sym (same_Some x z here) ∙ same in
      let itself : Before y y = subst (Before y) is before in
      absurd (one_way y y itself itself)
  at_rest x y z xs ys i (suc k) same b at here = (k, here)

  rest_all : (x y : A) (xs ys : List A) → x ≡ y → InOrder (y ∷ ys) → HasAll (x ∷ xs) (y ∷ ys) → HasAll xs ys
  rest_all x y xs ys same b all i z at = let found = all (suc i) z at in at_rest x y z xs ys i found.0 same b at found.1

  pub one_list : (xs ys : List A) → InOrder xs → InOrder ys → HasAll xs ys → HasAll ys xs → xs ≡ ys
  one_list [] [] a b xs_has ys_has = refl
  one_list [] (y ∷ ys) a b xs_has ys_has = let e = (xs_has 0 y refl).1 in absurd (cc)
  one_list (x ∷ xs) [] a b xs_has ys_has = let e = (ys_has 0 x refl).1 in absurd (cc)
  one_list (x ∷ xs) (y ∷ ys) a b xs_has ys_has =
      let first = ys_has 0 x refl in
      let second = xs_has 0 y refl in
      let same : x ≡ y = one_head x y xs ys first.0 second.0 a b first.1 second.1 in
      let more : xs ≡ ys =
      one_list xs ys (λ i j v w low. a (suc i) (suc j) v w (omega (arith, low))) (λ i j v w low. b (suc i) (suc j) v w (omega (arith, low)))
      (rest_all x y xs ys same b xs_has) (rest_all y x ys xs (sym same) a ys_has) in
      λ i. same i ∷ more i

-- two marks of one fact
pub one_mark : {P : Type 0} (a b : Bool) → (a ≡ true) ↔ P → (b ≡ true) ↔ P → b ≡ a
one_mark true true h k = refl
one_mark true false h k = k.1 (h.0 refl)
one_mark false true h k = sym (h.1 (k.0 refl))
one_mark false false h k = refl
