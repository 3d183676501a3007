-- The members of a list, and lists without repeated members, for lists built by ++, map, filter and
-- flat_map.
use Rattle.std.proofs.Common.{◌≡◌, ℕ, zero, suc, ◌<◌, ◌≤◌, Bool, true, false, cond, List, [], ◌∷◌, ◌++◌, map, filter, flat_map, slice_get, Contains, Some, ◌⊎◌, inl, inr, sym, ap, ◌∙◌, refl, arith, subst}
use Rattle.std.specs.List.{AllByRecursion}
use Rattle.std.proofs.lemmas.Option.{same_Some, slice_get-get_or}
use Rattle.mj_model.specs.Lists.{up_to, IsMember, AreDistinct}

-- ---- the members of a list

in_from_get : {X : Type 0} (xs : List X) (i : ℕ) (x : X) → slice_get xs i ≡ Some x → IsMember xs x
in_from_get [] i x h = absurd (cc)
in_from_get (y ∷ ys) zero x h = inl (same_Some y x h)
in_from_get (y ∷ ys) (suc i) x h = inr (in_from_get ys i x h)

pub in_from_Contains : {X : Type 0} (xs : List X) (x : X) → Contains xs x → IsMember xs x
in_from_Contains xs x h = in_from_get xs h.0 x (slice_get-get_or xs h.0 x h.1 ∙ ap Some h.2)

pub in_append : {X : Type 0} (xs ys : List X) (x : X) → IsMember (xs ++ ys) x → IsMember xs x ⊎ IsMember ys x
in_append [] ys x h = inr h
in_append (z ∷ xs) ys x (inl e) = inl (inl e)
in_append (z ∷ xs) ys x (inr h) = elim (in_append xs ys x h) [ inl a ↦ inl (inr a) | inr b ↦ inr b ]

pub append_in : {X : Type 0} (xs ys : List X) (x : X) → IsMember xs x ⊎ IsMember ys x → IsMember (xs ++ ys) x
append_in [] ys x (inl h) = absurd h
append_in [] ys x (inr h) = h
append_in (z ∷ xs) ys x (inl (inl e)) = inl e
append_in (z ∷ xs) ys x (inl (inr h)) = inr (append_in xs ys x (inl h))
append_in (z ∷ xs) ys x (inr h) = inr (append_in xs ys x (inr h))

pub in_map : {X Y : Type 0} (f : X → Y) (xs : List X) (y : Y) → IsMember (map f xs) y → (x : X) × IsMember xs x × (f x ≡ y)
in_map f [] y h = absurd h
in_map f (x ∷ xs) y (inl e) = (x, inl refl, e)
in_map f (x ∷ xs) y (inr h) = let r = in_map f xs y h in (r.0, inr r.1, r.2)

pub map_in : {X Y : Type 0} (f : X → Y) (xs : List X) (x : X) → IsMember xs x → IsMember (map f xs) (f x)
map_in f [] x h = h
map_in f (y ∷ ys) x (inl e) = inl (ap f e)
map_in f (y ∷ ys) x (inr h) = inr (map_in f ys x h)

in_filter_by : {X : Type 0} (p : X → Bool) (y : X) (ys : List X) (x : X) (b : Bool) → p y ≡ b → (IsMember (filter p ys) x → IsMember ys x × (p x ≡ true)) → IsMember (cond b (y ∷ filter p ys) (filter p ys)) x
    → IsMember (y ∷ ys) x × (p x ≡ true)
in_filter_by p y ys x true e rest (inl same) = (inl same, ap p (sym same) ∙ e)
in_filter_by p y ys x true e rest (inr h) = let r = rest h in (inr r.0, r.1)
in_filter_by p y ys x false e rest h = let r = rest h in (inr r.0, r.1)

pub in_filter : {X : Type 0} (p : X → Bool) (xs : List X) (x : X) → IsMember (filter p xs) x → IsMember xs x × (p x ≡ true)
in_filter p [] x h = absurd h
in_filter p (y ∷ ys) x h = in_filter_by p y ys x (p y) refl (in_filter p ys x) h

filter_in_by : {X : Type 0} (p : X → Bool) (y : X) (ys : List X) (x : X) (b : Bool) → p y ≡ b → p x ≡ true → (y ≡ x) ⊎ IsMember (filter p ys) x → IsMember (cond b (y ∷ filter p ys) (filter p ys)) x
filter_in_by p y ys x true e passes h = h
filter_in_by p y ys x false e passes (inl same) = absurd (let f = ap p same in cc)
filter_in_by p y ys x false e passes (inr h) = h

pub filter_in : {X : Type 0} (p : X → Bool) (xs : List X) (x : X) → IsMember xs x → p x ≡ true → IsMember (filter p xs) x
filter_in p [] x h passes = h
filter_in p (y ∷ ys) x (inl e) passes = filter_in_by p y ys x (p y) refl passes (inl e)
filter_in p (y ∷ ys) x (inr h) passes = filter_in_by p y ys x (p y) refl passes (inr (filter_in p ys x h passes))

pub in_flat_map : {X Y : Type 0} (f : X → List Y) (xs : List X) (y : Y) → IsMember (flat_map f xs) y → (x : X) × IsMember xs x × IsMember (f x) y
in_flat_map f [] y h = absurd h
in_flat_map f (x ∷ xs) y h = elim (in_append (f x) (flat_map f xs) y h) [
  | inl a ↦ (x, inl refl, a)
  | inr b ↦ let r = in_flat_map f xs y b in (r.0, inr r.1, r.2)
]

pub flat_map_in : {X Y : Type 0} (f : X → List Y) (xs : List X) (x : X) (y : Y) → IsMember xs x → IsMember (f x) y → IsMember (flat_map f xs) y
flat_map_in f [] x y h k = h
flat_map_in f (z ∷ xs) x y (inl e) k = append_in (f z) (flat_map f xs) y (inl (subst (λ w. IsMember (f w) y) (sym e) k))
flat_map_in f (z ∷ xs) x y (inr h) k = append_in (f z) (flat_map f xs) y (inr (flat_map_in f xs x y h k))

pub each_holds : {X : Type 0} (P : X → Type 0) (xs : List X) → ((x : X) → IsMember xs x → P x) → AllByRecursion P xs
each_holds P [] h = tt
each_holds P (x ∷ xs) h = (h x (inl refl), each_holds P xs (λ y i. h y (inr i)))

pub none_appears : {X : Type 0} (xs : List X) → ((x : X) → IsMember xs x → ⊥) → xs ≡ []
none_appears [] h = refl
none_appears (x ∷ xs) h = absurd (h x (inl refl))

pub holds_in : {X : Type 0} (P : X → Type 0) (xs : List X) (x : X) → AllByRecursion P xs → IsMember xs x → P x
holds_in P [] x a h = absurd h
holds_in P (y ∷ ys) x a (inl e) = subst P e a.0
holds_in P (y ∷ ys) x a (inr h) = holds_in P ys x a.1 h

-- ---- lists without repeated members

pub one_position : {X : Type 0} (xs : List X) (i j : ℕ) (x : X) → AreDistinct xs → slice_get xs i ≡ Some x → slice_get xs j ≡ Some x → i ≡ j
one_position [] i j x a h k = absurd (cc)
one_position (y ∷ ys) zero zero x a h k = refl
one_position (y ∷ ys) zero (suc j) x a h k = absurd (a.0 (subst (IsMember ys) (sym (same_Some y x h)) (in_from_get ys j x k)))
one_position (y ∷ ys) (suc i) zero x a h k = absurd (a.0 (subst (IsMember ys) (sym (same_Some y x k)) (in_from_get ys i x h)))
one_position (y ∷ ys) (suc i) (suc j) x a h k = ap suc (one_position ys i j x a.1 h k)

pub apart_append : {X : Type 0} (xs ys : List X) → AreDistinct xs → AreDistinct ys → ((x : X) → IsMember xs x → IsMember ys x → ⊥) → AreDistinct (xs ++ ys)
apart_append [] ys a b apart = b
apart_append (x ∷ xs) ys a b apart =
    (λ h. elim (in_append xs ys x h) [ inl i ↦ a.0 i | inr j ↦ apart x (inl refl) j ], apart_append xs ys a.1 b (λ y i j. apart y (inr i) j))

-- g distinguishes what h distinguishes
pub apart_map : {X Y Z : Type 0} (g : X → Y) (h : X → Z) (xs : List X) → ((x y : X) → g x ≡ g y → h x ≡ h y) → AreDistinct (map h xs) → AreDistinct (map g xs)
apart_map g h [] same a = tt
apart_map g h (x ∷ xs) same a =
    (λ i. let r = in_map g xs (g x) i in a.0 (subst (IsMember (map h xs)) (same r.0 x r.2) (map_in h xs r.0 r.1)), apart_map g h xs same a.1)

apart_filter_by : {X Z : Type 0} (h : X → Z) (p : X → Bool) (x : X) (xs : List X) (b : Bool) → (IsMember (map h xs) (h x) → ⊥) → AreDistinct (map h (filter p xs)) → AreDistinct (map h (cond b (x ∷ filter p xs) (filter p xs)))
apart_filter_by h p x xs true out rest = (λ i. let r = in_map h (filter p xs) (h x) i in out (subst (IsMember (map h xs)) r.2 (map_in h xs r.0 (in_filter p xs r.0 r.1).0)), rest)
apart_filter_by h p x xs false out rest = rest

pub apart_filter : {X Z : Type 0} (h : X → Z) (p : X → Bool) (xs : List X) → AreDistinct (map h xs) → AreDistinct (map h (filter p xs))
apart_filter h p [] a = tt
apart_filter h p (x ∷ xs) a = apart_filter_by h p x xs (p x) a.0 (apart_filter h p xs a.1)

pub apart_flat_map : {X Y : Type 0} (f : X → List Y) (xs : List X) → AreDistinct xs → ((x : X) → IsMember xs x → AreDistinct (f x)) → ((x y : X) (z : Y) → IsMember xs x → IsMember xs y → IsMember (f x) z → IsMember (f y) z → x ≡ y)
    → AreDistinct (flat_map f xs)
apart_flat_map f [] a each apart = tt
apart_flat_map f (x ∷ xs) a each apart =
    apart_append (f x) (flat_map f xs) (each x (inl refl)) (apart_flat_map f xs a.1 (λ y i. each y (inr i)) (λ y z w i j. apart y z w (inr i) (inr j)))
    (λ z i j. let r = in_flat_map f xs z j in a.0 (subst (IsMember xs) (sym (apart x r.0 z (inl refl) (inr r.1) i r.2)) r.1))

-- ---- the numbers from 1 to n

pub in_up_to : (m n : ℕ) → IsMember (up_to m) n → (0 < n) × (n ≤ m)
in_up_to zero n h = absurd h
in_up_to (suc m) n h = elim (in_append (up_to m) (suc m ∷ []) n h) [
  | inl i ↦ let r = in_up_to m n i in (r.0, omega (arith, r.1))
  | inr j ↦ elim j [ inl e ↦ (omega (arith, e), omega (arith, e)) | inr out ↦ absurd out ]
]

pub apart_up_to : (m : ℕ) → AreDistinct (up_to m)
apart_up_to zero = tt
apart_up_to (suc m) = apart_append (up_to m) (suc m ∷ []) (apart_up_to m) ((λ h. h), tt)
    (λ n i j. elim j [ inl e ↦ let r = in_up_to m n i in omega (arith, r.1, e) | inr out ↦ out ])
