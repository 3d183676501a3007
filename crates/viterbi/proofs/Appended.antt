-- One list after another: their elements by number, and which words come before which.
use Rattle.std.proofs.Common.{◌≡◌, ℕ, zero, suc, ◌+◌, List, [], ◌∷◌, ◌++◌, length, map, Contains, Some, ◌⊎◌, inl, inr, refl, ap, ◌∙◌, arith, slice_get}
use Rattle.std.proofs.lemmas.Option.{same_Some, slice_get_within}
use Rattle.mj_model.specs.declared.word.Word.{Word}
use Rattle.mj_model.specs.Order.{IsEarlierIn}
use Rattle.mj_model.specs.Pruned.{ArePartOf}
use Rattle.viterbi.proofs.Pushed.{Contains_from_get, get_from_Contains, get_prefix}

pub get_after : {X : Type 0} (xs ys : List X) (k i : ℕ) → i ≡ length xs + k → slice_get (xs ++ ys) i ≡ slice_get ys k
get_after [] ys k i is = ap (slice_get ys) (omega (arith, is))
get_after (x ∷ xs) ys k zero is = absurd (omega (arith, is))
get_after (x ∷ xs) ys k (suc i) is = get_after xs ys k i (omega (arith, is))

pub get_cases : {X : Type 0} (xs ys : List X) (i : ℕ) (x : X) → slice_get (xs ++ ys) i ≡ Some x → (slice_get xs i ≡ Some x) ⊎ ((k : ℕ) × (i ≡ length xs + k) × (slice_get ys k ≡ Some x))
get_cases [] ys i x at = inr (i, omega arith, at)
get_cases (z ∷ xs) ys zero x at = inl at
get_cases (z ∷ xs) ys (suc i) x at = elim (get_cases xs ys i x at) [
  | inl front ↦ inl front
  | inr next_ones ↦ let is = next_ones.1 in inr (next_ones.0, omega (arith, is), next_ones.2)
]

pub get_left : {X : Type 0} (xs ys : List X) (i : ℕ) (x : X) → slice_get xs i ≡ Some x → slice_get (xs ++ ys) i ≡ Some x
get_left xs ys i x at = get_prefix xs ys i (slice_get_within xs i x at) ∙ at

pub get_right : {X : Type 0} (xs ys : List X) (k : ℕ) (x : X) → slice_get ys k ≡ Some x → slice_get (xs ++ ys) (length xs + k) ≡ Some x
get_right xs ys k x at = get_after xs ys k (length xs + k) refl ∙ at

pub contains_left : {X : Type 0} (xs ys : List X) (x : X) → Contains xs x → Contains (xs ++ ys) x
contains_left xs ys x h = let f = get_from_Contains xs x h in Contains_from_get (xs ++ ys) f.0 x (get_left xs ys f.0 x f.1)

pub contains_right : {X : Type 0} (xs ys : List X) (x : X) → Contains ys x → Contains (xs ++ ys) x
contains_right xs ys x h = let f = get_from_Contains ys x h in Contains_from_get (xs ++ ys) (length xs + f.0) x (get_right xs ys f.0 x f.1)

pub contains_either : {X : Type 0} (xs ys : List X) (x : X) → Contains (xs ++ ys) x → Contains xs x ⊎ Contains ys x
contains_either xs ys x h =
    let f = get_from_Contains (xs ++ ys) x h in
    elim (get_cases xs ys f.0 x f.1) [
      | inl front ↦ inl (Contains_from_get xs f.0 x front)
      | inr next_ones ↦ inr (Contains_from_get ys next_ones.0 x next_ones.2)
    ]

pub map_cases : {X : Type 0} {Y : Type 0} (f : X → Y) (xs : List X) (i : ℕ) (y : Y) → slice_get (map f xs) i ≡ Some y → (x : X) × (slice_get xs i ≡ Some x) × (f x ≡ y)
map_cases f [] i y at = absurd (cc)
map_cases f (x ∷ xs) zero y at = (x, refl, same_Some (f x) y at)
map_cases f (x ∷ xs) (suc i) y at = map_cases f xs i y at

pub map_at : {X : Type 0} {Y : Type 0} (f : X → Y) (xs : List X) (i : ℕ) (x : X) → slice_get xs i ≡ Some x → slice_get (map f xs) i ≡ Some (f x)
map_at f [] i x at = absurd (cc)
map_at f (z ∷ xs) zero x at = ap (λ u. Some (f u)) (same_Some z x at)
map_at f (z ∷ xs) (suc i) x at = map_at f xs i x at

-- ---- which words come before which

pub appears_left : (vs ws : List Word) (v w : Word) → IsEarlierIn vs v w → IsEarlierIn (vs ++ ws) v w
appears_left vs ws v w s = record {
  first = s.first;
  second = s.second;
  in_order = s.in_order;
  has_first = get_left vs ws s.first v s.has_first;
  has_second = get_left vs ws s.second w s.has_second;
}

pub appears_right : (vs ws : List Word) (v w : Word) → IsEarlierIn ws v w → IsEarlierIn (vs ++ ws) v w
appears_right vs ws v w s = let order = s.in_order in record {
  first = length vs + s.first;
  second = length vs + s.second;
  in_order = omega (arith, order);
  has_first = get_right vs ws s.first v s.has_first;
  has_second = get_right vs ws s.second w s.has_second;
}

pub appears_across : (vs ws : List Word) (v w : Word) → Contains vs v → Contains ws w → IsEarlierIn (vs ++ ws) v w
appears_across vs ws v w h k =
    let f = get_from_Contains vs v h in
    let g = get_from_Contains ws w k in
    let low = slice_get_within vs f.0 v f.1 in
    record {
      first = f.0;
      second = length vs + g.0;
      in_order = omega (arith, low);
      has_first = get_left vs ws f.0 v f.1;
      has_second = get_right vs ws g.0 w g.1;
    }

-- some of each list are some of both
pub part_of_both : (qs ss bs rs : List Word) → ArePartOf qs ss → ArePartOf bs rs → ArePartOf (qs ++ bs) (ss ++ rs)
part_of_both qs ss bs rs p q = record {
  among = λ w h. elim (contains_either ss rs w h) [
    | inl front ↦ contains_left qs bs w (p.among w front)
    | inr next_ones ↦ contains_right qs bs w (q.among w next_ones)
  ];
  in_order = λ v w s. elim (get_cases ss rs s.first v s.has_first) [
    | inl v_front ↦ elim (get_cases ss rs s.second w s.has_second) [
      | inl w_front ↦ appears_left qs bs v w (p.in_order v w (record { first = s.first; second = s.second; in_order = s.in_order; has_first = v_front; has_second = w_front }))
      | inr w_after ↦ appears_across qs bs v w (p.among v (Contains_from_get ss s.first v v_front)) (q.among w (Contains_from_get rs w_after.0 w w_after.2))
    ]
    | inr v_after ↦ elim (get_cases ss rs s.second w s.has_second) [
      | inl w_front ↦
          let low = slice_get_within ss s.second w w_front in
          let order = s.in_order in
          let is = v_after.1 in
          absurd (omega (arith, low, order, is))
      | inr w_after ↦
          let order = s.in_order in
          let is = v_after.1 in
          let also = w_after.1 in
          appears_right qs bs v w (q.in_order v w (record { first = v_after.0; second = w_after.0; in_order = omega (arith, order, is, also); has_first = v_after.2; has_second = w_after.2 }))
    ]
  ];
}
