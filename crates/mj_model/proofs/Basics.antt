-- Facts about lists, numbers and truth values that the proofs of many crates use.
use Rattle.std.specs.Prelude.{◌≡◌, ℕ, suc, pos, negsuc, Bool, true, false, ◌&&◌, List, [], ◌∷◌, ◌++◌, map}
use Rattle.std.specs.List.{AllByRecursion}
use Rattle.std.proofs.Common.{refl}

pub same_head : {X : Type 0} (x y : X) (xs ys : List X) → x ∷ xs ≡ y ∷ ys → x ≡ y
same_head x y xs ys h = cc

pub same_tail : {X : Type 0} (x y : X) (xs ys : List X) → x ∷ xs ≡ y ∷ ys → xs ≡ ys
same_tail x y xs ys h = cc

pub no_head : {X : Type 0} (x : X) (xs : List X) → [] ≡ x ∷ xs → ⊥
no_head x xs h = cc

pub same_pos : (m n : ℕ) → pos m ≡ pos n → m ≡ n
same_pos m n h = cc

pub same_negsuc : (m n : ℕ) → negsuc m ≡ negsuc n → m ≡ n
same_negsuc m n h = cc

pub both_parts : (a b : Bool) → (a && b) ≡ true → (a ≡ true) × (b ≡ true)
both_parts true true h = (refl, refl)
both_parts true false h = absurd (cc)
both_parts false b h = absurd (cc)

pub all_append : {X : Type 0} (P : X → Type 0) (xs ys : List X) → AllByRecursion P xs → AllByRecursion P ys → AllByRecursion P (xs ++ ys)
all_append P [] ys a b = b
all_append P (x ∷ xs) ys a b = (a.0, all_append P xs ys a.1 b)

pub same_map_suc : (xs ys : List ℕ) → map suc xs ≡ map suc ys → xs ≡ ys
same_map_suc [] [] h = refl
same_map_suc [] (y ∷ ys) h = absurd (no_head (suc y) (map suc ys) h)
same_map_suc (x ∷ xs) [] h = absurd (let e : [] ≡ suc x ∷ map suc xs = cc in no_head (suc x) (map suc xs) e)
same_map_suc (x ∷ xs) (y ∷ ys) h =
    let front : x ≡ y = cc in
    let rest = same_map_suc xs ys (same_tail (suc x) (suc y) (map suc xs) (map suc ys) h) in
    cc
