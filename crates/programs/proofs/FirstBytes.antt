-- The first bytes of a file that is read in pieces.
use Rattle.std.proofs.Common.{◌≡◌, ℕ, zero, suc, ◌-◌, List, [], ◌∷◌, ◌++◌, length, ap, ◌∙◌, arith}
use Rattle.std.proofs.lemmas.List.{take_min}
use Rattle.std.specs.Prelude.{min, take}

-- the missing first bytes are the first of the next piece
pub first_of_both : (n missing : ℕ) (xs ys : List ℕ) → missing ≡ min (n - length (take n xs)) (length ys) → take n xs ++ take missing ys ≡ take n (xs ++ ys)
first_of_both zero missing xs ys is = let none : missing ≡ 0 = omega (arith, is) in ap (λ (k : ℕ). take k ys) none
first_of_both (suc n) missing [] ys is =
    let all : missing ≡ min (suc n) (length ys) = omega (arith, is) in
    ap (λ (k : ℕ). take k ys) all ∙ take_min (suc n) ys
first_of_both (suc n) missing (x ∷ xs) ys is =
    let rest : missing ≡ min (n - length (take n xs)) (length ys) = omega (arith, is) in
    ap (λ (taken : List ℕ). x ∷ taken) (first_of_both n missing xs ys rest)
