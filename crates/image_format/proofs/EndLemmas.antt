-- The ends of sections.
use Rattle.std.proofs.Common.{◌≡◌, ℕ, zero, suc, ◌+◌, ◌≤◌, List, [], ◌∷◌, take, slice_index, refl, ap, ◌∙◌, ◌-◌, subst, arith}
use Rattle.std.specs.Prelude.{sum}
use Rattle.std.proofs.lemmas.List.Sums.{sum_by-cons}
use Rattle.image_format.specs.declared.header.Header.{Header}
use Rattle.image_format.specs.ImageBytes.{section_end}

pub sum_take : (xs : List ℕ) (k : ℕ) → sum (take (suc k) xs) ≡ sum (take k xs) + slice_index xs k
sum_take [] zero = refl
sum_take [] (suc k) = refl
sum_take (x ∷ xs) zero = omega (arith)
sum_take (x ∷ xs) (suc k) =
    let e = sum_take xs k in
    let more : sum (take (suc (suc k)) (x ∷ xs)) ≡ x + sum (take (suc k) xs) = sum_by-cons (λ n. n) x (take (suc k) xs) in
    let fewer : sum (take (suc k) (x ∷ xs)) ≡ x + sum (take k xs) = sum_by-cons (λ n. n) x (take k xs) in
    let there : slice_index (x ∷ xs) (suc k) ≡ slice_index xs k = refl in
    omega (arith, e, more, fewer, there)

pub end_step : (h : Header) (k : ℕ) → section_end h (suc k) ≡ section_end h k + slice_index h.lengths k
end_step h k = let e = sum_take h.lengths k in omega (arith, e)

pub end_rises : (h : Header) (k n : ℕ) → section_end h k ≤ section_end h (k + n)
end_rises h k zero =
    let none_more : k + 0 ≡ k = omega (arith) in
    let same = ap (section_end h) none_more in
    omega (arith, same)
end_rises h k (suc n) =
    let one_more : k + suc n ≡ suc (k + n) = omega (arith) in
    let step : section_end h (k + suc n) ≡ section_end h (k + n) + slice_index h.lengths (k + n) = ap (section_end h) one_more ∙ end_step h (k + n) in
    let before = end_rises h k n in
    omega (arith, step, before)

-- a later section ends no earlier
pub end_after : (h : Header) (j k : ℕ) → j ≤ k → section_end h j ≤ section_end h k
end_after h j k le =
    let there : j + (k - j) ≡ k = omega (arith, le) in
    subst (λ (n : ℕ). section_end h j ≤ section_end h n) there (end_rises h j (k - j))
