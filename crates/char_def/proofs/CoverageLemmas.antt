-- The last range that covers a code point, for a single range and for ranges after others, and how
-- it is found among steps.
use Rattle.std.proofs.Common.{◌≡◌, ℕ, suc, ◌+◌, ◌-◌, ◌<◌, ◌≤◌, zero, true, false, List, [], ◌∷◌, ◌++◌, length, take, drop, get_or, map, reverse, refl, sym, ◌∙◌, ap, arith, Option, Some, None}
use Rattle.std.specs.Prelude.{nat_lt, nat_le, option_map, find}
use Rattle.std.specs.List.Sorted.{IsNonDecreasingBy, IsPartitionPoint}
use Rattle.std.specs.Option.{option_or}
use Rattle.std.proofs.lemmas.Bool.{lt-ltb, le-ltb, leb-true, leb-false, cond-true, cond-false}
use Rattle.std.proofs.lemmas.List.{map-append, reverse-append, take-append-drop}
use Rattle.std.proofs.lemmas.List.Folds.{find-append}
use Rattle.mj_model.specs.declared.category.CharInfo.{CharInfo}
use Rattle.char_def.specs.declared.mapped.MappedRange.{MappedRange}
use Rattle.char_def.specs.declared.overlay.CategoryStep.{CategoryStep}
use Rattle.char_def.specs.Steps.{info_from, info_by, AreRising, AreOverlaid}
use Rattle.char_def.specs.Mapped.{RangeCategories, range_categories_by, applies_to, last_categories, IsCoverage}

info_in : Option RangeCategories → Option CharInfo
info_in found = option_map (λ (s : RangeCategories). s.info) found

info_in_or : (a b : Option RangeCategories) → info_in (option_or a b) ≡ option_or (info_in a) (info_in b)
unfolding info_in
info_in_or None b = refl
info_in_or (Some s) b = refl

pub last_categories-append : (xs ys : List RangeCategories) (code : ℕ) → last_categories (xs ++ ys) code ≡ option_or (last_categories ys code) (last_categories xs code)
unfolding info_in
last_categories-append xs ys code =
    ap (λ (l : List RangeCategories). info_in (find (applies_to code) l)) (reverse-append xs ys)
    ∙ ap info_in (find-append (applies_to code) (reverse ys) (reverse xs)) ∙ info_in_or (find (applies_to code) (reverse ys)) (find (applies_to code) (reverse xs))

pub both_covered : (ranges earlier later : List MappedRange) (below above steps : List CategoryStep) → ranges ≡ earlier ++ later → IsCoverage (map range_categories_by earlier) below → IsCoverage (map range_categories_by later) above
    → AreOverlaid below above steps → IsCoverage (map range_categories_by ranges) steps
both_covered ranges earlier later below above steps is b a o = record {
  rising = o.rising;
  agrees = λ code. o.agrees code ∙ ap (λ (x : Option CharInfo). option_or x (info_by below code)) (a.agrees code) ∙ ap (λ (x : Option CharInfo). option_or (last_categories (map range_categories_by later) code) x) (b.agrees code)
      ∙ sym (last_categories-append (map range_categories_by earlier) (map range_categories_by later) code) ∙ ap (λ (l : List RangeCategories). last_categories l code) (sym (map-append range_categories_by earlier later))
      ∙ ap (λ (l : List MappedRange). last_categories (map range_categories_by l) code) (sym is);
}

-- ---- the step of a code point

none_after : (before : Option CharInfo) (steps : List CategoryStep) (code : ℕ) (d : CategoryStep) → ((k : ℕ) → k < length steps → code < (get_or steps k d).first) → info_from before steps code ≡ before
none_after before [] code d following = refl
none_after before (s ∷ ss) code d following = cond-true (nat_lt code s.first) before (info_from s.info ss code) (lt-ltb code s.first (following 0 (omega arith)))

info_at : (before : Option CharInfo) (steps : List CategoryStep) (n code : ℕ) (d : CategoryStep) → n < length steps → ((k : ℕ) → k ≤ n → (get_or steps k d).first ≤ code)
    → ((k : ℕ) → n < k → k < length steps → code < (get_or steps k d).first) → info_from before steps code ≡ (get_or steps n d).info
info_at before [] n code d in' reached following = absurd (omega arith)
info_at before (s ∷ ss) zero code d in' reached following =
    cond-false (nat_lt code s.first) before (info_from s.info ss code) (le-ltb code s.first (reached 0 (omega arith)))
    ∙ none_after s.info ss code d (λ k h. following (suc k) (omega arith) (omega arith))
info_at before (s ∷ ss) (suc n) code d in' reached following =
    cond-false (nat_lt code s.first) before (info_from s.info ss code) (le-ltb code s.first (reached 0 (omega arith)))
    ∙ info_at s.info ss n code d (omega arith) (λ k h. reached (suc k) (omega arith)) (λ k low h. following (suc k) (omega arith) (omega arith))

pub from_on : (from : ℕ) (steps : List CategoryStep) (i : ℕ) (d : CategoryStep) → AreRising from steps → i < length steps → from ≤ (get_or steps i d).first
from_on from [] i d rise in' = absurd (omega arith)
from_on from (s ∷ ss) zero d rise in' = rise.0
from_on from (s ∷ ss) (suc i) d rise in' = let h : s.first + 1 ≤ (get_or ss i d).first = from_on (s.first + 1) ss i d rise.1 (omega arith) in omega (arith, rise.0)

pub rising_sorted : (from : ℕ) (steps : List CategoryStep) → AreRising from steps → IsNonDecreasingBy (λ s. s.first) steps
rising_sorted from [] rise i j d le in' = absurd (omega arith)
rising_sorted from (s ∷ ss) rise zero zero d le in' = omega arith
rising_sorted from (s ∷ ss) rise zero (suc j) d le in' = let h : s.first + 1 ≤ (get_or ss j d).first = from_on (s.first + 1) ss j d rise.1 (omega arith) in omega arith
rising_sorted from (s ∷ ss) rise (suc i) zero d le in' = absurd (omega arith)
rising_sorted from (s ∷ ss) rise (suc i) (suc j) d le in' = rising_sorted (s.first + 1) ss rise.1 i j d (omega arith) (omega arith)

-- the steps up to a point start at or before the code point, and the others after it
pub no_step : (steps : List CategoryStep) (code n : ℕ) → IsPartitionPoint (λ s. nat_le s.first code ≡ true) (λ s. nat_le s.first code ≡ false) steps n → n ≡ 0 → None ≡ info_by steps code
no_step steps code n point is =
    let d : CategoryStep = record { first = 0; info = None } in
    sym (none_after None steps code d (λ k h. leb-false (get_or steps k d).first code (point.1 k d (omega arith) h)))

pub last_step : (steps : List CategoryStep) (code n : ℕ) → IsPartitionPoint (λ s. nat_le s.first code ≡ true) (λ s. nat_le s.first code ≡ false) steps n → n ≤ length steps → 0 < n → (d : CategoryStep)
    → (get_or steps (n - 1) d).info ≡ info_by steps code
last_step steps code n point in' some d =
    sym (info_at None steps (n - 1) code d (omega arith) (λ k h. leb-true (get_or steps k d).first code (point.0 k d (omega arith) (omega arith)))
    (λ k above h. leb-false (get_or steps k d).first code (point.1 k d (omega arith) h)))

pub halves : (ranges front back : List MappedRange) (n : ℕ) → front ≡ take n ranges → back ≡ drop n ranges → ranges ≡ front ++ back
halves ranges front back n f b = sym (take-append-drop n ranges) ∙ ap (λ (xs : List MappedRange). xs ++ drop n ranges) (sym f) ∙ ap (λ (xs : List MappedRange). front ++ xs) (sym b)
