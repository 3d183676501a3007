-- The cells as the first slots of a block.
use Rattle.std.proofs.Common.{◌≡◌, ℕ, ◌+◌, ◌-◌, ◌≤◌, ◌<◌, ◌++◌, Bool, true, false, List, [], ◌∷◌, length, take, set, get_or, replicate, ap, inl, inr, ◌∙◌, arith}
use Rattle.std.proofs.lemmas.List.{get_or-set_same, get_or-set_other, take_more_set, append_assoc, replicate-append-replicate}
use Rattle.std.proofs.Math.Seq.{take-set-lt}
use Rattle.std.proofs.Math.ListN.{length-take}
use Rattle.std.proofs.lemmas.Bool.{cases_eq}
use Rattle.core.specs.Mem.Slots.Ownership.{Filled}
use Rattle.core.specs.Mem.Slots.{SamePlaces}
use Rattle.core.specs.declared.slots.Slots.{Slots}

-- a cell that is set is set in the block
pub set_within : {X : Type 0} (count i : ℕ) (xs : List X) (x : X) → i < length (take count xs) → take count (set xs i x) ≡ set (take count xs) i x
set_within count i xs x inside = let long = length-take count xs in take-set-lt count xs i x (omega arith)

-- one more slot is filled
pub filled_more : (fs : List Bool) (at : ℕ) → at < length fs → Filled fs 0 at → Filled (set fs at true) 0 (at + 1)
filled_more fs at inside before k low high = elim (cases_eq k at) [
  | inl same ↦ ap (λ j. get_or (set fs at true) j false) same ∙ get_or-set_same fs at true false inside
  | inr other ↦ get_or-set_other fs at k true false other ∙ before k low (omega arith)
]

-- the list has one more of the values
pub items_more : {X : Type 0} (xs front : List X) (from at : ℕ) (x : X) → from ≤ at → at < length xs → take at xs ≡ front ++ replicate (at - from) x
    → take (at + 1) (set xs at x) ≡ front ++ replicate (at + 1 - from) x
items_more xs front from at x low inside before =
    let more : at - from + 1 ≡ at + 1 - from = omega arith in
    take_more_set xs at x inside ∙ ap (λ l. l ++ x ∷ []) before ∙ append_assoc front (replicate (at - from) x) (x ∷ []) ∙ ap (λ l. front ++ l) (replicate-append-replicate (at - from) 1 x ∙ ap (λ n. replicate n x) more)

-- having the same slots is transitive
pub same_places : {X : Type 0} (a b c : Slots X) → SamePlaces a b → SamePlaces b c → SamePlaces a c
same_places a b c p q = record { start = q.start ∙ p.start; count = q.count ∙ p.count }
