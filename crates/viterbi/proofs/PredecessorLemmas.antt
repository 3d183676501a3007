-- The predecessors cached at a position, by their slots: the slot of a left id leads to its
-- predecessor, or the left id is not cached.
use Rattle.std.proofs.Common.{◌≡◌, ℕ, ◌<◌, ◌≤◌, List, [], ◌∷◌, ◌++◌, set, length, Contains, None, Some, Option, inl, inr, sym, ap, ◌∙◌, refl, subst, arith, slice_get}
use Rattle.std.proofs.lemmas.Option.{same_Some, slice_get_within}
use Rattle.viterbi.specs.declared.search.node.Predecessor.{Predecessor}
use Rattle.viterbi.specs.declared.search.predecessor_cache.CachedPredecessor.{CachedPredecessor}
use Rattle.viterbi.specs.Search.PredecessorCache.{HaveSlots, IsCacheResult, IsUncached}
use Rattle.viterbi.specs.Search.Slots.{KeepsSlots}
use Rattle.viterbi.proofs.Pushed.{Contains_from_get, get_from_Contains, get_push_cases}
use Rattle.viterbi.proofs.SlotLemmas.{other_slot, slot_written}

module _ (found : List CachedPredecessor) (slots : List ℕ) (have : HaveSlots found slots) where
  -- a left id without a slot is not cached
  pub none_without_slot : (left : ℕ) → (length slots ≤ left) → IsUncached found left
  none_without_slot left past i x at is =
      let within = slice_get_within slots x.left i (have i x at) in
      omega (arith, past, within, is)

  -- nor is one whose slot has a number past the cached predecessors
  pub none_past : (left slot : ℕ) → slice_get slots left ≡ Some slot → length found ≤ slot → IsUncached found left
  none_past left slot at_slot past i x at is =
      let same : i ≡ slot = same_Some i slot (sym (have i x at) ∙ ap (slice_get slots) is ∙ at_slot) in
      let within = slice_get_within found i x at in
      omega (arith, past, within, same)

  -- nor is one whose slot has the number of another
  pub none_other : (left slot : ℕ) (kept : CachedPredecessor) → slice_get slots left ≡ Some slot → slice_get found slot ≡ Some kept → (kept.left ≡ left → ⊥) → IsUncached found left
  none_other left slot kept at_slot at_kept differs i x at is =
      let same : i ≡ slot = same_Some i slot (sym (have i x at) ∙ ap (slice_get slots) is ∙ at_slot) in
      let equal : x ≡ kept = same_Some x kept (sym at ∙ ap (slice_get found) same ∙ at_kept) in
      differs (ap (λ (y : CachedPredecessor). y.left) (sym equal) ∙ is)

  -- the slot leads to the only predecessor cached for the left id
  pub returned : (left slot : ℕ) (kept : CachedPredecessor) → slice_get slots left ≡ Some slot → slice_get found slot ≡ Some kept → kept.left ≡ left → IsCacheResult found left (Some kept.predecessor)
  returned left slot kept at_slot at_kept is predecessor = (
    λ e.
        let same : kept.predecessor ≡ predecessor = same_Some kept.predecessor predecessor e in
        subst (λ (y : CachedPredecessor). Contains found y) (ap (λ (l : ℕ). record { left = l; predecessor = kept.predecessor }) is ∙ ap (λ (j : Predecessor). record { left = left; predecessor = j }) same) (Contains_from_get found slot kept at_kept),
    λ c.
        let y : CachedPredecessor = record { left = left; predecessor = predecessor } in
        let g = get_from_Contains found y c in
        let same : slot ≡ g.0 = same_Some slot g.0 (sym at_slot ∙ have g.0 y g.1) in
        let equal : kept ≡ y = same_Some kept y (sym at_kept ∙ ap (slice_get found) same ∙ g.1) in
        ap (λ (z : CachedPredecessor). Some z.predecessor) equal,
  )

  -- with more slots
  pub have_kept : (after : List ℕ) → KeepsSlots slots after → HaveSlots found after
  have_kept after kept i x at = kept x.left i (have i x at)

  -- with the predecessor for one more left id
  pub have_more : (after : List CachedPredecessor) (left : ℕ) (predecessor : Predecessor) → left < length slots → IsUncached found left → after ≡ found ++ record { left = left; predecessor = predecessor } ∷ [] → HaveSlots after (set slots left (length found))
  have_more after left predecessor within new pushed i x at = elim (get_push_cases found (record { left = left; predecessor = predecessor }) i x (ap (λ (xs : List CachedPredecessor). slice_get xs i) (sym pushed) ∙ at)) [
    | inl old ↦ other_slot slots left (length found) x.left i (new i x old) (have i x old)
    | inr added ↦
        let same : left ≡ x.left = ap (λ (y : CachedPredecessor). y.left) added.1 in
        subst (λ (l : ℕ). slice_get (set slots left (length found)) l ≡ Some i) same (slot_written slots left (length found) within ∙ ap Some (sym added.0))
  ]

-- if the left id is not cached, nothing is returned
pub no_result : (found : List CachedPredecessor) (left : ℕ) → IsUncached found left → IsCacheResult found left None
no_result found left new predecessor = (λ e. absurd (cc), λ c. let y : CachedPredecessor = record { left = left; predecessor = predecessor } in let g = get_from_Contains found y c in absurd (new g.0 y g.1 refl))

-- and if nothing is returned, it is not cached
pub new_where_none : (found : List CachedPredecessor) (left : ℕ) (outcome : Option Predecessor) → IsCacheResult found left outcome → outcome ≡ None → IsUncached found left
new_where_none found left outcome is none i x at same =
    let c : Contains found (record { left = left; predecessor = x.predecessor }) = subst (λ (l : ℕ). Contains found (record { left = l; predecessor = x.predecessor })) same (Contains_from_get found i x at) in
    let e : outcome ≡ Some x.predecessor = (is x.predecessor).1 c in
    absurd (cc)
