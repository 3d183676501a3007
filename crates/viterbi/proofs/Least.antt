-- The first end node of least cost of a position, found from the first end node on.
use Rattle.std.proofs.Common.{◌≡◌, ℕ, ◌+◌, ◌<◌, ◌≤◌, List, Some, length, get_or, ◌⊎◌, inl, inr, refl, sym, ap, ◌∙◌, subst, arith, slice_get, ◌++◌, ◌∷◌, [], Contains}
use Rattle.std.specs.Prelude.{ℤ, ◌<ℤ◌, ◌≤ℤ◌}
use Rattle.std.proofs.lemmas.Int.{ints, by_lt_z}
use Rattle.std.proofs.lemmas.Bool.{cases_lt}
use Rattle.std.proofs.lemmas.Option.{same_Some, slice_get_within, get_or_from_slice_get, slice_get-get_or}
use Rattle.viterbi.specs.declared.search.node.EndNode.{EndNode}
use Rattle.viterbi.specs.declared.search.node.Predecessor.{Predecessor}
use Rattle.viterbi.specs.declared.search.node.Candidate.{Candidate}
use Rattle.viterbi.specs.declared.search.predecessor_cache.CachedPredecessor.{CachedPredecessor}
use Rattle.viterbi.specs.Search.EndNodes.{AreLeast, IsLeast, IsLesser, candidate_at, end_cost}
use Rattle.viterbi.proofs.Pushed.{get_push_cases, get_from_Contains}

cases_z : (a b : ℤ) → a ≤ℤ b → (a <ℤ b) ⊎ (a ≡ b)
cases_z a b le = by_lt_z a b (λ less. inl less) (λ more. inr (omega (arith, ints, le, more)))

module _ (conn : ℕ → ℕ → ℤ) (ends : List EndNode) (left : ℕ) where
  -- this one is the first of least cost of the first `count` end nodes
  pub record IsLeastOf (count : ℕ) (best : Candidate) : Type 0 where
    pub end : EndNode
    pub within : best.rank < count
    pub here : slice_get ends best.rank ≡ Some end
    pub cost_is : best.cost ≡ end_cost conn left end
    pub holds : (r : ℕ) (e : EndNode) → r < count → slice_get ends r ≡ Some e → (best.cost <ℤ end_cost conn left e) ⊎ ((best.cost ≡ end_cost conn left e) × (best.rank ≤ r))

  holds_more : (count : ℕ) (best : Candidate) (e : EndNode) → slice_get ends count ≡ Some e → IsLeastOf count best
      → (best.cost <ℤ end_cost conn left e) ⊎ ((best.cost ≡ end_cost conn left e) × (best.rank ≤ count))
      → (r : ℕ) (x : EndNode) → r < count + 1 → slice_get ends r ≡ Some x → (best.cost <ℤ end_cost conn left x) ⊎ ((best.cost ≡ end_cost conn left x) × (best.rank ≤ r))
  holds_more count best e at h new r x low got = elim (cases_lt r count) [
    | inl less ↦ h.holds r x less got
    | inr more ↦
        let same : count ≡ r = omega arith in
        let ends_same : e ≡ x = same_Some e x (sym at ∙ ap (slice_get ends) same ∙ got) in
        subst (λ (q : ℕ). (best.cost <ℤ end_cost conn left x) ⊎ ((best.cost ≡ end_cost conn left x) × (best.rank ≤ q))) same
        (subst (λ (y : EndNode). (best.cost <ℤ end_cost conn left y) ⊎ ((best.cost ≡ end_cost conn left y) × (best.rank ≤ count))) ends_same new)
  ]

  holds_all_new : (count : ℕ) (best : Candidate) (e : EndNode) → slice_get ends count ≡ Some e → IsLeastOf count best → end_cost conn left e <ℤ best.cost
      → (r : ℕ) (x : EndNode) → r < count + 1 → slice_get ends r ≡ Some x → (end_cost conn left e <ℤ end_cost conn left x) ⊎ ((end_cost conn left e ≡ end_cost conn left x) × (count ≤ r))
  holds_all_new count best e at h less r x low got = elim (cases_lt r count) [
    | inl before ↦ elim (h.holds r x before got) [ inl l ↦ inl (omega (arith, ints, l, less)) | inr s ↦ let c = s.0 in inl (omega (arith, ints, c, less)) ]
    | inr more ↦
        let same : count ≡ r = omega arith in
        let ends_same : e ≡ x = same_Some e x (sym at ∙ ap (slice_get ends) same ∙ got) in
        inr (ap (end_cost conn left) ends_same, omega arith)
  ]

  lesser_at : (count : ℕ) (best result : Candidate) (e : EndNode) → slice_get ends count ≡ Some e → IsLeastOf count best → IsLesser best (candidate_at conn left count e) result → IsLeastOf (count + 1) result
  lesser_at count best result e at h (inl (is, less)) = subst (IsLeastOf (count + 1)) (sym is) (record {
    end = e;
    within = omega arith;
    here = at;
    cost_is = refl;
    holds = holds_all_new count best e at h less;
  })
  lesser_at count best result e at h (inr (is, more)) = subst (IsLeastOf (count + 1)) (sym is) (record {
    end = h.end;
    within = let w = h.within in omega (arith, w);
    here = h.here;
    cost_is = h.cost_is;
    holds = holds_more count best e at h (elim (cases_z best.cost (end_cost conn left e) more) [ inl less ↦ inl less | inr same ↦ inr (same, let w = h.within in omega (arith, w)) ]);
  })

  -- one more end node
  pub least_more : (d : EndNode) (count : ℕ) (best next result : Candidate) → count < length ends → next ≡ candidate_at conn left count (get_or ends count d) → IsLesser best next result → IsLeastOf count best → IsLeastOf (count + 1) result
  least_more d count best next result within is lesser h = lesser_at count best result (get_or ends count d) (slice_get-get_or ends count d within) h (subst (λ (c : Candidate). IsLesser best c result) is lesser)

  -- the best of all
  pub least_of_all : (d : EndNode) (best : Candidate) (j : Predecessor) → IsLeastOf (length ends) best → j.before ≡ (get_or ends best.rank d).before → j.cost ≡ best.cost → IsLeast conn ends left j
  least_of_all d best j h before cost = record {
    rank = best.rank;
    end = h.end;
    here = h.here;
    before_is = before ∙ ap (λ (e : EndNode). e.before) (get_or_from_slice_get ends best.rank h.end d h.here);
    cost_is = cost ∙ h.cost_is;
    holds = λ r e at.
        subst (λ (z : ℤ). (z <ℤ end_cost conn left e) ⊎ ((z ≡ end_cost conn left e) × (best.rank ≤ r))) (sym cost) (h.holds r e (slice_get_within ends r e at) at);
  }

-- ---- what is cached at a position

pub kept_is_least : (conn : ℕ → ℕ → ℤ) (ends : List EndNode) (found : List CachedPredecessor) (left : ℕ) (j : Predecessor) → AreLeast conn ends found → Contains found (record { left = left; predecessor = j }) → IsLeast conn ends left j
kept_is_least conn ends found left j are h = let g = get_from_Contains found (record { left = left; predecessor = j }) h in are g.0 (record { left = left; predecessor = j }) g.1

pub least_added : (conn : ℕ → ℕ → ℤ) (ends : List EndNode) (found after : List CachedPredecessor) (left : ℕ) (j : Predecessor) → AreLeast conn ends found → IsLeast conn ends left j
    → after ≡ found ++ record { left = left; predecessor = j } ∷ [] → AreLeast conn ends after
least_added conn ends found after left j are best_predecessor pushed = subst (AreLeast conn ends) (sym pushed) (λ i x at. elim (get_push_cases found (record { left = left; predecessor = j }) i x at) [
  | inl old ↦ are i x old
  | inr new ↦ subst (λ (y : CachedPredecessor). IsLeast conn ends y.left y.predecessor) new.1 best_predecessor
])
