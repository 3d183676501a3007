-- Backward costs, computed from the last word back. The words that may follow a word are
-- consecutive and later in the list, so their backward costs are known. A path ends at the greatest
-- end of all words.
use Rattle.std.proofs.Common.{◌≡◌, ℕ, ◌+◌, ◌≤◌, List, [], ◌∷◌, ◌++◌, length, max, set, Contains, Option, None, Some, reverse, inl, inr, refl, sym, ap, ◌∙◌, subst, arith, slice_get}
use Rattle.std.specs.Prelude.{ℤ, ◌+ℤ◌}
use Rattle.std.proofs.lemmas.Bool.{cases_lt}
use Rattle.std.proofs.lemmas.Int.{ints}
use Rattle.std.proofs.lemmas.List.{length-set}
use Rattle.mj_model.specs.declared.word.Word.{Word}
use Rattle.mj_model.specs.Best.{IsSource}
use Rattle.mj_model.specs.ReversedChains.{IsChainTo}
use Rattle.mj_model.specs.Cost.{cost_after}
use Rattle.mj_model.specs.Paths.{IsChain}
use Rattle.mj_model.proofs.ReversedChainLemmas.{chain_forward, chain_reversed}
use Rattle.viterbi.proofs.Pushed.{get_push_cases, get_push_new, get_push_old}
use Rattle.viterbi.specs.declared.nodes.cost.ChainCost.{ChainCost}
use Rattle.viterbi.specs.Nodes.LatticeNodes.{AreReachableBefore, IsReached}
use Rattle.viterbi.specs.Nodes.Least.{IsLeastOf, IsLesser, number_of}
use Rattle.viterbi.specs.Nodes.ReachableWords.{IsFirstFrom}
use Rattle.viterbi.specs.Nodes.BackwardCosts.{AreBackwardCosts, CostsToEos, CostsToEosBelow, IsLastEnd, IsLongest}
use Rattle.viterbi.specs.Nodes.ForwardCosts.{HeadIsBelow}
use Rattle.viterbi.proofs.LeastLemmas.{least_moved, least_or, least_same}
use Rattle.viterbi.proofs.Lists.{get_written}
use Rattle.viterbi.proofs.ReachableLemmas.{reached_after}
use Rattle.viterbi.proofs.ForwardCostLemmas.{below_cases, below_more, last_there, none_below, word_there}

module _ (words : ℕ → List Word) (conn : ℕ → ℕ → ℤ) (len : ℕ) (source : IsSource words conn len) (ws : List Word) (r : AreReachableBefore words len ws) where
  -- ---- the last end

  module _ (last : ℕ) (is_last : IsLastEnd ws last) where
    greatest : (vs : List Word) (later : ℕ) → IsChainTo words vs later → later ≤ last
    greatest [] later h = omega (arith, h)
    greatest (v ∷ vs) later h =
        let f = last_there words conn len source ws r v vs later h in
        let low = is_last.each f.0 v f.1 in
        omega (arith, low, h.0)

    latest_there : IsLongest words last
    latest_there = λ vs later h. greatest (reverse vs) later (chain_reversed words conn len source.are vs later h)

    no_earlier : (to : ℕ) → IsLongest words to → last ≤ to
    no_earlier to h = elim is_last.there [
      | inl zero_is ↦ omega (arith, zero_is)
      | inr f ↦
          let b = r.each f.0 f.1 f.2 in
          let low = h (reverse (f.1 ∷ b.0)) f.1.end (chain_forward words conn len source.are (f.1 ∷ b.0) f.1.end b.1) in
          let e = f.3 in
          omega (arith, low, e)
    ]

    -- a path that ends with the word goes on at the cost of the connection to EOS
    ends_there : (w : Word) (c : ℤ) (after : List Word) (to : ℕ) → IsChain words w.end after to → IsLongest words to → after ≡ [] → c ≡ cost_after conn w.right after → IsLongest words w.end × (c ≡ conn w.right 0)
    ends_there w c after to h latest none e = (
      subst (IsLongest words) (sym (subst (λ (us : List Word). IsChain words w.end us to) none h)) latest,
      e ∙ ap (cost_after conn w.right) none,
    )

    pub ended_some : (w : Word) (x : ℤ) → w.end ≡ last → x ≡ conn w.right 0 → IsLeastOf (CostsToEosBelow words conn ws 0 w) (Some x)
    ended_some w x at e = (
      ([], w.end, refl, subst (IsLongest words) (sym at) latest_there, tt, e),
      λ c p.
          let b = (ends_there w c p.0 p.1 p.2 p.3 (none_below ws p.0 p.4) p.5).1 in
          omega (arith, ints, b, e),
    )

    pub ended_none : (i : ℕ) (w : Word) → slice_get ws i ≡ Some w → (w.end ≡ last → ⊥) → IsLeastOf (CostsToEosBelow words conn ws 0 w) None
    ended_none i w at other = λ c p.
        let b = no_earlier w.end (ends_there w c p.0 p.1 p.2 p.3 (none_below ws p.0 p.4) p.5).0 in
        let low = is_last.each i w at in
        other (omega (arith, b, low))

  -- ---- the words that may follow a word

  module _ (w : Word) where
    no_head : (first : ℕ) (vs : List Word) (to : ℕ) → IsFirstFrom ws w.end first → IsChain words w.end vs to → HeadIsBelow ws first vs → HeadIsBelow ws 0 vs
    no_head first [] to f h below = tt
    no_head first (v ∷ vs) to f h below =
        let low = f.before below.0 v below.2 below.1 in
        let e = source.are.places w.end v h.0 in
        absurd (omega (arith, low, e))

    -- none comes before the first of them
    pub backward_begins : (first : ℕ) (o : Option ℤ) → IsFirstFrom ws w.end first → IsLeastOf (CostsToEosBelow words conn ws 0 w) o → IsLeastOf (CostsToEosBelow words conn ws first w) o
    backward_begins first o f h =
        least_same (CostsToEosBelow words conn ws 0 w) (CostsToEosBelow words conn ws first w) o
        (λ c p. (p.0, p.1, p.2, p.3, below_more ws 0 first p.0 (omega arith) p.4, p.5))
        (λ c q. (q.0, q.1, q.2, q.3, no_head first q.0 q.1 f q.2 q.4, q.5))
        h

    head_before : (next_ones : ℕ) (vs : List Word) (to : ℕ) → IsReached words w → IsFirstFrom ws (w.end + 1) next_ones → IsChain words w.end vs to → HeadIsBelow ws next_ones vs
    head_before next_ones [] to b f h = tt
    head_before next_ones (v ∷ vs) to b f h =
        let e = source.are.places w.end v h.0 in
        let reached = reached_after words conn len source (w ∷ b.0) w.end v b.1 h.0 in
        let g = last_there words conn len source ws r v reached.0 v.end reached.1 in
        elim (cases_lt g.0 next_ones) [
          | inl less ↦ (g.0, less, g.1)
          | inr more ↦ (let low = f.from g.0 v g.1 more in absurd (omega (arith, low, e)))
        ]

    -- and all come before the first word of the next position
    pub backward_ends : (next_ones : ℕ) (o : Option ℤ) → IsReached words w → IsFirstFrom ws (w.end + 1) next_ones → IsLeastOf (CostsToEosBelow words conn ws next_ones w) o → IsLeastOf (CostsToEos words conn w) o
    backward_ends next_ones o b f h =
        least_same (CostsToEosBelow words conn ws next_ones w) (CostsToEos words conn w) o
        (λ c p. (p.0, p.1, p.2, p.3, p.5))
        (λ c q. (q.0, q.1, q.2, q.3, head_before next_ones q.0 q.1 b f q.2, q.4))
        h

    module _ (k : ℕ) (v : Word) (at : slice_get ws k ≡ Some v) (follows : v.place ≡ w.end) where
      -- what it costs to go on with v
      abbrev CostsWith : ℤ → Type 0
      CostsWith c = (after : List Word) × (to : ℕ) × IsChain words v.end after to × IsLongest words to × (c ≡ cost_after conn w.right (v ∷ after))

      least_on : (x y : ℤ) → y ≡ (x +ℤ conn w.right v.left) +ℤ v.cost → IsLeastOf (CostsToEos words conn v) (Some x) → IsLeastOf CostsWith (Some y)
      least_on x y e h =
          least_moved (CostsToEos words conn v) CostsWith x y (conn w.right v.left +ℤ v.cost)
          (omega (arith, ints, e))
          (λ c p. (p.0, p.1, p.2, p.3, (let is = p.4 in omega (arith, ints, is))))
          (λ c q. (cost_after conn v.right q.0, (q.0, q.1, q.2, q.3, refl), (let is = q.4 in omega (arith, ints, is))))
          h

      there : Contains (words w.end) v
      there = subst (λ (q : ℕ). Contains (words q) v) follows (word_there words conn len source ws r k v at)

      -- one of them, after which a path goes on
      pub goes_on_with : (x : ℤ) (o : Option ChainCost) (found result : ChainCost) → IsLeastOf (CostsToEos words conn v) (Some x) → found.cost ≡ (x +ℤ conn w.right v.left) +ℤ v.cost → IsLesser o found result
          → IsLeastOf (CostsToEosBelow words conn ws k w) (number_of o) → IsLeastOf (CostsToEosBelow words conn ws (k + 1) w) (Some result.cost)
      goes_on_with x o found result known is lesser h =
          least_or (CostsToEosBelow words conn ws k w) CostsWith (CostsToEosBelow words conn ws (k + 1) w) o found result
          (λ c p. (p.0, p.1, p.2, p.3, below_more ws k (k + 1) p.0 (omega arith) p.4, p.5))
          (λ c q. (v ∷ q.0, q.1, (there, q.2), q.3, (k, omega arith, at), q.4))
          (λ c p. elim (below_cases ws k v p.0 at p.4) [
            | inl b ↦ inl (p.0, p.1, p.2, p.3, b, p.5)
            | inr f ↦
                (let on = subst (λ (us : List Word). IsChain words w.end us p.1) f.1 p.2 in
                inr (f.0, p.1, on.1, p.3, p.5 ∙ ap (cost_after conn w.right) f.1))
          ])
          h (least_on x found.cost is known) lesser

      -- one after which none does
      pub goes_not_on : (o : Option ℤ) → IsLeastOf (CostsToEos words conn v) None → IsLeastOf (CostsToEosBelow words conn ws k w) o → IsLeastOf (CostsToEosBelow words conn ws (k + 1) w) o
      goes_not_on o none h =
          least_same (CostsToEosBelow words conn ws k w) (CostsToEosBelow words conn ws (k + 1) w) o
          (λ c p. (p.0, p.1, p.2, p.3, below_more ws k (k + 1) p.0 (omega arith) p.4, p.5))
          (λ c q. elim (below_cases ws k v q.0 at q.4) [
            | inl b ↦ (q.0, q.1, q.2, q.3, b, q.5)
            | inr f ↦
                (let on = subst (λ (us : List Word). IsChain words w.end us q.1) f.1 q.2 in
                absurd (none (cost_after conn v.right f.0) (f.0, q.1, on.1, q.3, refl)))
          ])
          h

-- ---- in the list

-- what follows one more word is known
pub backward_written : (words : ℕ → List Word) (conn : ℕ → ℕ → ℤ) (ws : List Word) (backward_costs : List (Option ChainCost)) (i : ℕ) (o : Option ChainCost)
    → ((w : Word) → slice_get ws i ≡ Some w → IsLeastOf (CostsToEos words conn w) (number_of o)) → AreBackwardCosts words conn ws (i + 1) backward_costs → AreBackwardCosts words conn ws i (set backward_costs i o)
backward_written words conn ws backward_costs i o is a = record {
  long = length-set backward_costs i o ∙ a.long;
  known = λ k w p low at_w at_p. elim (get_written backward_costs i k o p at_p) [
    | inl new ↦
        (subst (λ (q : Option ChainCost). IsLeastOf (CostsToEos words conn w) (number_of q)) new.1
        (is w (ap (slice_get ws) (sym new.0) ∙ at_w)))
    | inr old ↦ (let other = old.0 in a.known k w p (omega (arith, low, other)) at_w old.1)
  ];
  ended = λ k w p less at_w at_p. elim (get_written backward_costs i k o p at_p) [
    | inl new ↦ (let e = new.0 in absurd (omega (arith, e, less)))
    | inr old ↦ a.ended k w p (omega (arith, less)) at_w old.1
  ];
}

-- ---- the last end of the first words

pub last_of_none : IsLastEnd [] 0
last_of_none = record { each = λ i w at. absurd (cc); there = inl refl }

pub last_with : (ws : List Word) (w : Word) (last : ℕ) → IsLastEnd ws last → IsLastEnd (ws ++ w ∷ []) (max last w.end)
last_with ws w last h = record {
  each = λ i v at. elim (get_push_cases ws w i v at) [
    | inl old ↦ (let low = h.each i v old in omega (arith, low))
    | inr new ↦ (let e = ap (λ (x : Word). x.end) new.1 in omega (arith, e))
  ];
  there = elim (cases_lt last w.end) [
    | inl less ↦ inr (length ws, w, get_push_new ws w, omega (arith, less))
    | inr more ↦ elim h.there [
      | inl zero_is ↦ inl (omega (arith, zero_is, more))
      | inr f ↦ (let e = f.3 in inr (f.0, f.1, get_push_old ws w f.0 f.1 f.2, omega (arith, e, more)))
    ]
  ];
}
