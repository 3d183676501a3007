-- One word's forward cost propagated, and one word's backward cost: as the code visits the words
-- between the first words of two positions.
use Rattle.std.proofs.Common.{◌≡◌, ℕ, ◌+◌, ◌<◌, ◌≤◌, List, [], ◌∷◌, ◌++◌, length, get_or, set, Option, None, Some, inl, inr, refl, sym, ap, ◌∙◌, subst, arith, slice_get}
use Rattle.std.specs.Prelude.{◌+ℤ◌}
use Rattle.std.proofs.lemmas.Option.{same_Some, slice_get-get_or, slice_get_within}
use Rattle.mj_model.specs.declared.word.Word.{Word}
use Rattle.viterbi.specs.Search.SearchedText.{CanBeSearched, SearchedText}
use Rattle.viterbi.proofs.Pushed.{get_push_cases}
use Rattle.viterbi.specs.Nodes.Assembled.{IsSmall, IsSmallIfSome}
use Rattle.viterbi.specs.declared.nodes.cost.ChainCost.{ChainCost}
use Rattle.viterbi.specs.declared.nodes.reachable_words.ReachableWords.{ReachableWords}
use Rattle.viterbi.specs.Nodes.LatticeNodes.{CostsUpTo}
use Rattle.viterbi.specs.Nodes.Least.{IsLeastOf, IsLesser, number_of}
use Rattle.viterbi.specs.Nodes.ReachableWords.{AreReachedIn, IsFirstFrom}
use Rattle.viterbi.specs.Nodes.BackwardCosts.{AreBackwardCostsFrom, CostsToEos, CostsToEosBelow, IsEosCost, IsLastEnd, IsLeastWith, IsBackwardCostAt}
use Rattle.viterbi.specs.Nodes.ForwardCosts.{ArePropagatedIn, AreForwardCostsIn, CostsUpToBelow, IsFirstForwardCost}
use Rattle.viterbi.proofs.ReachableLemmas.{between_firsts}
use Rattle.viterbi.proofs.BackwardCostLemmas.{ended_none, ended_some, goes_not_on, goes_on_with, backward_begins, backward_ends}
use Rattle.viterbi.proofs.SourceLemmas.{backward_small, total_small, total_there}
use Rattle.viterbi.proofs.ForwardCostLemmas.{started_none, started_some, passed_all, passed_from, passed_to, appears_earlier, total_known, word_there}

-- what holds of words and costs at one index, with one more cost
pub holds_pushed : (P : Word → Option ChainCost → Type 0) (ws : List Word) (os after : List (Option ChainCost)) (o : Option ChainCost) (i : ℕ) (w : Word) → length os ≡ i → slice_get ws i ≡ Some w → after ≡ os ++ o ∷ [] → P w o
    → ((k : ℕ) (v : Word) (p : Option ChainCost) → slice_get ws k ≡ Some v → slice_get os k ≡ Some p → P v p)
    → (k : ℕ) (v : Word) (p : Option ChainCost) → slice_get ws k ≡ Some v → slice_get after k ≡ Some p → P v p
holds_pushed P ws os after o i w long at pushed here each k v p at_v at_p =
    elim (get_push_cases os o k p (ap (λ (xs : List (Option ChainCost)). slice_get xs k) (sym pushed) ∙ at_p)) [
      | inl old ↦ each k v p at_v old
      | inr new ↦
          let same : w ≡ v = same_Some w v (sym at ∙ ap (slice_get ws) (sym (new.0 ∙ long)) ∙ at_v) in
          subst (P v) new.1 (subst (λ (x : Word). P x o) same here)
    ]

module _ (t : SearchedText) (r : ReachableWords) (source : CanBeSearched t) (reached : AreReachedIn t r) where
  -- ---- the first costs in both directions

  pub started : (i : ℕ) (w : Word) (o : Option ChainCost) → slice_get r.words.items i ≡ Some w → IsFirstForwardCost t w o → IsLeastOf (CostsUpToBelow t.words t.connection r.words.items 0 w) (number_of o)
  started i w None at h = started_none t.words t.connection t.text_length source.source r.words.items reached.are w h
  started i w (Some x) at h = started_some t.words t.connection t.text_length source.source r.words.items reached.are i w x.cost at h.0 h.1

  pub ended : (last i : ℕ) (w : Word) (o : Option ChainCost) → IsLastEnd r.words.items last → slice_get r.words.items i ≡ Some w → IsEosCost t last w o → IsLeastOf (CostsToEosBelow t.words t.connection r.words.items 0 w) (number_of o)
  ended last i w None is_last at h = ended_none t.words t.connection t.text_length source.source r.words.items reached.are last is_last i w at h
  ended last i w (Some x) is_last at h = ended_some t.words t.connection t.text_length source.source r.words.items reached.are last is_last w x.cost h.0 h.1

  pub started_all : (forward_costs : List (Option ChainCost)) → length forward_costs ≡ length r.words.items
      → ((k : ℕ) (w : Word) (o : Option ChainCost) → slice_get r.words.items k ≡ Some w → slice_get forward_costs k ≡ Some o → IsLeastOf (CostsUpToBelow t.words t.connection r.words.items 0 w) (number_of o))
      → ArePropagatedIn t r 0 0 forward_costs
  started_all forward_costs long each = record {
    long = long;
    past = λ k w o less at_w at_o. absurd (omega (arith, less));
    rest = λ k w o low at_w at_o. each k w o at_w at_o;
  }

  pub ended_all : (backward_costs : List (Option ChainCost)) → length backward_costs ≡ length r.words.items
      → ((k : ℕ) (w : Word) (o : Option ChainCost) → slice_get r.words.items k ≡ Some w → slice_get backward_costs k ≡ Some o → IsLeastOf (CostsToEosBelow t.words t.connection r.words.items 0 w) (number_of o))
      → AreBackwardCostsFrom t r (length r.words.items) backward_costs
  ended_all backward_costs long each = record {
    long = long;
    known = λ k w o low at_w at_o. absurd (let l = slice_get_within r.words.items k w at_w in omega (arith, l, low));
    ended = λ k w o less at_w at_o. each k w o at_w at_o;
  }

  -- the forward costs of all words were propagated
  pub forward_costs_all : (forward_costs : List (Option ChainCost)) → ArePropagatedIn t r (length r.words.items) 0 forward_costs → AreForwardCostsIn t r forward_costs
  forward_costs_all forward_costs a = record {
    long = a.long;
    each = λ k w o at_w at_o. total_known t.words t.connection t.text_length source.source r.words.items reached.are k (length r.words.items) w (number_of o) at_w
        (let l = slice_get_within r.words.items k w at_w in omega (arith, l)) (a.rest k w o (omega arith) at_w at_o);
  }

  -- ---- a word

  module _ (n : ℕ) (w : Word) (at : slice_get r.words.items n ≡ Some w) where
    -- its forward cost

    module _ (forward_costs : List (Option ChainCost)) (before : ArePropagatedIn t r n 0 forward_costs) where
      own_total : IsLeastOf (CostsUpTo t.words t.connection w) (number_of (get_or forward_costs n None))
      own_total =
          let long = before.long in
          let low = slice_get_within r.words.items n w at in
          total_known t.words t.connection t.text_length source.source r.words.items reached.are n n w (number_of (get_or forward_costs n None)) at (omega arith)
          (before.rest n w (get_or forward_costs n None) (omega arith) at (slice_get-get_or forward_costs n None (omega (arith, low, long))))

      pub own_there : (x : ChainCost) × (get_or forward_costs n None ≡ Some x)
      own_there = total_there t r source reached n w (get_or forward_costs n None) at own_total

      pub own_is : (x : ChainCost) → get_or forward_costs n None ≡ Some x → IsLeastOf (CostsUpTo t.words t.connection w) (Some x.cost)
      own_is x e = subst (λ (q : Option ChainCost). IsLeastOf (CostsUpTo t.words t.connection w) (number_of q)) e own_total

      pub own_small : (x : ChainCost) → get_or forward_costs n None ≡ Some x → IsSmall x
      own_small x e = total_small t r source reached n w (Some x) at (own_is x e)

    pub handed_from : (forward_costs : List (Option ChainCost)) (first : ℕ) → IsFirstFrom r.words.items w.end first → ArePropagatedIn t r n 0 forward_costs → ArePropagatedIn t r n first forward_costs
    handed_from forward_costs first f a = passed_from t.words t.connection t.text_length source.source r.words.items reached.are n w at forward_costs first f a

    pub handed_all : (forward_costs : List (Option ChainCost)) (next_ones : ℕ) → IsFirstFrom r.words.items (w.end + 1) next_ones → ArePropagatedIn t r n next_ones forward_costs → ArePropagatedIn t r (n + 1) 0 forward_costs
    handed_all forward_costs next_ones g a = passed_all t.words t.connection t.text_length source.source r.words.items reached.are n w at forward_costs next_ones g a

    -- a word that may follow it

    module _ (first next_ones k : ℕ) (v : Word) (at_v : slice_get r.words.items k ≡ Some v) (f : IsFirstFrom r.words.items w.end first) (g : IsFirstFrom r.words.items (w.end + 1) next_ones) (low : first ≤ k) (high : k < next_ones) where
      next_follows : v.place ≡ w.end
      next_follows = between_firsts r.words.items w.end first next_ones k v f g at_v low high

      pub handed_next : (forward_costs : List (Option ChainCost)) (total found result : ChainCost) → IsLeastOf (CostsUpTo t.words t.connection w) (Some total.cost)
          → found.cost ≡ (total.cost +ℤ t.connection w.right v.left) +ℤ v.cost → IsLesser (get_or forward_costs k None) found result
          → ArePropagatedIn t r n k forward_costs → ArePropagatedIn t r n (k + 1) (set forward_costs k (Some result))
      handed_next forward_costs total found result known is lesser a =
          let long = a.long in
          let within = slice_get_within r.words.items k v at_v in
          passed_to t.words t.connection t.text_length source.source r.words.items reached.are n w at forward_costs k v total.cost (get_or forward_costs k None) found result
          at_v (slice_get-get_or forward_costs k None (omega (arith, within, long))) next_follows known is lesser a

      -- the backward cost of it is known
      module _ (backward_costs : List (Option ChainCost)) (later : AreBackwardCostsFrom t r (n + 1) backward_costs) where
        next_later : n < k
        next_later =
            let on = source.source.are.go_on w.place w (word_there t.words t.connection t.text_length source.source r.words.items reached.are n w at) in
            let e = next_follows in
            appears_earlier t.words t.connection t.text_length source.source r.words.items reached.are n k w v at at_v (omega (arith, on, e))

        next_backward : IsLeastOf (CostsToEos t.words t.connection v) (number_of (get_or backward_costs k None))
        next_backward =
            let long = later.long in
            let within = slice_get_within r.words.items k v at_v in
            let after = next_later in
            later.known k v (get_or backward_costs k None) (omega (arith, after)) at_v (slice_get-get_or backward_costs k None (omega (arith, within, long)))

        pub next_small : IsSmallIfSome (get_or backward_costs k None)
        next_small = backward_small t r source reached k v (get_or backward_costs k None) at_v next_backward

        with_next : (least rest result : Option ChainCost) → IsLeastWith t least rest w.right v result → IsLeastOf (CostsToEos t.words t.connection v) (number_of rest)
            → IsLeastOf (CostsToEosBelow t.words t.connection r.words.items k w) (number_of least) → IsLeastOf (CostsToEosBelow t.words t.connection r.words.items (k + 1) w) (number_of result)
        with_next least None result l h b =
            subst (λ (q : Option ChainCost). IsLeastOf (CostsToEosBelow t.words t.connection r.words.items (k + 1) w) (number_of q)) (sym l)
            (goes_not_on t.words t.connection t.text_length source.source r.words.items reached.are w k v at_v next_follows (number_of least) h b)
        with_next least (Some rest) None l h b = absurd l
        with_next least (Some rest) (Some result) l h b =
            let found : ChainCost = record { cost = (rest.cost +ℤ t.connection w.right v.left) +ℤ v.cost } in
            goes_on_with t.words t.connection t.text_length source.source r.words.items reached.are w k v at_v next_follows rest.cost least found result h refl l b

        pub backward_next : (least result : Option ChainCost) → IsLeastWith t least (get_or backward_costs k None) w.right v result
            → IsLeastOf (CostsToEosBelow t.words t.connection r.words.items k w) (number_of least) → IsLeastOf (CostsToEosBelow t.words t.connection r.words.items (k + 1) w) (number_of result)
        backward_next least result l b = with_next least (get_or backward_costs k None) result l next_backward b

    -- its backward cost

    pub backward_first : (backward_costs : List (Option ChainCost)) (first : ℕ) → AreBackwardCostsFrom t r (n + 1) backward_costs → IsFirstFrom r.words.items w.end first
        → IsLeastOf (CostsToEosBelow t.words t.connection r.words.items first w) (number_of (get_or backward_costs n None))
    backward_first backward_costs first later f =
        let long = later.long in
        let low = slice_get_within r.words.items n w at in
        backward_begins t.words t.connection t.text_length source.source r.words.items reached.are w first (number_of (get_or backward_costs n None)) f
        (later.ended n w (get_or backward_costs n None) (omega arith) at (slice_get-get_or backward_costs n None (omega (arith, low, long))))

    pub backward_last : (next_ones : ℕ) (o : Option ChainCost) → IsFirstFrom r.words.items (w.end + 1) next_ones
        → IsLeastOf (CostsToEosBelow t.words t.connection r.words.items next_ones w) (number_of o) → IsBackwardCostAt t r n o
    backward_last next_ones o g h u at_u =
        let same : w ≡ u = same_Some w u (sym at ∙ at_u) in
        subst (λ (x : Word). IsLeastOf (CostsToEos t.words t.connection x) (number_of o)) same
        (backward_ends t.words t.connection t.text_length source.source r.words.items reached.are w next_ones (number_of o) (reached.are.each n w at) g h)
