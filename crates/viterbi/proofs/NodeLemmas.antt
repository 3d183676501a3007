-- The nodes made of the words and their forward and backward costs.
use Rattle.std.proofs.Common.{◌≡◌, ℕ, suc, ◌+◌, List, [], ◌∷◌, ◌++◌, All, length, get_or, map, Option, None, Some, inl, inr, refl, sym, ap, ◌∙◌, subst, arith, slice_get}
use Rattle.std.specs.Prelude.{ℤ, IsSome}
use Rattle.std.proofs.lemmas.List.{length_push}
use Rattle.std.proofs.lemmas.Option.{same_Some, slice_get-get_or, slice_get_within}
use Rattle.mj_model.specs.declared.word.Word.{Word}
use Rattle.viterbi.specs.Search.SearchedText.{CanBeSearched, SearchedText}
use Rattle.viterbi.proofs.Pushed.{get_push_cases}
use Rattle.viterbi.proofs.WordNumbers.{no_word}
use Rattle.viterbi.specs.Nodes.Assembled.{AreNodes, IsNodeAt, IsSmall, IsSmallIfSome, IsSmallTotal, sum_of}
use Rattle.viterbi.specs.declared.nodes.cost.ChainCost.{ChainCost}
use Rattle.viterbi.specs.declared.nodes.lattice_node.LatticeNode.{LatticeNode}
use Rattle.viterbi.specs.declared.nodes.reachable_words.ReachableWords.{ReachableWords}
use Rattle.viterbi.specs.Nodes.LatticeNodes.{AreReachableBefore, AreWordsOfLattice, CostsThrough, CostsUpTo, HasLeastThrough, HasLeastForwardCost}
use Rattle.viterbi.specs.Nodes.Least.{IsLeastOf, number_of}
use Rattle.viterbi.specs.Nodes.ReachableWords.{AreReachedIn}
use Rattle.viterbi.specs.Nodes.BackwardCosts.{AreBackwardCostsIn}
use Rattle.viterbi.specs.Nodes.ForwardCosts.{AreForwardCostsIn}
use Rattle.viterbi.proofs.LeastLemmas.{plus}
use Rattle.viterbi.proofs.PathParts.{least_through}
use Rattle.viterbi.proofs.SourceLemmas.{backward_small, total_small}

-- ---- one node after another

pub no_nodes : (ws : List Word) (forward_costs backward_costs : List (Option ChainCost)) → AreNodes ws forward_costs backward_costs 0 []
no_nodes ws forward_costs backward_costs = record { long = refl; each = λ i n at. absurd (cc) }

pub node_pushed : (ws : List Word) (forward_costs backward_costs : List (Option ChainCost)) (count : ℕ) (nodes after : List LatticeNode) (n : LatticeNode) → after ≡ nodes ++ n ∷ [] → IsNodeAt ws forward_costs backward_costs count n → AreNodes ws forward_costs backward_costs count nodes
    → AreNodes ws forward_costs backward_costs (count + 1) after
node_pushed ws forward_costs backward_costs count nodes after n pushed is a = subst (AreNodes ws forward_costs backward_costs (count + 1)) (sym pushed) (record {
  long = let e = a.long in omega (arith, length_push nodes n, e);
  each = λ i m at. elim (get_push_cases nodes n i m at) [
    | inl old ↦ a.each i m old
    | inr new ↦ subst (IsNodeAt ws forward_costs backward_costs i) new.1 (subst (λ (k : ℕ). IsNodeAt ws forward_costs backward_costs k n) (sym (new.0 ∙ a.long)) is)
  ];
})

-- equal lists make equal nodes
pub nodes_along : (ws ws_too : List Word) (forward_costs forward_costs_too backward_costs backward_costs_too : List (Option ChainCost)) (nodes : List LatticeNode) → ws ≡ ws_too → forward_costs ≡ forward_costs_too → backward_costs ≡ backward_costs_too → AreNodes ws forward_costs backward_costs (length ws) nodes
    → AreNodes ws_too forward_costs_too backward_costs_too (length ws_too) nodes
nodes_along ws ws_too forward_costs forward_costs_too backward_costs backward_costs_too nodes a b c are =
    subst (λ (us : List Word). AreNodes us forward_costs_too backward_costs_too (length us) nodes) a
    (subst (λ (os : List (Option ChainCost)). AreNodes ws os backward_costs_too (length ws) nodes) b
    (subst (λ (os : List (Option ChainCost)). AreNodes ws forward_costs os (length ws) nodes) c are))

-- a small forward cost is one
pub total_is_some : (o : Option ChainCost) → IsSmallTotal o → IsSome o
total_is_some None h = absurd h
total_is_some (Some x) h = refl

pub total_is_small : (o : Option ChainCost) (x : ChainCost) → IsSmallTotal o → o ≡ Some x → IsSmall x
total_is_small o x h e = subst IsSmallTotal e h

-- the words of the nodes
words_of_nodes : (nodes : List LatticeNode) (ws : List Word) → length nodes ≡ length ws → ((i : ℕ) (n : LatticeNode) → slice_get nodes i ≡ Some n → slice_get ws i ≡ Some n.word) → map (λ (n : LatticeNode). n.word) nodes ≡ ws
words_of_nodes [] [] long each = refl
words_of_nodes [] (w ∷ ws) long each = absurd (omega (arith, long))
words_of_nodes (n ∷ nodes) [] long each = absurd (omega (arith, long))
words_of_nodes (n ∷ nodes) (w ∷ ws) long each =
    let first : w ≡ n.word = same_Some w n.word (each 0 n refl) in
    let rest : map (λ (m : LatticeNode). m.word) nodes ≡ ws = words_of_nodes nodes ws (omega (arith, long)) (λ i m at. each (suc i) m at) in
    ap (λ (x : Word). x ∷ map (λ (m : LatticeNode). m.word) nodes) (sym first) ∙ ap (λ (us : List Word). w ∷ us) rest

sum_is : (x : ChainCost) (o : Option ChainCost) → plus x.cost (number_of o) ≡ sum_of x o
sum_is x None = refl
sum_is x (Some y) = refl

module _ (t : SearchedText) (r : ReachableWords) (source : CanBeSearched t) (reached : AreReachedIn t r) where
  module _ (forward_costs backward_costs : List (Option ChainCost)) (forward_costs_are : AreForwardCostsIn t r forward_costs) (backward_costs_are : AreBackwardCostsIn t r backward_costs) where
    total_at : (i : ℕ) (o : Option ChainCost) → slice_get forward_costs i ≡ Some o → IsSmallTotal o
    total_at i o at =
        let long = forward_costs_are.long in
        let low = slice_get_within forward_costs i o at in
        let here = slice_get-get_or r.words.items i no_word (omega (arith, low, long)) in
        let w = get_or r.words.items i no_word in
        total_small t r source reached i w o here (forward_costs_are.each i w o here at)

    backward_cost_at : (i : ℕ) (o : Option ChainCost) → slice_get backward_costs i ≡ Some o → IsSmallIfSome o
    backward_cost_at i o at =
        let long = backward_costs_are.long in
        let low = slice_get_within backward_costs i o at in
        let here = slice_get-get_or r.words.items i no_word (omega (arith, low, long)) in
        let w = get_or r.words.items i no_word in
        backward_small t r source reached i w o here (backward_costs_are.known i w o (omega arith) here at)

    pub forward_costs_small : All IsSmallTotal forward_costs
    forward_costs_small i d within = total_at i (get_or forward_costs i d) (slice_get-get_or forward_costs i d within)

    pub backward_costs_small : All IsSmallIfSome backward_costs
    backward_costs_small i d within = backward_cost_at i (get_or backward_costs i d) (slice_get-get_or backward_costs i d within)

    -- ---- what the nodes are

    module _ (nodes : List LatticeNode) (are : AreNodes r.words.items forward_costs backward_costs (length r.words.items) nodes) where
      pub words_are : AreWordsOfLattice t nodes
      words_are = subst (AreReachableBefore t.words t.text_length) (sym (words_of_nodes nodes r.words.items are.long (λ i n at. (are.each i n at).word_here))) reached.are

      has_total : (i : ℕ) (n : LatticeNode) → slice_get nodes i ≡ Some n → HasLeastForwardCost t n
      has_total i n at =
          let x = are.each i n at in
          subst (λ (z : ℤ). IsLeastOf (CostsUpTo t.words t.connection n.word) (Some z)) (sym x.total_is) (forward_costs_are.each i n.word (Some x.total) x.word_here x.total_here)

      has_through : (i : ℕ) (n : LatticeNode) → slice_get nodes i ≡ Some n → HasLeastThrough t n
      has_through i n at =
          let x = are.each i n at in
          subst (IsLeastOf (CostsThrough t.words t.connection n.word)) (sum_is x.total x.backward ∙ sym x.through_is)
          (least_through t.words t.connection t.text_length source.source.are n.word x.total.cost (number_of x.backward)
          (forward_costs_are.each i n.word (Some x.total) x.word_here x.total_here)
          (backward_costs_are.known i n.word x.backward (omega arith) x.word_here x.backward_here))

      pub have_forward_costs : All (HasLeastForwardCost t) nodes
      have_forward_costs i d within = has_total i (get_or nodes i d) (slice_get-get_or nodes i d within)

      pub have_through : All (HasLeastThrough t) nodes
      have_through i d within = has_through i (get_or nodes i d) (slice_get-get_or nodes i d within)
