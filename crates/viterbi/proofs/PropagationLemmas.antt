-- The predecessor of each node, as nodes are propagated. If no node before a word leads to it at
-- its forward cost, its chain of least cost starts with it.
use Rattle.std.proofs.Common.{◌≡◌, ℕ, ◌+◌, ◌<◌, List, [], ◌∷◌, ◌++◌, length, set, Option, None, Some, ◌⊎◌, inl, inr, refl, sym, ap, ◌∙◌, subst, arith, slice_get}
use Rattle.std.specs.Prelude.{ℤ, pos, ◌+ℤ◌}
use Rattle.std.proofs.lemmas.Bool.{cases_lt}
use Rattle.std.proofs.lemmas.Int.{ints}
use Rattle.std.proofs.lemmas.List.{length-set, length_push}
use Rattle.std.proofs.lemmas.Option.{none-some, same_Some, slice_get_within}
use Rattle.mj_model.specs.declared.word.Word.{Word}
use Rattle.mj_model.specs.ReversedChains.{IsChainTo, cost_to}
use Rattle.viterbi.specs.Search.SearchedText.{CanBeSearched, SearchedText}
use Rattle.viterbi.proofs.Pushed.{get_push_cases}
use Rattle.viterbi.specs.declared.nodes.lattice_node.LatticeNode.{LatticeNode}
use Rattle.viterbi.specs.Nodes.ReachableWords.{IsFirstFrom}
use Rattle.viterbi.proofs.Lists.{get_written}
use Rattle.viterbi.proofs.ForwardCostLemmas.{last_there}
use Rattle.viterbi.specs.Rivals.PredecessorSearch.{ArePropagated, IsPredecessorSoFar, IsPredecessorFrom, IsTotalFrom}
use Rattle.viterbi.specs.Rivals.Neighbors.{AreBefore, IsBefore}
use Rattle.viterbi.specs.Rivals.Places.{AreNodesOf, words_in}
use Rattle.viterbi.specs.declared.rivals.neighbor.Neighbor.{Neighbor}
use Rattle.viterbi.proofs.PlaceLemmas.{node_here, total_of, word_here}

module _ (conn : ℕ → ℕ → ℤ) (nodes : List LatticeNode) where
  -- ---- BOS as the neighbor

  pub record AreToBos (count : ℕ) (links : List Neighbor) : Type 0 where
    pub long : length links ≡ count
    pub none : (k : ℕ) (link : Neighbor) → slice_get links k ≡ Some link → link.node ≡ None
    pub each : (k : ℕ) (n : LatticeNode) (link : Neighbor) → slice_get nodes k ≡ Some n → slice_get links k ≡ Some link → link.connection ≡ conn 0 n.word.left

  pub to_bos_none : (links : List Neighbor) → links ≡ [] → AreToBos 0 links
  to_bos_none links none = subst (AreToBos 0) (sym none) (record { long = refl; none = λ k link at. absurd (cc); each = λ k n link at_n at. absurd (cc) })

  pub to_bos_more : (count : ℕ) (n : LatticeNode) (link : Neighbor) (links after : List Neighbor) → slice_get nodes count ≡ Some n → link.node ≡ None → link.connection ≡ conn 0 n.word.left → after ≡ links ++ (link ∷ []) → AreToBos count links → AreToBos (count + 1) after
  to_bos_more count n link links after here none connection pushed so_far = subst (AreToBos (count + 1)) (sym pushed) (record {
    long = let e = so_far.long in let p = length_push links link in omega (arith, e, p);
    none = λ k other at. elim (get_push_cases links link k other at) [
      | inl old ↦ so_far.none k other old
      | inr new ↦ subst (λ (x : Neighbor). x.node ≡ None) new.1 none
    ];
    each = λ k m other at_m at. elim (get_push_cases links link k other at) [
      | inl old ↦ so_far.each k m other at_m old
      | inr new ↦
          (let same : n ≡ m = same_Some n m (sym here ∙ ap (slice_get nodes) (sym (new.0 ∙ so_far.long)) ∙ at_m) in
          subst (λ (x : Neighbor). x.connection ≡ conn 0 m.word.left) new.1 (subst (λ (x : LatticeNode). link.connection ≡ conn 0 x.word.left) same connection))
    ];
  })

  so_far_none : (n : LatticeNode) (link : Neighbor) → link.node ≡ None → link.connection ≡ conn 0 n.word.left → IsPredecessorSoFar conn nodes n link.connection link.node
  so_far_none n link none connection = subst (IsPredecessorSoFar conn nodes n link.connection) (sym none) connection

  pub to_bos_all : (links : List Neighbor) → AreToBos (length nodes) links → ArePropagated conn nodes 0 0 links
  to_bos_all links all = record {
    long = all.long;
    each = λ k n link at_n at. so_far_none n link (all.none k link at) (all.each k n link at_n at);
    none = λ p k m n link before at_m at_n at none meet sum. elim before [ inl less ↦ omega (arith, less) | inr both ↦ (let less = both.1 in omega (arith, less)) ];
  }

  -- ---- one node is propagated

  module _ (i : ℕ) (m : LatticeNode) (here : slice_get nodes i ≡ Some m) where
    pub handed_from : (first : ℕ) (links : List Neighbor) → IsFirstFrom (words_in nodes) m.word.end first → ArePropagated conn nodes i 0 links → ArePropagated conn nodes i first links
    handed_from first links f h = record {
      long = h.long;
      each = h.each;
      none = λ p k u n link before at_u at_n at none meet sum. elim before [
        | inl less ↦ h.none p k u n link (inl less) at_u at_n at none meet sum
        | inr both ↦
            (let same : m ≡ u = same_Some m u (sym here ∙ ap (slice_get nodes) (sym both.0) ∙ at_u) in
            let e = ap (λ (x : LatticeNode). x.word.end) same in
            let low = f.before k n.word (word_here nodes k n at_n) both.1 in
            omega (arith, e, low, meet))
      ];
    }

    pub handed_all : (next_ones : ℕ) (links : List Neighbor) → IsFirstFrom (words_in nodes) (m.word.end + 1) next_ones → ArePropagated conn nodes i next_ones links → ArePropagated conn nodes (i + 1) 0 links
    handed_all next_ones links f h = record {
      long = h.long;
      each = h.each;
      none = λ p k u n link before at_u at_n at none meet sum. elim before [
        | inr both ↦ (let less = both.1 in omega (arith, less))
        | inl less ↦ elim (cases_lt p i) [
          | inl low ↦ h.none p k u n link (inl low) at_u at_n at none meet sum
          | inr le ↦
              (let at_i : p ≡ i = omega (arith, less, le) in
              elim (cases_lt k next_ones) [
                | inl low ↦ h.none p k u n link (inr (at_i, low)) at_u at_n at none meet sum
                | inr past ↦
                    (let same : m ≡ u = same_Some m u (sym here ∙ ap (slice_get nodes) (sym at_i) ∙ at_u) in
                    let e = ap (λ (x : LatticeNode). x.word.end) same in
                    let high = f.from k n.word (word_here nodes k n at_n) past in
                    omega (arith, e, high, meet))
              ])
        ]
      ];
    }

    -- to one node
    module _ (next : ℕ) (v : LatticeNode) (there : slice_get nodes next ≡ Some v) (meets : m.word.end ≡ v.word.place) (link result : Neighbor) (links after : List Neighbor) (at_link : slice_get links next ≡ Some link) (written : after ≡ set links next result) (is : IsPredecessorFrom conn i m v link result) (h : ArePropagated conn nodes i next links) where
      new_is : IsPredecessorSoFar conn nodes v result.connection result.node
      new_is = elim is [
        | inl taken ↦ subst (IsPredecessorSoFar conn nodes v result.connection) (sym taken.node) (
          m,
          here,
          record {
            meet = meets;
            connection_is = taken.connection;
            total_is = taken.total ∙ ap (λ (c : ℤ). (m.total +ℤ c) +ℤ v.word.cost) (sym taken.connection);
          },
        )
        | inr left ↦ subst (λ (x : Neighbor). IsPredecessorSoFar conn nodes v x.connection x.node) (sym left.is) (h.each next v link there at_link)
      ]

      -- if the new link leads to BOS, it is the one from before, and node i is not before it either
      new_none : result.node ≡ None → (link.node ≡ None) × (IsTotalFrom conn m v → ⊥)
      new_none none = elim is [
        | inl taken ↦ absurd (none-some i (sym none ∙ taken.node))
        | inr left ↦ (ap (λ (x : Neighbor). x.node) (sym left.is) ∙ none, left.other)
      ]

      pub handed_to : ArePropagated conn nodes i (next + 1) after
      handed_to = subst (ArePropagated conn nodes i (next + 1)) (sym written) (record {
        long = length-set links next result ∙ h.long;
        each = λ k n other at_n at. elim (get_written links next k result other at) [
          | inl new ↦
              (let same : v ≡ n = same_Some v n (sym there ∙ ap (slice_get nodes) (sym new.0) ∙ at_n) in
              subst (λ (x : Neighbor). IsPredecessorSoFar conn nodes n x.connection x.node) new.1
              (subst (λ (x : LatticeNode). IsPredecessorSoFar conn nodes x result.connection result.node) same new_is))
          | inr old ↦ h.each k n other at_n old.1
        ];
        none = λ p k u n other before at_u at_n at none meet sum. elim (get_written links next k result other at) [
          | inr old ↦
              (let earlier : (p < i) ⊎ ((p ≡ i) × (k < next)) = elim before [
                | inl less ↦ inl less
                | inr both ↦ inr (both.0, (let less = both.1 in let differs = old.0 in omega (arith, less, differs)))
              ] in
              h.none p k u n other earlier at_u at_n old.1 none meet sum)
          | inl new ↦
              (let same : v ≡ n = same_Some v n (sym there ∙ ap (slice_get nodes) (sym new.0) ∙ at_n) in
              let was = new_none (ap (λ (x : Neighbor). x.node) new.1 ∙ none) in
              elim before [
                | inl less ↦ h.none p next u v link (inl less) at_u there at_link was.0 (meet ∙ ap (λ (x : LatticeNode). x.word.place) (sym same)) (subst (λ (x : LatticeNode). IsTotalFrom conn u x) (sym same) sum)
                | inr both ↦
                    (let is_m : u ≡ m = same_Some u m (sym at_u ∙ ap (slice_get nodes) both.0 ∙ here) in
                    was.1 (subst (λ (x : LatticeNode). IsTotalFrom conn x v) is_m (subst (λ (x : LatticeNode). IsTotalFrom conn u x) (sym same) sum)))
              ])
        ];
      })

-- ---- all nodes

module _ (t : SearchedText) (source : CanBeSearched t) (nodes : List LatticeNode) (are : AreNodesOf t nodes) (links : List Neighbor) (h : ArePropagated t.connection nodes (length nodes) 0 links) where
  module _ (k : ℕ) (n : LatticeNode) (at : slice_get nodes k ≡ Some n) (link : Neighbor) (at_link : slice_get links k ≡ Some link) where
    -- the chain of least cost is the word alone, if no node leads to it
    single_word_surface : link.node ≡ None → (before : List Word) → IsChainTo t.words (n.word ∷ before) n.word.end → n.total ≡ cost_to t.connection (n.word ∷ before) → before ≡ []
    single_word_surface none [] prefix_chain sum = refl
    single_word_surface none (v ∷ vs) prefix_chain sum =
        let there = last_there t.words t.connection t.text_length source.source (words_in nodes) are.words v vs n.word.place prefix_chain.2 in
        let m = node_here nodes there.0 v there.1 in
        let to_v : IsChainTo t.words (v ∷ vs) v.end = (refl, prefix_chain.2.1, prefix_chain.2.2) in
        let to_m = subst (λ (x : Word). IsChainTo t.words (x ∷ vs) x.end) (sym m.2) to_v in
        let cost = ap (λ (x : Word). cost_to t.connection (x ∷ vs)) m.2 in
        let low = (total_of t source nodes are there.0 m.0 m.1).1 (cost_to t.connection (m.0.word ∷ vs)) (vs, to_m, refl) in
        let up = (total_of t source nodes are there.0 m.0 m.1).0 in
        let meets : m.0.word.end ≡ n.word.place = ap (λ (x : Word). x.end) m.2 ∙ prefix_chain.2.0 in
        let right = ap (λ (x : Word). t.connection x.right n.word.left) m.2 in
        let also = (total_of t source nodes are k n at).1 (cost_to t.connection (n.word ∷ (m.0.word ∷ up.0))) (m.0.word ∷ up.0, (refl, prefix_chain.1, (meets, up.1.1, up.1.2)), refl) in
        let same = up.2 in
        absurd (h.none there.0 k m.0 n link (inl (slice_get_within nodes there.0 m.0 m.1)) m.1 at at_link none meets (omega (arith, ints, low, also, sum, cost, right, same)))

    from_bos : link.node ≡ None → IsBefore t.connection nodes n link.connection None
    from_bos none =
        let up = (total_of t source nodes are k n at).0 in
        let is = single_word_surface none up.0 up.1 up.2 in
        let place = subst (λ (us : List Word). IsChainTo t.words us n.word.place) is up.1.2 in
        let connection : link.connection ≡ t.connection 0 n.word.left = subst (IsPredecessorSoFar t.connection nodes n link.connection) none (h.each k n link at at_link) in
        let sum = up.2 ∙ ap (λ (us : List Word). cost_to t.connection (n.word ∷ us)) is in
        record {
          place = place;
          connection_is = connection;
          total_is = sum ∙ ap (λ (c : ℤ). (pos 0 +ℤ c) +ℤ n.word.cost) (sym connection);
        }

    before_from : (o : Option ℕ) → link.node ≡ o → IsPredecessorSoFar t.connection nodes n link.connection o → IsBefore t.connection nodes n link.connection o
    before_from None none so_far = from_bos none
    before_from (Some j) some so_far = so_far

  pub links_are : AreBefore t.connection nodes links
  links_are = record {
    long = h.long;
    each = λ k n link at at_link. before_from k n at link at_link link.node refl (h.each k n link at at_link);
  }
