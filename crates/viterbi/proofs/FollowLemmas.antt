-- The successor of a node on a path of least cost through it. The nodes that may follow it are
-- consecutive and start at its end. Its backward cost is the least that they allow, so either one
-- of them attains it, or the path ends there.
use Rattle.std.proofs.Common.{◌≡◌, ℕ, ◌+◌, ◌<◌, List, [], ◌∷◌, ◌++◌, length, Contains, Option, None, Some, inl, inr, refl, sym, ap, ◌∙◌, subst, arith, slice_get}
use Rattle.std.specs.Prelude.{ℤ, ◌+ℤ◌, ◌-ℤ◌}
use Rattle.std.proofs.lemmas.Bool.{cases_lt}
use Rattle.std.proofs.lemmas.Int.{ints}
use Rattle.std.proofs.lemmas.List.{length_push}
use Rattle.std.proofs.lemmas.Option.{none-some, same_Some}
use Rattle.mj_model.specs.declared.word.Word.{Word}
use Rattle.mj_model.specs.Cost.{cost_after}
use Rattle.mj_model.specs.Paths.{IsChain}
use Rattle.viterbi.specs.Search.SearchedText.{CanBeSearched, SearchedText}
use Rattle.viterbi.proofs.Pushed.{get_push_cases}
use Rattle.viterbi.specs.declared.nodes.lattice_node.LatticeNode.{LatticeNode}
use Rattle.viterbi.specs.Nodes.LatticeNodes.{CostsThrough}
use Rattle.viterbi.specs.Nodes.Least.{IsLeastOf}
use Rattle.viterbi.specs.Nodes.ReachableWords.{IsFirstFrom}
use Rattle.viterbi.specs.Nodes.BackwardCosts.{CostsToEos, IsLongest}
use Rattle.viterbi.proofs.ReachableLemmas.{reached_after}
use Rattle.viterbi.proofs.ForwardCostLemmas.{last_there}
use Rattle.viterbi.specs.Rivals.Successors.{IsFollower, IsSuccessorAt, KeepsBackwardCost}
use Rattle.viterbi.specs.Rivals.Neighbors.{AreAfter, IsAfter, IsAfterIfSome}
use Rattle.viterbi.specs.Rivals.Places.{AreNodesOf, words_in}
use Rattle.viterbi.specs.declared.rivals.neighbor.Neighbor.{Neighbor}
use Rattle.viterbi.proofs.BestPathLemmas.{no_backward, backward_least}
use Rattle.viterbi.proofs.PlaceLemmas.{node_here, through_of, total_of, word_here}

module _ (t : SearchedText) (source : CanBeSearched t) (nodes : List LatticeNode) (are : AreNodesOf t nodes) (i : ℕ) (n : LatticeNode) (here : slice_get nodes i ≡ Some n) where
  -- the backward cost of a node is the least that its successors allow
  left : (k : ℕ) (m : LatticeNode) (cost : ℤ) → slice_get nodes k ≡ Some m → m.through ≡ Some cost → IsLeastOf (CostsToEos t.words t.connection m.word) (Some (cost -ℤ m.total))
  left k m cost at through = backward_least t.words t.connection t.text_length source.source.are m.word m.total (total_of t source nodes are k m at) cost (subst (IsLeastOf (CostsThrough t.words t.connection m.word)) through (through_of t source nodes are k m at))

  -- a node after which a path goes on has some cost through it
  goes_through : (k : ℕ) (m : LatticeNode) (o : Option ℤ) (d : ℤ) → slice_get nodes k ≡ Some m → m.through ≡ o → CostsToEos t.words t.connection m.word d → (c : ℤ) × (o ≡ Some c)
  goes_through k m None d at through on = absurd (no_backward t.words t.connection t.text_length source.source.are m.word m.total (total_of t source nodes are k m at) (subst (IsLeastOf (CostsThrough t.words t.connection m.word)) through (through_of t source nodes are k m at)) d on)
  goes_through k m (Some c) d at through on = (c, refl)

  -- the node of a word that follows it
  follower : (v : Word) → Contains (t.words n.word.end) v → (k : ℕ) × (m : LatticeNode) × (slice_get nodes k ≡ Some m) × (m.word ≡ v)
  follower v has =
      let up = (total_of t source nodes are i n here).0 in
      let reached = reached_after t.words t.connection t.text_length source.source (n.word ∷ up.0) n.word.end v up.1 has in
      let there = last_there t.words t.connection t.text_length source.source (words_in nodes) are.words v reached.0 v.end reached.1 in
      let m = node_here nodes there.0 v there.1 in
      (there.0, m.0, m.1, m.2)

  -- no node before this one follows it on a path of least cost through it
  abbrev pub NoneBefore : ℕ → Type 0
  NoneBefore next = (k : ℕ) (m : LatticeNode) → k < next → slice_get nodes k ≡ Some m → m.word.place ≡ n.word.end → KeepsBackwardCost t.connection n m → ⊥

  pub none_from : (first : ℕ) → IsFirstFrom (words_in nodes) n.word.end first → NoneBefore first
  none_from first f = λ k m less at meet same. let low = f.before k m.word (word_here nodes k m at) less in omega (arith, low, meet)

  pub none_more : (next : ℕ) (v : LatticeNode) (outcome : Option Neighbor) → slice_get nodes next ≡ Some v → outcome ≡ None → IsFollower t.connection n next v outcome → NoneBefore next → NoneBefore (next + 1)
  none_more next v outcome there none is so_far = λ k m less at meet same. elim (cases_lt k next) [
    | inl low ↦ so_far k m low at meet same
    | inr le ↦
        (let is_v : m ≡ v = same_Some m v (sym at ∙ ap (slice_get nodes) (omega (arith, less, le)) ∙ there) in
        (subst (IsFollower t.connection n next v) none is) (subst (KeepsBackwardCost t.connection n) is_v same))
  ]

  pub none_all : (next_ones : ℕ) → IsFirstFrom (words_in nodes) (n.word.end + 1) next_ones → NoneBefore next_ones → (k : ℕ) (m : LatticeNode) → slice_get nodes k ≡ Some m → m.word.place ≡ n.word.end → KeepsBackwardCost t.connection n m → ⊥
  none_all next_ones f so_far k m at meet same = elim (cases_lt k next_ones) [
    | inl low ↦ so_far k m low at meet same
    | inr past ↦ (let high = f.from k m.word (word_here nodes k m at) past in omega (arith, high, meet))
  ]

  -- ---- a node that follows

  found_from : (o : Option ℤ) (k : ℕ) (m : LatticeNode) (link : Neighbor) → n.through ≡ o → slice_get nodes k ≡ Some m → m.word.place ≡ n.word.end → KeepsBackwardCost t.connection n m → link.node ≡ Some k → link.connection ≡ t.connection n.word.right m.word.left
      → IsAfterIfSome t.words t.connection nodes n o link
  found_from None k m link through at meet same node connection = absurd (none-some same.cost (sym through ∙ same.has_cost))
  found_from (Some c) k m link through at meet same node connection =
      let is : same.cost ≡ c = same_Some same.cost c (sym same.has_cost ∙ through) in
      let sum = same.same in
      subst (IsAfter t.words t.connection nodes n c link.connection) (sym node) (
        m,
        at,
        record {
          meet = meet;
          connection_is = connection;
          through = same.through;
          has_through = same.has_through;
          cost_is = omega (arith, ints, sum, is, connection);
        },
      )

  pub found : (k : ℕ) (m : LatticeNode) (link : Neighbor) → slice_get nodes k ≡ Some m → m.word.place ≡ n.word.end → KeepsBackwardCost t.connection n m → link.node ≡ Some k → link.connection ≡ t.connection n.word.right m.word.left
      → IsSuccessorAt t.words t.connection nodes i link
  found k m link at meet same node connection = λ x at_x. subst (λ (y : LatticeNode). IsAfterIfSome t.words t.connection nodes y y.through link) (same_Some n x (sym here ∙ at_x)) (found_from n.through k m link refl at meet same node connection)

  pub found_by : (k : ℕ) (m : LatticeNode) (outcome : Option Neighbor) (link : Neighbor) → slice_get nodes k ≡ Some m → m.word.place ≡ n.word.end → outcome ≡ Some link → IsFollower t.connection n k m outcome → IsSuccessorAt t.words t.connection nodes i link
  found_by k m outcome link at meet some is = let p = subst (IsFollower t.connection n k m) some is in found k m link at meet p.0 p.1 p.2

  -- ---- no node that follows

  module _ (none : (k : ℕ) (m : LatticeNode) → slice_get nodes k ≡ Some m → m.word.place ≡ n.word.end → KeepsBackwardCost t.connection n m → ⊥) where
    leaves : (c d : ℤ) (k : ℕ) (m : LatticeNode) (ws : List Word) (to : ℕ) → n.through ≡ Some c → slice_get nodes k ≡ Some m → IsChain t.words m.word.end ws to → IsLongest t.words to
        → c -ℤ n.total ≡ (t.connection n.word.right m.word.left +ℤ m.word.cost) +ℤ cost_after t.connection m.word.right ws → Contains (t.words n.word.end) m.word → KeepsBackwardCost t.connection n m
    leaves c d k m ws to through at chain longest sum has =
        let rest = cost_after t.connection m.word.right ws in
        let on : CostsToEos t.words t.connection m.word rest = (ws, to, chain, longest, refl) in
        let some = goes_through k m m.through rest at refl on in
        let least = left k m some.0 at some.1 in
        let low = least.1 rest on in
        let best = least.0 in
        let own = (left i n c here through).1 ((t.connection n.word.right m.word.left +ℤ m.word.cost) +ℤ (some.0 -ℤ m.total)) (m.word ∷ best.0, best.1, (has, best.2), best.3, (let is = best.4 in omega (arith, ints, is))) in
        record {
          cost = c;
          through = some.0;
          has_cost = through;
          has_through = some.1;
          same = omega (arith, ints, low, own, sum);
        }

    -- so the path ends there
    ends : (c : ℤ) → n.through ≡ Some c → (after : List Word) (to : ℕ) → IsChain t.words n.word.end after to → IsLongest t.words to → c -ℤ n.total ≡ cost_after t.connection n.word.right after → after ≡ []
    ends c through [] to chain longest sum = refl
    ends c through (v ∷ ws) to chain longest sum =
        let f = follower v chain.0 in
        let m = f.1 in
        let is = f.3 in
        let has = subst (Contains (t.words n.word.end)) (sym is) chain.0 in
        let meet = source.source.are.places n.word.end m.word has in
        let chain_m = subst (λ (x : Word). IsChain t.words x.end ws to) (sym is) chain.1 in
        let sum_m = sum ∙ ap (λ (x : Word). (t.connection n.word.right x.left +ℤ x.cost) +ℤ cost_after t.connection x.right ws) (sym is) in
        absurd (none f.0 m f.2 meet (leaves c c f.0 m ws to through f.2 chain_m longest sum_m has))

    ended_from : (o : Option ℤ) (link : Neighbor) → n.through ≡ o → link.node ≡ None → link.connection ≡ t.connection n.word.right 0 → IsAfterIfSome t.words t.connection nodes n o link
    ended_from None link through node connection = node
    ended_from (Some c) link through node connection =
        let on = (left i n c here through).0 in
        let is = ends c through on.0 on.1 on.2 on.3 on.4 in
        let at : n.word.end ≡ on.1 = subst (λ (us : List Word). IsChain t.words n.word.end us on.1) is on.2 in
        let sum = on.4 ∙ ap (cost_after t.connection n.word.right) is in
        subst (IsAfter t.words t.connection nodes n c link.connection) (sym node) (record {
          longest = subst (IsLongest t.words) (sym at) on.3;
          connection_is = connection;
          cost_is = omega (arith, ints, sum, connection);
        })

    pub ended : (link : Neighbor) → link.node ≡ None → link.connection ≡ t.connection n.word.right 0 → IsSuccessorAt t.words t.connection nodes i link
    ended link node connection = λ x at_x. subst (λ (y : LatticeNode). IsAfterIfSome t.words t.connection nodes y y.through link) (same_Some n x (sym here ∙ at_x)) (ended_from n.through link refl node connection)

-- ---- one node after another

module _ (words : ℕ → List Word) (conn : ℕ → ℕ → ℤ) (nodes : List LatticeNode) where
  pub record AreAfterTo (count : ℕ) (links : List Neighbor) : Type 0 where
    pub long : length links ≡ count
    pub each : (i : ℕ) (n : LatticeNode) (link : Neighbor) → slice_get nodes i ≡ Some n → slice_get links i ≡ Some link → IsAfterIfSome words conn nodes n n.through link

  pub after_none : (links : List Neighbor) → links ≡ [] → AreAfterTo 0 links
  after_none links none = subst (AreAfterTo 0) (sym none) (record { long = refl; each = λ i n link at at_link. absurd (cc) })

  pub after_more : (count : ℕ) (link : Neighbor) (links after : List Neighbor) → after ≡ links ++ (link ∷ []) → IsSuccessorAt words conn nodes count link → AreAfterTo count links → AreAfterTo (count + 1) after
  after_more count link links after pushed is so_far = subst (AreAfterTo (count + 1)) (sym pushed) (record {
    long = let e = so_far.long in let p = length_push links link in omega (arith, e, p);
    each = λ i n other at at_other. elim (get_push_cases links link i other at_other) [
      | inl old ↦ so_far.each i n other at old
      | inr new ↦ subst (IsAfterIfSome words conn nodes n n.through) new.1 (is n (ap (slice_get nodes) (sym (new.0 ∙ so_far.long)) ∙ at))
    ];
  })

  pub after_all : (links : List Neighbor) → AreAfterTo (length nodes) links → AreAfter words conn nodes links
  after_all links all = record { long = all.long; each = all.each }
