-- The best rival is the best of all paths that segment the text differently: such a path has a word
-- that is a node and replaces the given one, so the least cost through that node is no more than
-- the path's.
use Rattle.std.proofs.Common.{◌≡◌, ℕ, zero, suc, ◌+◌, ◌<◌, List, [], ◌∷◌, Contains, length, get_or, map, Option, Some, None, inl, inr, refl, sym, ap, ◌∙◌, subst, arith, slice_get}
use Rattle.std.specs.Prelude.{ℤ, pos, ◌≤ℤ◌}
use Rattle.std.specs.Option.{option_map}
use Rattle.std.proofs.lemmas.Bool.{cases_lt}
use Rattle.std.proofs.lemmas.Int.{ints}
use Rattle.std.proofs.lemmas.List.{length-map}
use Rattle.std.proofs.lemmas.Option.{get_or_from_slice_get, same_Some, slice_get-get_or, slice_get-map, slice_get_within}
use Rattle.mj_model.specs.declared.word.Word.{Word}
use Rattle.mj_model.specs.Best.{AreWords}
use Rattle.mj_model.specs.ReversedChains.{IsChainTo}
use Rattle.mj_model.specs.Paths.{IsChain}
use Rattle.viterbi.proofs.Pushed.{get_from_Contains}
use Rattle.viterbi.specs.declared.nodes.lattice_node.LatticeNode.{LatticeNode}
use Rattle.viterbi.specs.Nodes.LatticeNodes.{CostsThrough, IsReached}
use Rattle.viterbi.specs.Nodes.Least.{IsLeastOf}
use Rattle.viterbi.specs.Rivals.Crossing.{CostWithReplacement, Replaces}
use Rattle.viterbi.specs.Rivals.Rivals.{AreOfLattice, IsBestRival}
use Rattle.viterbi.specs.Rivals.Steps.{IsBelow, IsBetter, IsNotBelow}
use Rattle.viterbi.specs.declared.rivals.rival.Rival.{Rival}

-- ---- one node after another

-- the best rival so far, if there is one, is a node that replaces the word
abbrev pub IsThere : List LatticeNode → Word → Option Rival → Type 0
IsThere nodes w None = Unit {0}
IsThere nodes w (Some r) = (n : LatticeNode) × (slice_get nodes r.number ≡ Some n) × Replaces n.word w × (n.through ≡ Some r.cost)

-- no node before it replaces the word at the same cost
abbrev pub IsFirst : List LatticeNode → Word → Option Rival → Type 0
IsFirst nodes w None = Unit {0}
IsFirst nodes w (Some r) = (k : ℕ) (n : LatticeNode) → k < r.number → slice_get nodes k ≡ Some n → Replaces n.word w → n.through ≡ Some r.cost → ⊥

-- the best rival among the nodes before a number
pub record SoFar (nodes : List LatticeNode) (w : Word) (i : ℕ) (best : Option Rival) : Type 0 where
  pub there : IsThere nodes w best
  pub first : IsFirst nodes w best
  pub no_less : (k : ℕ) (n : LatticeNode) (c : ℤ) → k < i → slice_get nodes k ≡ Some n → n.through ≡ Some c → Replaces n.word w → IsNotBelow c best

pub none_yet : (nodes : List LatticeNode) (w : Word) → SoFar nodes w 0 None
none_yet nodes w = record { there = tt; first = tt; no_less = λ k n c less at through takes. absurd (omega (arith, less)) }

no_more : (best : Option Rival) (cost c : ℤ) → IsBelow cost best → IsNotBelow c best → cost ≤ℤ c
no_more None cost c below other = absurd other
no_more (Some r) cost c below other = omega (arith, ints, below, other)

not_both : (best : Option Rival) (c : ℤ) → IsBelow c best → IsNotBelow c best → ⊥
not_both None c below other = other
not_both (Some r) c below other = omega (arith, ints, below, other)

same_cost : (n m : LatticeNode) (cost c : ℤ) → n ≡ m → n.through ≡ Some cost → m.through ≡ Some c → cost ≤ℤ c
same_cost n m cost c same a b = let e = same_Some cost c (sym a ∙ ap (λ (x : LatticeNode). x.through) same ∙ b) in omega (arith, ints, e)

pub one_further : (nodes : List LatticeNode) (w : Word) (i : ℕ) (n : LatticeNode) (best after : Option Rival) → slice_get nodes i ≡ Some n → IsBetter best i n w after → SoFar nodes w i best → SoFar nodes w (i + 1) after
one_further nodes w i n best after at (inr passed) so_far = subst (SoFar nodes w (i + 1)) (sym passed.is) (record {
  there = so_far.there;
  first = so_far.first;
  no_less = λ k m c less at_m through takes. elim (cases_lt k i) [
    | inl low ↦ so_far.no_less k m c low at_m through takes
    | inr high ↦
        (let same : n ≡ m = same_Some n m (sym at ∙ ap (slice_get nodes) (omega (arith, less, high)) ∙ at_m) in
        passed.no_less c (ap (λ (x : LatticeNode). x.through) same ∙ through) (subst (λ (x : LatticeNode). Replaces x.word w) (sym same) takes))
  ];
})
one_further nodes w i n best after at (inl taken) so_far = subst (SoFar nodes w (i + 1)) (sym taken.is) (record {
  there = (n, at, taken.takes_place, taken.through);
  first = λ k m less at_m takes through. not_both best taken.cost taken.below (so_far.no_less k m taken.cost less at_m through takes);
  no_less = λ k m c less at_m through takes. elim (cases_lt k i) [
    | inl low ↦ no_more best taken.cost c taken.below (so_far.no_less k m c low at_m through takes)
    | inr high ↦ same_cost n m taken.cost c (same_Some n m (sym at ∙ ap (slice_get nodes) (omega (arith, less, high)) ∙ at_m)) taken.through through
  ];
})

-- ---- the word of a path is reached

module _ (words : ℕ → List Word) (len : ℕ) (are : AreWords words len) where
  reached_from : (ws vs : List Word) (at to k : ℕ) (v : Word) → IsChainTo words vs at → IsChain words at ws to → slice_get ws k ≡ Some v → IsReached words v × (v.place < len)
  reached_from [] vs at to k v before chain here = absurd (cc)
  reached_from (u ∷ us) vs at to zero v before chain here =
      let place = are.places at u chain.0 in
      let on = are.go_on at u chain.0 in
      let within = are.within at u chain.0 in
      let prefix_chain : IsChainTo words (u ∷ vs) u.end = (refl, subst (λ (p : ℕ). Contains (words p) u) (sym place) chain.0, subst (IsChainTo words vs) (sym place) before) in
      subst (λ (x : Word). IsReached words x × (x.place < len)) (same_Some u v here) ((vs, prefix_chain), omega (arith, place, on, within))
  reached_from (u ∷ us) vs at to (suc k) v before chain here =
      let place = are.places at u chain.0 in
      let prefix_chain : IsChainTo words (u ∷ vs) u.end = (refl, subst (λ (p : ℕ). Contains (words p) u) (sym place) chain.0, subst (IsChainTo words vs) (sym place) before) in
      reached_from us (u ∷ vs) u.end to k v prefix_chain chain.1 here

-- ---- all nodes

least_below : (Is : ℤ → Type 0) (o : Option ℤ) (c : ℤ) → IsLeastOf Is o → Is c → (least : ℤ) × (o ≡ Some least) × (least ≤ℤ c)
least_below Is None c none is = absurd (none c is)
least_below Is (Some least) c h is = (least, refl, h.1 c is)

module _ (words : ℕ → List Word) (conn : ℕ → ℕ → ℤ) (len : ℕ) (nodes : List LatticeNode) (lattice : AreOfLattice words conn len nodes) (w : Word) where
  -- a node that replaces the word, through which paths cost no more
  record NodeNoMore (c : ℤ) : Type 0 where
    number : ℕ
    node : LatticeNode
    cost : ℤ
    here : slice_get nodes number ≡ Some node
    takes_place : Replaces node.word w
    through : node.through ≡ Some cost
    no_more : cost ≤ℤ c

  within_nodes : (k : ℕ) (v : Word) → slice_get (map (λ (n : LatticeNode). n.word) nodes) k ≡ Some v → k < length nodes
  within_nodes k v at = let l = slice_get_within (map (λ (n : LatticeNode). n.word) nodes) k v at in let e = length-map nodes (λ (n : LatticeNode). n.word) in omega (arith, l, e)

  least_at : (k : ℕ) (n : LatticeNode) (c : ℤ) → slice_get nodes k ≡ Some n → n.through ≡ Some c → IsLeastOf (CostsThrough words conn n.word) (Some c)
  least_at k n c at through =
      let least = subst (λ (m : LatticeNode). IsLeastOf (CostsThrough words conn m.word) m.through) (get_or_from_slice_get nodes k n n at) (lattice.through k n (slice_get_within nodes k n at)) in
      subst (IsLeastOf (CostsThrough words conn n.word)) through least

  path_of : (n : LatticeNode) (c : ℤ) → Replaces n.word w → CostsThrough words conn n.word c → CostWithReplacement words conn w c
  path_of n c takes (path, to, is, has, cost) = (path, to, is, (n.word, has, takes), cost)

  node_no_more : (c : ℤ) → CostWithReplacement words conn w c → NodeNoMore c
  node_no_more c (path, to, is, (v, has, takes), cost) =
      let word = λ (n : LatticeNode). n.word in
      let none : LatticeNode = record { word = v; total = pos 0; through = None } in
      let on_path = get_from_Contains path v has in
      let reached = reached_from words len lattice.source path [] 0 to on_path.0 v refl is.chain on_path.1 in
      let there = get_from_Contains (map word nodes) v (lattice.reached.all v reached.0 reached.1) in
      let k = there.0 in
      let low : k < length nodes = within_nodes k v there.1 in
      let n = get_or nodes k none in
      let here = slice_get-get_or nodes k none low in
      let same : n.word ≡ v = same_Some n.word v (sym (ap (option_map word) here) ∙ sym (slice_get-map word nodes k) ∙ there.1) in
      let l = least_below (CostsThrough words conn n.word) n.through c (lattice.through k none low) (path, to, is, subst (Contains path) (sym same) has, cost) in
      record {
        number = k;
        node = n;
        cost = l.0;
        here = here;
        takes_place = subst (λ (x : Word). Replaces x w) (sym same) takes;
        through = l.1;
        no_more = l.2;
      }

  pub best_of_all : (best : Option Rival) → SoFar nodes w (length nodes) best → IsBestRival words conn nodes w best
  best_of_all None so_far = λ c otherwise.
      let n = node_no_more c otherwise in
      so_far.no_less n.number n.node n.cost (slice_get_within nodes n.number n.node n.here) n.here n.through n.takes_place
  best_of_all (Some r) so_far =
      let there = so_far.there in
      let n = there.0 in
      record {
        node = n;
        here = there.1;
        takes_place = there.2;
        through = there.3;
        least = (
          path_of n r.cost there.2 (least_at r.number n r.cost there.1 there.3).0,
          λ c otherwise.
              let m = node_no_more c otherwise in
              let a = so_far.no_less m.number m.node m.cost (slice_get_within nodes m.number m.node m.here) m.here m.through m.takes_place in
              let b = m.no_more in
              omega (arith, ints, a, b),
        );
        first = so_far.first;
      }
