-- The walk forward from a node, along a path of least cost through it. The backward cost of the
-- last step's node is the least that its successors allow. So when the walk stops, the path can go
-- on along the best path, end, or go on along some path of least cost.
use Rattle.std.proofs.Common.{◌≡◌, ℕ, ◌≤◌, List, [], ◌∷◌, ◌++◌, Bool, true, false, length, reverse, Contains, Option, None, Some, inl, inr, refl, sym, ap, ◌∙◌, subst, arith, slice_get}
use Rattle.std.specs.Prelude.{ℤ, ◌+ℤ◌, ◌↔◌}
use Rattle.std.proofs.lemmas.Int.{ints}
use Rattle.std.proofs.lemmas.List.{append-nil, map-append}
use Rattle.std.proofs.lemmas.List.Elements.{Contains-append_right}
use Rattle.std.proofs.lemmas.Option.{same_Some}
use Rattle.mj_model.specs.declared.word.Word.{Word}
use Rattle.mj_model.specs.Cost.{cost_after}
use Rattle.mj_model.specs.Paths.{IsChain}
use Rattle.viterbi.specs.declared.nodes.lattice_node.LatticeNode.{LatticeNode}
use Rattle.viterbi.specs.Nodes.BackwardCosts.{IsLongest}
use Rattle.viterbi.specs.Rivals.NodesWithNeighbors.{IsOther}
use Rattle.viterbi.specs.Rivals.RivalsState.{AreWithNeighbors}
use Rattle.viterbi.specs.Rivals.Neighbors.{EndsPath, ContinuesWith, IsAfter, IsAfterIfSome}
use Rattle.viterbi.specs.Rivals.PathSteps.{right_after, steps_after, total_after, words_of}
use Rattle.viterbi.specs.Rivals.RivalPaths.{AreOff, AreShown, IsSuffix}
use Rattle.viterbi.specs.Rivals.Walked.{IsStepOn, IsWalkedForward}
use Rattle.viterbi.specs.declared.rivals.neighbor.Neighbor.{Neighbor}
use Rattle.viterbi.specs.declared.rivals.nodes_with_neighbors.NodesWithNeighbors.{NodesWithNeighbors}
use Rattle.viterbi.specs.declared.rivals.rival_path.TheConstants.{STEPS_MAX}
use Rattle.viterbi.specs.declared.rivals.step.PathStep.{PathStep}
use Rattle.viterbi.proofs.BestPathLemmas.{backward_least, backward_on_best, split}
use Rattle.viterbi.proofs.JoinedLemmas.{chain_append, cost_tail, off_append, right_append, steps_cons, steps_joined, total_append, turned}
use Rattle.viterbi.proofs.NeighborLemmas.{off_best, on_best_there, through_at, word_at}

-- the first word of a suffix is on the path
pub first_on : (best ws : List Word) (w : Word) → IsSuffix (w ∷ ws) best → Contains best w
first_on best ws w (rest, is) = subst (λ (us : List Word). Contains us w) (sym is) (Contains-append_right rest (w ∷ ws) w (0, omega arith, refl))

module _ (words : ℕ → List Word) (conn : ℕ → ℕ → ℤ) (len : ℕ) (best : List Word) (linked : NodesWithNeighbors) (are : AreWithNeighbors words conn len best linked) (n : LatticeNode) (cost : ℤ) where
  -- the steps so far: the last one is that of the node with this number, or there is none yet
  pub record OnSoFar (at : ℕ) (total : ℤ) (on : List PathStep) : Type 0 where
    pub node : LatticeNode
    pub here : slice_get linked.nodes.items at ≡ Some node
    pub through : ℤ
    pub has_through : node.through ≡ Some through
    pub steps_chain : IsChain words n.word.end (words_of on) node.word.end
    pub steps_are : on ≡ steps_after conn n.word.right n.total (words_of on)
    pub right_is : right_after n.word.right (words_of on) ≡ node.word.right
    pub total_is : total_after conn n.word.right n.total (words_of on) ≡ total
    pub same : cost +ℤ node.total ≡ total +ℤ through
    pub off : AreOff best on

  pub on_first : (at : ℕ) (total : ℤ) (on : List PathStep) → on ≡ [] → slice_get linked.nodes.items at ≡ Some n → n.through ≡ Some cost → n.total ≡ total → OnSoFar at total on
  on_first at total on none here through is = subst (OnSoFar at total) (sym none) (record {
    node = n;
    here = here;
    through = cost;
    has_through = through;
    steps_chain = refl;
    steps_are = refl;
    right_is = refl;
    total_is = is;
    same = omega (arith, ints, is);
    off = tt;
  })

  module _ (at : ℕ) (total : ℤ) (on : List PathStep) (so_far : OnSoFar at total on) (link : Neighbor) (linked_here : slice_get linked.after.items at ≡ Some link) where
    after_it : IsAfter words conn linked.nodes.items so_far.node so_far.through link.connection link.node
    after_it = subst (λ (o : Option ℤ). IsAfterIfSome words conn linked.nodes.items so_far.node o link) so_far.has_through (are.after.each at so_far.node link so_far.here linked_here)

    next_node : (k : ℕ) → link.node ≡ Some k → (m : LatticeNode) × (slice_get linked.nodes.items k ≡ Some m) × ContinuesWith conn so_far.node so_far.through link.connection m
    next_node k link_is = subst (IsAfter words conn linked.nodes.items so_far.node so_far.through link.connection) link_is after_it

    follows : (m : LatticeNode) (k : ℕ) → slice_get linked.nodes.items k ≡ Some m → m.word.place ≡ so_far.node.word.end → Contains (words so_far.node.word.end) m.word
    follows m k here meet = subst (λ (q : ℕ). Contains (words q) m.word) meet (word_at words conn len best linked are k m here)

    -- one more step
    module _ (k : ℕ) (s : PathStep) (after : List PathStep) (pushed : after ≡ on ++ (s ∷ [])) (link_is : link.node ≡ Some k) (off : slice_get linked.on_best.items k ≡ Some false) (m : LatticeNode) (there : slice_get linked.nodes.items k ≡ Some m) where
      goes : ContinuesWith conn so_far.node so_far.through link.connection m
      goes =
          let p = next_node k link_is in
          subst (ContinuesWith conn so_far.node so_far.through link.connection) (same_Some p.0 m (sym p.1 ∙ there)) p.2

      words_are : words_of after ≡ words_of on ++ (s.word ∷ [])
      words_are = ap words_of pushed ∙ map-append (λ (x : PathStep). x.word) on (s ∷ [])

      pub on_more : s.word ≡ m.word → s.connection ≡ link.connection → s.total ≡ (total +ℤ link.connection) +ℤ m.word.cost → OnSoFar k s.total after
      on_more word connection sum =
          let right = right_after n.word.right (words_of on) in
          let sum_so_far = total_after conn n.word.right n.total (words_of on) in
          let hc : s.connection ≡ conn right s.word.left =
          connection ∙ goes.connection_is ∙ ap (λ (r : ℕ). conn r m.word.left) (sym so_far.right_is) ∙ ap (λ (x : Word). conn right x.left) (sym word) in
          let ht : s.total ≡ (sum_so_far +ℤ conn right s.word.left) +ℤ s.word.cost =
          sum ∙ ap (λ (z : ℤ). (z +ℤ link.connection) +ℤ m.word.cost) (sym so_far.total_is)
          ∙ ap (λ (c : ℤ). (sum_so_far +ℤ c) +ℤ m.word.cost) (sym connection ∙ hc)
          ∙ ap (λ (x : Word). (sum_so_far +ℤ conn right s.word.left) +ℤ x.cost) (sym word) in
          let a = so_far.same in
          let b = goes.cost_is in
          record {
            node = m;
            here = there;
            through = goes.through;
            has_through = goes.has_through;
            steps_chain = subst (λ (us : List Word). IsChain words n.word.end us m.word.end) (sym words_are)
                (chain_append words (words_of on) (s.word ∷ []) n.word.end so_far.node.word.end m.word.end so_far.steps_chain
                (subst (Contains (words so_far.node.word.end)) (sym word) (follows m k there goes.meet), ap (λ (x : Word). x.end) word));
            steps_are = pushed ∙ steps_joined conn on (s ∷ []) n.word.right n.total so_far.steps_are (steps_cons conn right sum_so_far s [] hc ht refl)
                ∙ ap (λ (us : List PathStep). steps_after conn n.word.right n.total (words_of us)) (sym pushed);
            right_is = ap (right_after n.word.right) words_are ∙ right_append (words_of on) (s.word ∷ []) n.word.right ∙ ap (λ (x : Word). x.right) word;
            total_is = ap (total_after conn n.word.right n.total) words_are ∙ total_append conn (words_of on) (s.word ∷ []) n.word.right n.total ∙ sym ht;
            same = omega (arith, ints, a, b, sum);
            off = subst (AreOff best) (sym pushed) (off_append best on (s ∷ []) so_far.off
                ((λ has. off_best words conn len best linked are k m there off (subst (Contains best) word has)), tt));
          }

    -- ---- the end of the walk

    stopped : (back : List Word) (to : ℕ) (reaches : Bool) → IsChain words so_far.node.word.end back to → IsLongest words to → cost ≡ total +ℤ cost_after conn so_far.node.word.right back
        → (reaches ≡ true) ↔ IsSuffix back best → AreShown reaches on → IsWalkedForward words conn best n cost reaches on
    stopped back to reaches steps_chain longest cost_is ends shown = record {
      back = back;
      to = to;
      steps_chain = chain_append words (words_of on) back n.word.end so_far.node.word.end to so_far.steps_chain steps_chain;
      longest = longest;
      steps_are = so_far.steps_are;
      cost_is = cost_is ∙ sym (cost_tail conn (words_of on) back n.word.right n.total
          ∙ ap (λ (z : ℤ). z +ℤ cost_after conn (right_after n.word.right (words_of on)) back) so_far.total_is
          ∙ ap (λ (r : ℕ). total +ℤ cost_after conn r back) so_far.right_is);
      off = so_far.off;
      ends = ends;
      shown = shown;
    }

    all_shown : length on ≤ STEPS_MAX → AreShown true on
    all_shown few = record { few = few; left_out = λ e. absurd (cc) }

    pub on_to_eos : length on ≤ STEPS_MAX → link.node ≡ None → IsWalkedForward words conn best n cost true on
    on_to_eos few none =
        let e : EndsPath words conn so_far.node so_far.through link.connection = subst (IsAfter words conn linked.nodes.items so_far.node so_far.through link.connection) none after_it in
        let a = so_far.same in
        let b = e.cost_is in
        let c = e.connection_is in
        stopped [] so_far.node.word.end true refl e.longest (omega (arith, ints, a, b, c)) (λ t. (best, sym (append-nil best)), λ p. refl) (all_shown few)

    -- along the words after m, if these are what the rest of the cost pays for
    stopped_before : (m : LatticeNode) (k : ℕ) (ws : List Word) (to : ℕ) (reaches : Bool) → slice_get linked.nodes.items k ≡ Some m → (goes : ContinuesWith conn so_far.node so_far.through link.connection m) → IsChain words m.word.end ws to → IsLongest words to
        → goes.through ≡ m.total +ℤ cost_after conn m.word.right ws → (reaches ≡ true) ↔ IsSuffix (m.word ∷ ws) best → AreShown reaches on → IsWalkedForward words conn best n cost reaches on
    stopped_before m k ws to reaches there goes chain longest rest ends shown =
        let a = so_far.same in
        let b = goes.cost_is in
        let c = goes.connection_is in
        stopped (m.word ∷ ws) to reaches (follows m k there goes.meet, chain) longest (omega (arith, ints, a, b, c, rest)) ends shown

    pub on_to_best : (k : ℕ) → length on ≤ STEPS_MAX → link.node ≡ Some k → slice_get linked.on_best.items k ≡ Some true → IsWalkedForward words conn best n cost true on
    on_to_best k few link_is on_best =
        let p = next_node k link_is in
        let m = p.0 in
        let has = on_best_there words conn len best linked are k m p.1 on_best in
        let up_to = are.forward_costs k m p.1 in
        let sp = split words conn len are.lattice.source best are.best_is m.word m.total up_to has in
        let rest = backward_on_best words conn len are.lattice.source best are.best_is m.word m.total up_to has p.2.through (through_at words conn len best linked are k m (Some p.2.through) p.1 p.2.has_through) in
        stopped_before m k sp.after are.best_is.to true p.1 p.2 sp.suffix_chain are.best_is.path.longest rest
        (λ t. (reverse sp.before, sp.is ∙ sym (turned m.word sp.before sp.after)), λ q. refl) (all_shown few)

    pub on_cut : (k : ℕ) → length on ≤ STEPS_MAX → STEPS_MAX ≤ length on → link.node ≡ Some k → slice_get linked.on_best.items k ≡ Some false → IsWalkedForward words conn best n cost false on
    on_cut k few many link_is off =
        let p = next_node k link_is in
        let m = p.0 in
        let rest = (backward_least words conn len are.lattice.source m.word m.total (are.forward_costs k m p.1) p.2.through (through_at words conn len best linked are k m (Some p.2.through) p.1 p.2.has_through)).0 in
        let is = rest.4 in stopped_before m k rest.0 rest.1 false p.1 p.2 rest.2 rest.3 (omega (arith, ints, is))
        (λ e. absurd (cc), λ q. absurd (off_best words conn len best linked are k m p.1 off (first_on best rest.0 m.word q)))
        (record { few = few; left_out = λ e. omega (arith, few, many) })

    -- ---- by the node to which the link leads

    module _ (o : Option ℕ) (other : IsOther linked.on_best.items link.node o) where
      pub on_along : (k : ℕ) (s : PathStep) (sum : ℤ) (after : List PathStep) → sum ≡ s.total → o ≡ Some k → after ≡ on ++ (s ∷ []) → IsStepOn linked total at k s → OnSoFar k sum after
      on_along k s sum after is some pushed step =
          let p = other.some k some in
          let same = same_Some step.link link (sym step.linked_here ∙ linked_here) in
          subst (λ (z : ℤ). OnSoFar k z after) (sym is)
          (on_more k s after pushed p.0 p.1 step.node step.here step.word (step.connection ∙ ap (λ (x : Neighbor). x.connection) same)
          (step.total_is ∙ ap (λ (x : Neighbor). (total +ℤ x.connection) +ℤ step.node.word.cost) same))

      pub on_cut_off : (k : ℕ) → o ≡ Some k → length on ≤ STEPS_MAX → STEPS_MAX ≤ length on → IsWalkedForward words conn best n cost false on
      on_cut_off k some few many = let p = other.some k some in on_cut k few many p.0 p.1

      pub on_ended : o ≡ None → length on ≤ STEPS_MAX → IsWalkedForward words conn best n cost true on
      on_ended none few = elim (other.none none) [
        | inl eos ↦ on_to_eos few eos
        | inr there ↦ on_to_best there.0 few there.1 there.2
      ]
