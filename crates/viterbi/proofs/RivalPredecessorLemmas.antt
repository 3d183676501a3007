-- The walk back from a node. The steps so far follow the word of a node on a chain of least cost,
-- and the next step is that node's own. When the walk stops, they follow a chain whose cost is the
-- forward cost of its last node: a prefix of the best path, the empty chain, or some chain of least
-- cost.
use Rattle.std.proofs.Common.{◌≡◌, ℕ, ◌+◌, ◌<◌, ◌≤◌, List, [], ◌∷◌, ◌++◌, Bool, true, false, length, reverse, Contains, Option, None, Some, inl, inr, refl, sym, ap, ◌∙◌, subst, arith, slice_get}
use Rattle.std.specs.Prelude.{ℤ, pos, ◌+ℤ◌, ◌↔◌}
use Rattle.std.proofs.lemmas.Grind.{reverse_onto}
use Rattle.std.proofs.lemmas.List.{length-reverse, length_push, reverse-append}
use Rattle.std.proofs.lemmas.List.Elements.{Contains-append_left, Contains-append_right}
use Rattle.std.proofs.lemmas.Option.{same_Some}
use Rattle.mj_model.specs.declared.word.Word.{Word}
use Rattle.mj_model.specs.ReversedChains.{IsChainTo, cost_to, last_right}
use Rattle.mj_model.specs.Paths.{IsChain}
use Rattle.viterbi.specs.declared.nodes.lattice_node.LatticeNode.{LatticeNode}
use Rattle.viterbi.specs.Rivals.NodesWithNeighbors.{IsOther}
use Rattle.viterbi.specs.Rivals.RivalsState.{AreWithNeighbors}
use Rattle.viterbi.specs.Rivals.Neighbors.{IsBefore, PrecedesAtLeastCost}
use Rattle.viterbi.specs.Rivals.PathSteps.{right_after, steps_after, total_after, words_of}
use Rattle.viterbi.specs.Rivals.RivalPaths.{AreOff, AreShown, IsPrefix}
use Rattle.viterbi.specs.Rivals.Walked.{IsStepAt, IsWalkedBackward}
use Rattle.viterbi.specs.declared.rivals.neighbor.Neighbor.{Neighbor}
use Rattle.viterbi.specs.declared.rivals.nodes_with_neighbors.NodesWithNeighbors.{NodesWithNeighbors}
use Rattle.viterbi.specs.declared.rivals.rival_path.TheConstants.{STEPS_MAX}
use Rattle.viterbi.specs.declared.rivals.step.PathStep.{PathStep}
use Rattle.viterbi.proofs.BestPathLemmas.{split, total_on_best}
use Rattle.viterbi.proofs.JoinedLemmas.{steps_cons}
use Rattle.viterbi.proofs.NeighborLemmas.{off_best, on_best_there, word_at}

-- the last word of a prefix is on the path
pub last_on : (best vs : List Word) (w : Word) → IsPrefix (reverse (w ∷ vs)) best → Contains best w
last_on best vs w (rest, is) =
    let has : Contains (reverse vs ++ (w ∷ [])) w = Contains-append_right (reverse vs) (w ∷ []) w (0, omega arith, refl) in
    let there : Contains (reverse (w ∷ vs)) w = subst (λ (us : List Word). Contains us w) (sym (reverse_onto vs w [])) has in
    subst (λ (us : List Word). Contains us w) (sym is) (Contains-append_left (reverse (w ∷ vs)) rest w there)

module _ (words : ℕ → List Word) (conn : ℕ → ℕ → ℤ) (len : ℕ) (best : List Word) (linked : NodesWithNeighbors) (are : AreWithNeighbors words conn len best linked) where
  -- steps lead from a position, a right id and a cost up to the word of a node and its forward cost
  pub record LeadUpTo (n : LatticeNode) (place right : ℕ) (total : ℤ) (steps : List PathStep) : Type 0 where
    pub steps_chain : IsChain words place (words_of steps) n.word.end
    pub steps_are : steps ≡ steps_after conn right total (words_of steps)
    pub right_is : right_after right (words_of steps) ≡ n.word.right
    pub total_is : total_after conn right total (words_of steps) ≡ n.total

  -- the steps so far: the first is that of the node with this number, the last one the chosen
  -- word's
  pub record BackSoFar (n : LatticeNode) (at : ℕ) (back : List PathStep) : Type 0 where
    pub first : PathStep
    pub rest : List PathStep
    pub is : reverse back ≡ first ∷ rest
    pub step : IsStepAt linked at first
    pub follow : LeadUpTo n step.node.word.end step.node.word.right step.node.total rest
    pub before : List PathStep
    pub chosen : PathStep
    pub parts : reverse back ≡ before ++ (chosen ∷ [])
    pub chosen_is : chosen.word ≡ n.word
    pub off : AreOff best before

  pub back_first : (n : LatticeNode) (at : ℕ) (s : PathStep) (back : List PathStep) → back ≡ s ∷ [] → slice_get linked.nodes.items at ≡ Some n → IsStepAt linked at s → BackSoFar n at back
  back_first n at s back single_word_surface here step =
      let same : step.node ≡ n = same_Some step.node n (sym step.here ∙ here) in
      record {
        first = s;
        rest = [];
        is = ap reverse single_word_surface;
        step = step;
        follow = record {
          steps_chain = ap (λ (x : LatticeNode). x.word.end) same;
          steps_are = refl;
          right_is = ap (λ (x : LatticeNode). x.word.right) same;
          total_is = ap (λ (x : LatticeNode). x.total) same;
        };
        before = [];
        chosen = s;
        parts = ap reverse single_word_surface;
        chosen_is = step.word ∙ ap (λ (x : LatticeNode). x.word) same;
        off = tt;
      }

  module _ (n : LatticeNode) (at : ℕ) (back : List PathStep) (so_far : BackSoFar n at back) where
    abbrev here_node : LatticeNode
    here_node = so_far.step.node

    -- with the first of them they follow the predecessor of its node
    with_first : (place right : ℕ) (total : ℤ) → place ≡ here_node.word.place → so_far.step.link.connection ≡ conn right here_node.word.left → here_node.total ≡ (total +ℤ so_far.step.link.connection) +ℤ here_node.word.cost
        → LeadUpTo n place right total (so_far.first ∷ so_far.rest)
    with_first place right total meet connection sum =
        let s = so_far.first in
        let word = so_far.step.word in
        let rest = words_of so_far.rest in
        let there : Contains (words place) here_node.word = subst (λ (q : ℕ). Contains (words q) here_node.word) (sym meet) (word_at words conn len best linked are at here_node so_far.step.here) in
        let hc : s.connection ≡ conn right s.word.left = so_far.step.connection ∙ connection ∙ ap (λ (x : Word). conn right x.left) (sym word) in
        let ht : s.total ≡ (total +ℤ conn right s.word.left) +ℤ s.word.cost =
        so_far.step.total ∙ sum ∙ ap (λ (c : ℤ). (total +ℤ c) +ℤ here_node.word.cost) connection
        ∙ ap (λ (x : Word). (total +ℤ conn right x.left) +ℤ x.cost) (sym word) in
        record {
          steps_chain = subst (λ (x : Word). Contains (words place) x × IsChain words x.end rest n.word.end) (sym word) (there, so_far.follow.steps_chain);
          steps_are = steps_cons conn right total s so_far.rest hc ht
              (so_far.follow.steps_are ∙ ap (λ (x : Word). steps_after conn x.right here_node.total rest) (sym word)
              ∙ ap (λ (z : ℤ). steps_after conn s.word.right z rest) (sym so_far.step.total));
          right_is = ap (λ (x : Word). right_after x.right rest) word ∙ so_far.follow.right_is;
          total_is = ap (λ (z : ℤ). total_after conn s.word.right z rest) (sym ht ∙ so_far.step.total)
              ∙ ap (λ (x : Word). total_after conn x.right here_node.total rest) word ∙ so_far.follow.total_is;
        }

    next_ones : (k : ℕ) → so_far.step.link.node ≡ Some k → (m : LatticeNode) × (slice_get linked.nodes.items k ≡ Some m) × PrecedesAtLeastCost conn m so_far.step.link.connection here_node
    next_ones k link_is = subst (IsBefore conn linked.nodes.items here_node so_far.step.link.connection) link_is (are.before.each at here_node so_far.step.link so_far.step.here so_far.step.linked_here)

    -- one more step
    pub back_more : (k : ℕ) (s : PathStep) (after : List PathStep) → after ≡ back ++ (s ∷ []) → so_far.step.link.node ≡ Some k → slice_get linked.on_best.items k ≡ Some false → IsStepAt linked k s → BackSoFar n k after
    back_more k s after pushed link_is off step =
        let p = next_ones k link_is in
        let same : p.0 ≡ step.node = same_Some p.0 step.node (sym p.1 ∙ step.here) in
        let to : PrecedesAtLeastCost conn step.node so_far.step.link.connection here_node = subst (λ (x : LatticeNode). PrecedesAtLeastCost conn x so_far.step.link.connection here_node) same p.2 in
        let turn : reverse after ≡ s ∷ reverse back = ap reverse pushed ∙ reverse-append back (s ∷ []) in
        record {
          first = s;
          rest = so_far.first ∷ so_far.rest;
          is = turn ∙ ap (λ (xs : List PathStep). s ∷ xs) so_far.is;
          step = step;
          follow = with_first step.node.word.end step.node.word.right step.node.total to.meet to.connection_is to.total_is;
          before = s ∷ so_far.before;
          chosen = so_far.chosen;
          parts = turn ∙ ap (λ (xs : List PathStep). s ∷ xs) so_far.parts;
          chosen_is = so_far.chosen_is;
          off = ((λ has. off_best words conn len best linked are k step.node step.here off (subst (Contains best) step.word has)), so_far.off);
        }

    -- ---- the end of the walk

    long : length back ≡ length so_far.before + 1
    long = sym (length-reverse back) ∙ ap length so_far.parts ∙ length_push so_far.before so_far.chosen

    stopped : (front : List Word) (place : ℕ) (reaches : Bool) → IsChainTo words front place → LeadUpTo n place (last_right front) (cost_to conn front) (so_far.first ∷ so_far.rest)
        → (reaches ≡ true) ↔ IsPrefix (reverse front) best → AreShown reaches so_far.before → IsWalkedBackward words conn best n reaches back
    stopped front place reaches prefix_chain follow begins shown =
        let is = sym so_far.is in
        record {
          front = front;
          place = place;
          before = so_far.before;
          chosen = so_far.chosen;
          prefix_chain = prefix_chain;
          steps_chain = subst (λ (xs : List PathStep). IsChain words place (words_of xs) n.word.end) is follow.steps_chain;
          steps_are = subst (λ (xs : List PathStep). xs ≡ steps_after conn (last_right front) (cost_to conn front) (words_of xs)) is follow.steps_are;
          parts = so_far.parts;
          chosen_is = so_far.chosen_is;
          right_is = subst (λ (xs : List PathStep). right_after (last_right front) (words_of xs) ≡ n.word.right) is follow.right_is;
          total_is = subst (λ (xs : List PathStep). total_after conn (last_right front) (cost_to conn front) (words_of xs) ≡ n.total) is follow.total_is;
          off = so_far.off;
          begins = begins;
          shown = shown;
        }

    all_shown : length back ≤ STEPS_MAX + 1 → AreShown true so_far.before
    all_shown few = record { few = omega (arith, few, long); left_out = λ e. absurd (cc) }

    pub back_to_bos : length back ≤ STEPS_MAX + 1 → so_far.step.link.node ≡ None → IsWalkedBackward words conn best n true back
    back_to_bos few none =
        let b = subst (IsBefore conn linked.nodes.items here_node so_far.step.link.connection) none (are.before.each at here_node so_far.step.link so_far.step.here so_far.step.linked_here) in
        stopped [] 0 true refl (with_first 0 0 (pos 0) (sym b.place) b.connection_is b.total_is) (λ e. (best, refl), λ p. refl) (all_shown few)

    pub back_to_best : (k : ℕ) → length back ≤ STEPS_MAX + 1 → so_far.step.link.node ≡ Some k → slice_get linked.on_best.items k ≡ Some true → IsWalkedBackward words conn best n true back
    back_to_best k few link_is on =
        let p = next_ones k link_is in
        let m = p.0 in
        let has = on_best_there words conn len best linked are k m p.1 on in
        let up_to = are.forward_costs k m p.1 in
        let sp = split words conn len are.lattice.source best are.best_is m.word m.total up_to has in
        let e : m.total ≡ cost_to conn (m.word ∷ sp.before) = total_on_best words conn len are.lattice.source best are.best_is m.word m.total up_to has in
        let sum = p.2.total_is in
        stopped (m.word ∷ sp.before) m.word.end true sp.prefix_chain
        (with_first m.word.end m.word.right (cost_to conn (m.word ∷ sp.before)) p.2.meet p.2.connection_is (sum ∙ ap (λ (z : ℤ). (z +ℤ so_far.step.link.connection) +ℤ here_node.word.cost) e))
        (λ e. (sp.after, sp.is), λ q. refl) (all_shown few)

    pub back_cut : (k : ℕ) → length back ≤ STEPS_MAX + 1 → STEPS_MAX < length back → so_far.step.link.node ≡ Some k → slice_get linked.on_best.items k ≡ Some false → IsWalkedBackward words conn best n false back
    back_cut k few many link_is off =
        let p = next_ones k link_is in
        let m = p.0 in
        let up = (are.forward_costs k m p.1).0 in
        let sum = p.2.total_is in
        stopped (m.word ∷ up.0) m.word.end false up.1
        (with_first m.word.end m.word.right (cost_to conn (m.word ∷ up.0)) p.2.meet p.2.connection_is (sum ∙ ap (λ (z : ℤ). (z +ℤ so_far.step.link.connection) +ℤ here_node.word.cost) up.2))
        (λ e. absurd (cc), λ q. absurd (off_best words conn len best linked are k m p.1 off (last_on best up.0 m.word q)))
        (record { few = omega (arith, few, long); left_out = λ e. omega (arith, few, many, long) })

    -- ---- by the link that was read, and the node to which it leads

    module _ (link : Neighbor) (at_link : slice_get linked.before.items at ≡ Some link) (o : Option ℕ) (other : IsOther linked.on_best.items link.node o) where
      same_link : (p : Option ℕ) → link.node ≡ p → so_far.step.link.node ≡ p
      same_link p is = ap (λ (x : Neighbor). x.node) (same_Some so_far.step.link link (sym so_far.step.linked_here ∙ at_link)) ∙ is

      pub back_on : (k : ℕ) (s : PathStep) (after : List PathStep) → o ≡ Some k → after ≡ back ++ (s ∷ []) → IsStepAt linked k s → BackSoFar n k after
      back_on k s after some pushed step = let p = other.some k some in back_more k s after pushed (same_link (Some k) p.0) p.1 step

      pub back_cut_off : (k : ℕ) → o ≡ Some k → length back ≤ STEPS_MAX + 1 → STEPS_MAX < length back → IsWalkedBackward words conn best n false back
      back_cut_off k some few many = let p = other.some k some in back_cut k few many (same_link (Some k) p.0) p.1

      pub back_ended : o ≡ None → length back ≤ STEPS_MAX + 1 → IsWalkedBackward words conn best n true back
      back_ended none few = elim (other.none none) [
        | inl bos ↦ back_to_bos few (same_link None bos)
        | inr there ↦ back_to_best there.0 few (same_link (Some there.0) there.1) there.2
      ]
