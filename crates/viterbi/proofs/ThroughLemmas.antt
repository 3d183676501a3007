-- The path of a rival: a prefix, the steps of both walks, and a suffix.
use Rattle.std.proofs.Common.{◌≡◌, ℕ, List, [], ◌∷◌, ◌++◌, reverse, Contains, Some, refl, sym, ap, ◌∙◌, subst}
use Rattle.std.specs.Prelude.{ℤ, ◌+ℤ◌}
use Rattle.std.proofs.lemmas.List.{append_assoc, map-append, reverse-reverse}
use Rattle.mj_model.specs.declared.word.Word.{Word}
use Rattle.mj_model.specs.ReversedChains.{cost_to, last_right}
use Rattle.mj_model.specs.Cost.{cost_after, path_cost}
use Rattle.mj_model.specs.Paths.{IsChain}
use Rattle.mj_model.proofs.ReversedChainLemmas.{chain_forward}
use Rattle.viterbi.specs.Nodes.Least.{IsLeastOf}
use Rattle.viterbi.specs.Rivals.Crossing.{CostWithReplacement, Replaces}
use Rattle.viterbi.specs.Rivals.RivalsState.{AreWithNeighbors}
use Rattle.viterbi.specs.Rivals.PathSteps.{right_after, steps_after, total_after, words_of}
use Rattle.viterbi.specs.Rivals.Rivals.{IsRivalOf}
use Rattle.viterbi.specs.Rivals.RivalPaths.{AreOff, IsRivalPath}
use Rattle.viterbi.specs.Rivals.Walked.{IsWalkedBackward, IsWalkedForward}
use Rattle.viterbi.specs.declared.rivals.nodes_with_neighbors.NodesWithNeighbors.{NodesWithNeighbors}
use Rattle.viterbi.specs.declared.rivals.rival.Rival.{Rival}
use Rattle.viterbi.specs.declared.rivals.rival_path.RivalPath.{RivalPath}
use Rattle.viterbi.specs.declared.rivals.step.PathStep.{PathStep}
use Rattle.viterbi.proofs.BoundaryLemmas.{never_both}
use Rattle.viterbi.proofs.JoinedLemmas.{chain_append, cost_prefix, cost_tail, off_append, split_at, steps_joined}

module _ (words : ℕ → List Word) (conn : ℕ → ℕ → ℤ) (len : ℕ) (best : List Word) (linked : NodesWithNeighbors) (are : AreWithNeighbors words conn len best linked) (w : Word) (has : Contains best w) (r : Rival) (rival : IsRivalOf words conn linked.nodes.items w r) where
  -- a word that replaces one of the best path's is not on that path
  rival_off : Contains best rival.node.word → ⊥
  rival_off there =
      let sp = split_at words len are.lattice.source best are.best_is.to w are.best_is.path.chain has in
      let forward = are.lattice.source.go_on w.place w sp.prefix_chain.1 in
      never_both words len are.lattice.source best are.best_is.to are.best_is.path w forward (w, has, (refl, refl)) (rival.node.word, there, rival.takes_place)

  module _ (p : RivalPath) (back on : List PathStep) (walked_back : IsWalkedBackward words conn best rival.node p.begins back) (walked_on : IsWalkedForward words conn best rival.node r.cost p.ends on) (cost_is : p.cost ≡ r.cost) (steps_are : p.steps.items ≡ reverse back ++ on) where
    abbrev front : List Word
    front = reverse walked_back.front

    abbrev right : ℕ
    right = last_right walked_back.front

    abbrev total : ℤ
    total = cost_to conn walked_back.front

    abbrev middle : List Word
    middle = words_of (reverse back)

    words_are : words_of p.steps.items ≡ middle ++ words_of on
    words_are = ap words_of steps_are ∙ map-append (λ (s : PathStep). s.word) (reverse back) on

    all_are : front ++ (words_of p.steps.items ++ walked_on.back) ≡ front ++ (middle ++ (words_of on ++ walked_on.back))
    all_are = ap (λ (ws : List Word). front ++ (ws ++ walked_on.back)) words_are ∙ ap (λ (ws : List Word). front ++ ws) (append_assoc middle (words_of on) walked_on.back)

    chain : IsChain words 0 (front ++ (middle ++ (words_of on ++ walked_on.back))) walked_on.to
    chain =
        chain_append words front (middle ++ (words_of on ++ walked_on.back)) 0 walked_back.place walked_on.to
        (chain_forward words conn len are.lattice.source walked_back.front walked_back.place walked_back.prefix_chain)
        (chain_append words middle (words_of on ++ walked_on.back) walked_back.place rival.node.word.end walked_on.to walked_back.steps_chain walked_on.steps_chain)

    costs : path_cost conn (front ++ (middle ++ (words_of on ++ walked_on.back))) ≡ r.cost
    costs =
        let tail = words_of on ++ walked_on.back in
        cost_prefix conn walked_back.front (middle ++ tail)
        ∙ cost_tail conn middle tail right total
        ∙ ap (λ (z : ℤ). z +ℤ cost_after conn (right_after right middle) tail) walked_back.total_is
        ∙ ap (λ (x : ℕ). rival.node.total +ℤ cost_after conn x tail) walked_back.right_is
        ∙ sym walked_on.cost_is

    joined : reverse back ++ on ≡ steps_after conn right total (words_of (reverse back ++ on))
    joined = steps_joined conn (reverse back) on right total walked_back.steps_are
        (walked_on.steps_are
        ∙ ap (λ (z : ℤ). steps_after conn rival.node.word.right z (words_of on)) (sym walked_back.total_is)
        ∙ ap (λ (x : ℕ). steps_after conn x (total_after conn right total middle) (words_of on)) (sym walked_back.right_is))

    off_back : AreOff best (reverse back)
    off_back = subst (AreOff best) (sym walked_back.parts) (off_append best walked_back.before (walked_back.chosen ∷ []) walked_back.off
        ((λ there. rival_off (subst (Contains best) walked_back.chosen_is there)), tt))

    pub is_rival_path : IsRivalPath words conn best w p
    is_rival_path = record {
      front = front;
      back = walked_on.back;
      to = walked_on.to;
      is_path = record { chain = subst (λ (ws : List Word). IsChain words 0 ws walked_on.to) (sym all_are) chain; longest = walked_on.longest };
      cost_is = cost_is ∙ sym costs ∙ ap (path_cost conn) (sym all_are);
      least = subst (λ (c : ℤ). IsLeastOf (CostWithReplacement words conn w) (Some c)) (sym cost_is) rival.least;
      before = walked_back.before;
      chosen = walked_back.chosen;
      after = on;
      parts = steps_are ∙ ap (λ (xs : List PathStep). xs ++ on) walked_back.parts ∙ append_assoc walked_back.before (walked_back.chosen ∷ []) on;
      takes_place = subst (λ (x : Word). Replaces x w) (sym walked_back.chosen_is) rival.takes_place;
      steps_are = subst (λ (vs : List Word). p.steps.items ≡ steps_after conn (last_right vs) (cost_to conn vs) (words_of p.steps.items)) (sym (reverse-reverse walked_back.front))
          (subst (λ (xs : List PathStep). xs ≡ steps_after conn right total (words_of xs)) (sym steps_are) joined);
      off = subst (AreOff best) (sym steps_are) (off_append best (reverse back) on off_back walked_on.off);
      begins = walked_back.begins;
      ends = walked_on.ends;
      before_shown = walked_back.shown;
      after_shown = walked_on.shown;
    }
