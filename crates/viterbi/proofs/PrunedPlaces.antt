-- A position with pruned words: the nodes so far are still a lattice of the kept words, and their
-- best path is the best of all.
use Rattle.std.proofs.Common.{◌≡◌, ℕ, ◌+◌, ◌<◌, List, ◌∷◌, length, flat_map, Contains, Some, Bool, true, false, if◌then◌else◌, nat_eq, inl, inr, refl, sym, ap, ◌∙◌, subst, arith, slice_get}
use Rattle.std.specs.Prelude.{ℤ}
use Rattle.std.proofs.lemmas.Bool.{eq-eqb, eqb-true}
use Rattle.std.proofs.lemmas.Int.{ints}
use Rattle.std.proofs.lemmas.Option.{slice_get_within}
use Rattle.mj_model.specs.declared.word.Word.{Word}
use Rattle.mj_model.specs.declared.paths.surface.Surface.{Surface}
use Rattle.mj_model.specs.Best.{AreWords}
use Rattle.mj_model.specs.ReversedChains.{IsChainTo, IsNoWorseThan, cost_to, cost_with_next}
use Rattle.mj_model.specs.Order.{IsEarlierIn}
use Rattle.mj_model.specs.Pruned.{ArePartOf, ArePruned}
use Rattle.mj_model.proofs.Pruning.{PrunesPlace, best_moves, chain_moves, kept_words, no_worse_widens, preferred_moves, prunes_more}
use Rattle.viterbi.specs.declared.search.node.Backpointer.{Backpointer}
use Rattle.viterbi.specs.declared.search.node.SurfaceNodes.{SurfaceNodes}
use Rattle.viterbi.specs.declared.search.node.EndNode.{EndNode}
use Rattle.viterbi.specs.declared.search.start_position.StartPosition.{StartPosition}
use Rattle.viterbi.specs.Search.EndNodes.{HasSmallTotal, IsFollowedBy}
use Rattle.viterbi.specs.Search.Lattice.{IsBestNode, IsPredecessor, IsLattice}
use Rattle.viterbi.specs.Search.Nodes.{Node}
use Rattle.viterbi.specs.Search.StartPositions.{AreKeptFrom}
use Rattle.viterbi.specs.Search.Pruning.{ArePrunedSurfaces, ArePrunedWords, CanBePrunedAll, HasForwardCost, IsReplaced}
use Rattle.viterbi.specs.Search.SearchedText.{AreAllStored, AreRightsStored, AreSurfacesAt, CanBeSearched, IsLatticeTo, IsPrunedTo, SearchedText, nodes_in, with_words}
use Rattle.viterbi.specs.Search.PrunedEndNodes.{AreBestEndNodes}
use Rattle.viterbi.proofs.Choice.{all_followed, least_is_predecessor, small_forward_costs}
use Rattle.viterbi.proofs.PruningLemmas.{holds_left, least_left}
use Rattle.viterbi.proofs.WordNumbers.{all_words}

-- kept words can be searched
pub can_search_kept : (t : SearchedText) (kept : ℕ → List Word) → CanBeSearched t → ArePruned t.words kept t.connection → CanBeSearched (with_words t kept)
can_search_kept t kept can pruned =
    record {
      source = record {
        are = kept_words t.words kept t.connection t.text_length can.source.are pruned;
        costs = λ p w h. can.source.costs p w ((pruned.part p).among w h);
        connections = can.source.connections;
      };
      short = can.short;
      places = record { begins = can.places.begins; word_ends_there = λ p w h. can.places.word_ends_there p w ((pruned.part p).among w h) };
      eos_follows = record { after_bos = can.eos_follows.after_bos; after_word = λ p w h. can.eos_follows.after_word p w ((pruned.part p).among w h) };
      word_follows = λ p w h.
          let follows = can.word_follows p w ((pruned.part p).among w h) in
          record { after_bos = follows.after_bos; after_word = λ q v k. follows.after_word q v ((pruned.part q).among v k) };
    }

-- ---- words that differ only from a position on

module _ (a b : ℕ → List Word) (conn : ℕ → ℕ → ℤ) (len p : ℕ) (are_a : AreWords a len) (are_b : AreWords b len) (same : (q : ℕ) → q < p → a q ≡ b q) where
  module _ (nodes : List Node) (l : IsLattice a conn nodes p (length (a p))) where
    -- each node is at an earlier position
    below : (i : ℕ) (n : Node) → slice_get nodes i ≡ Some n → n.word.place < p
    below i n at = elim (l.done i n at) [
      | inl less ↦ less
      | inr here ↦ let low = slice_get_within (a p) here.1.0 n.word here.1.2 in let from = here.1.1 in absurd (omega (arith, low, from))
    ]

    node_moves : (i : ℕ) (n : Node) → slice_get nodes i ≡ Some n → IsBestNode b conn nodes i n
    node_moves i n at =
        let best = l.best i n at in
        let less = below i n at in
        record {
          chain = best.chain;
          traced = best.traced;
          best = best_moves a b conn len p are_a are_b same best.chain n.word.place n.word.left (omega (arith, less)) best.best;
          is_word = subst (λ (ws : List Word). Contains ws n.word) (same n.word.place less) best.is_word;
          total_is = best.total_is;
          below = best.below;
        }

    pub lattice_moves : IsLattice b conn nodes p (length (b p))
    lattice_moves = record {
      best = node_moves;
      done = λ i n at. inl (below i n at);
      order = λ i j m n less at_i at_j. preferred_moves a b len p are_a same n.word m.word (below j n at_j) (l.order i j m n less at_i at_j);
      complete = λ w ws c d. elim d [
        | inl less ↦ l.complete w ws (refl, subst (λ (vs : List Word). Contains vs w) (sym (same w.place less)) c.1, chain_moves b a len p are_b (λ q low. sym (same q low)) ws w.place (omega (arith, less)) c.2) (inl less)
        | inr here ↦ let low = slice_get_within (b p) here.1.0 w here.1.2 in let from = here.1.1 in absurd (omega (arith, low, from))
      ];
    }

module _ (t : SearchedText) (can : CanBeSearched t) (p : ℕ) (within : p < t.text_length) (nodes : List Node) (l : IsLatticeTo t nodes p) (ends : List EndNode) (best : AreBestEndNodes nodes p ends) where
  abbrev conn : ℕ → ℕ → ℤ
  conn = t.connection

  abbrev kept : ℕ → List Word
  kept = l.kept

  -- the end nodes allow forward costs
  pub can_be_pruned : (surfaces : List Surface) → 0 < length ends → AreSurfacesAt t p surfaces → CanBePrunedAll t ends surfaces
  can_be_pruned surfaces some are = record {
    whole = are.whole;
    words = record {
      some = some;
      forward_costs = holds_left best.all ends best.left HasSmallTotal
          (small_forward_costs kept conn t.text_length l.pruned.searched.source nodes p (length (kept p)) p best.all can.short l.lattice best.are);
      connections = can.source.connections;
      pairs = λ w h.
          let here : Contains (t.words p) w = subst (λ (ws : List Word). Contains ws w) are.joined h in
          let also = subst (λ (ws : List Word). Contains ws w) (sym (l.pruned.later p (omega arith))) here in
          holds_left best.all ends best.left (IsFollowedBy t.is_pair w.left)
          (all_followed kept conn t.text_length l.pruned.searched.source t.is_pair nodes p (length (kept p)) p w.left best.all (l.pruned.searched.word_follows p w also) l.lattice best.are);
    };
  }

  -- a word's forward cost is that of the best chain to it
  cost_has_predecessor : (w : Word) (cost : ℤ) (h : HasForwardCost conn ends w cost) → IsPredecessor kept conn nodes p w.left h.predecessor
  cost_has_predecessor w cost h =
      least_is_predecessor kept conn t.text_length l.pruned.searched.source nodes p (length (kept p)) p w.left best.all h.predecessor l.lattice (omega arith) best.are
      (least_left best.all ends best.left conn w.left h.predecessor h.best_predecessor)

  -- a word after the best chain to it is no worse than after another chain
  own_best : (w : Word) (cost : ℤ) (h : HasForwardCost conn ends w cost) (vs : List Word) → IsChainTo kept vs p → IsNoWorseThan t.words cost (w ∷ (cost_has_predecessor w cost h).chain) (cost_to conn (w ∷ vs)) (w ∷ vs)
  own_best w cost h vs chain =
      let j = cost_has_predecessor w cost h in
      let is = j.cost_is in
      let total = h.total_is in
      elim (no_worse_widens t.words kept conn t.text_length can.source.are l.pruned.pruned (cost_with_next conn j.chain w.left) (cost_with_next conn vs w.left) j.chain vs (j.best.best vs chain)) [
        | inl less ↦ inl (omega (arith, ints, less, is, total))
        | inr same ↦ inr (omega (arith, ints, same.0, is, total), elim same.1 [ inl one ↦ inl (ap (λ (us : List Word). w ∷ us) one) | inr tie ↦ inr (inr (refl, tie)) ])
      ]

  -- a word that replaces another one replaces it after any chain
  replaced : (some : List Word) (v : Word) (vs : List Word) → v.place ≡ p → IsReplaced conn ends (t.words p) some v → ArePartOf (t.words p) some → IsChainTo kept vs p
      → (u : Word) × (us : List Word) × Contains some u × IsChainTo kept us p × (u.end ≡ v.end) × (u.right ≡ v.right) × IsNoWorseThan t.words (cost_to conn (u ∷ us)) (u ∷ us) (cost_to conn (v ∷ vs)) (v ∷ vs)
  replaced some v vs at r part chain =
      let u = r.word in
      let ju = cost_has_predecessor u r.cost r.has_cost in
      let us = ju.chain in
      let u_at : u.place ≡ p = can.source.are.places p u (part.among u r.there) in
      let ju_is = ju.cost_is in
      let total = r.has_cost.total_is in
      let cost : cost_to conn (u ∷ us) ≡ r.cost = omega (arith, ints, ju_is, total) in
      let own = own_best v r.own r.has_own vs chain in
      let no_worse : IsNoWorseThan t.words (cost_to conn (u ∷ us)) (u ∷ us) (cost_to conn (v ∷ vs)) (v ∷ vs) = elim r.no_more [
        | inl less ↦ elim own [
          | inl more ↦ inl (omega (arith, ints, cost, less, more))
          | inr same ↦ inl (omega (arith, ints, cost, less, same.0))
        ]
        | inr equal ↦ elim own [
          | inl more ↦ inl (omega (arith, ints, cost, equal.0, more))
          | inr same ↦ inr (
            cost ∙ equal.0 ∙ same.0,
            inr (inl (inr (u_at ∙ sym at, subst (λ (q : ℕ). IsEarlierIn (t.words q) u v) (sym u_at) equal.1))),
          )
        ]
      ] in
      (u, us, r.there, ju.best.chain, r.end, r.right, no_worse)

  -- ---- the kept words of one more position

  module _ (old new : List Surface) (are : AreSurfacesAt t p old) (pruned : ArePrunedSurfaces t ends old new) where
    abbrev some : List Word
    some = flat_map t.surface_words new

    abbrev pub fewer : ℕ → List Word
    fewer q = if nat_eq q p then some else kept q

    fewer_here : fewer p ≡ some
    fewer_here = ap (λ (b : Bool). if b then some else kept p) (eq-eqb p p refl)

    fewer_by : (q : ℕ) (b : Bool) → nat_eq q p ≡ b → (q ≡ p → ⊥) → kept q ≡ (if b then some else kept q)
    fewer_by q true is other = absurd (other (eqb-true q p is))
    fewer_by q false is other = refl

    fewer_elsewhere : (q : ℕ) → (q ≡ p → ⊥) → kept q ≡ fewer q
    fewer_elsewhere q other = fewer_by q (nat_eq q p) refl other

    words_are : ArePrunedWords conn ends (t.words p) some
    words_are = subst (λ (ws : List Word). ArePrunedWords conn ends ws some) are.joined pruned.words

    prunes : PrunesPlace t.words kept conn t.text_length can.source.are l.pruned.pruned p fewer
    prunes = record {
      whole = l.pruned.later p (omega arith);
      elsewhere = fewer_elsewhere;
      part = subst (ArePartOf (t.words p)) (sym fewer_here) words_are.part;
      serves = λ v vs h chain.
          let at = can.source.are.places p v h in
          subst (λ (ws : List Word). (u : Word) × (us : List Word) × Contains ws u × IsChainTo kept us p × (u.end ≡ v.end) × (u.right ≡ v.right) × IsNoWorseThan t.words (cost_to conn (u ∷ us)) (u ∷ us) (cost_to conn (v ∷ vs)) (v ∷ vs)) (sym fewer_here)
          (elim (words_are.served v h) [
            | inl there ↦ (v, vs, there, chain, refl, refl, inr (refl, inl refl))
            | inr other ↦ replaced some v vs at other words_are.part chain
          ]);
    }

    fewer_pruned : ArePruned t.words fewer conn
    fewer_pruned = prunes_more t.words kept conn t.text_length can.source.are l.pruned.pruned p fewer prunes

    fewer_to : IsPrunedTo t (p + 1) fewer
    fewer_to = record {
      searched = can_search_kept t fewer can fewer_pruned;
      pruned = fewer_pruned;
      later = λ q more. sym (fewer_elsewhere q (λ e. omega (arith, e, more))) ∙ l.pruned.later q (omega (arith, more));
    }

    fewer_lattice : IsLattice fewer conn nodes p (length (fewer p))
    fewer_lattice = lattice_moves kept fewer conn t.text_length p l.pruned.searched.source.are fewer_to.searched.source.are
        (λ q less. fewer_elsewhere q (λ e. omega (arith, e, less))) nodes l.lattice

    pub fewer_surfaces : AreSurfacesAt (with_words t fewer) p new
    fewer_surfaces = record { joined = sym fewer_here; whole = pruned.whole }

-- before the words of a position are added
pub none_added : (t : SearchedText) (can : CanBeSearched t) (p : StartPosition) (within : p.start < t.text_length) (by_surface : List SurfaceNodes) (backpointers : List Backpointer) (l : IsLatticeTo t (nodes_in t by_surface backpointers) p.start)
    → (ends : List EndNode) → p.ends.now ≡ ends → AreBestEndNodes (nodes_in t by_surface backpointers) p.start ends → 0 < length ends → (old new : List Surface) → p.surfaces.now ≡ new → AreSurfacesAt t p.start old → ArePrunedSurfaces t ends old new
    → AreAllStored t by_surface backpointers → AreRightsStored t by_surface backpointers → AreKeptFrom t p (length p.surfaces.now) 0 by_surface backpointers
none_added t can p within by_surface backpointers l all_ends ends_are their_best some_all old new are_new are their_pruned all rights =
    let nodes = nodes_in t by_surface backpointers in
    let ss = p.surfaces.now in
    let best = subst (AreBestEndNodes nodes p.start) (sym ends_are) their_best in
    let some_ends = subst (λ (xs : List EndNode). 0 < length xs) (sym ends_are) some_all in
    let pruned = subst (λ (xs : List EndNode). ArePrunedSurfaces t xs old ss) (sym ends_are) (subst (ArePrunedSurfaces t all_ends old) (sym are_new) their_pruned) in
    let words = fewer t can p.start within nodes l p.ends.now best old ss are pruned in
    let to = fewer_to t can p.start within nodes l p.ends.now best old ss are pruned in
    let surfaces = fewer_surfaces t can p.start within nodes l p.ends.now best old ss are pruned in
    record {
      kept = words;
      pruned = to;
      place = record { source = to.searched; within = within; surfaces = surfaces; some = some_ends };
      added = record {
        left = omega (arith, all);
        rights = rights;
        lattice = subst (IsLattice words t.connection nodes p.start) (sym (all_words (with_words t words) p.start ss surfaces)) (fewer_lattice t can p.start within nodes l p.ends.now best old ss are pruned);
        ends = best;
      };
    }
