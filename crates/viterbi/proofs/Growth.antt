-- The lattice grows by a word and by a position.
use Rattle.std.proofs.Common.{◌≡◌, ℕ, zero, suc, ◌+◌, ◌<◌, List, [], ◌∷◌, ◌++◌, length, Contains, Some, true, false, ◌⊎◌, inl, inr, sym, ap, ◌∙◌, subst, arith, slice_get}
use Rattle.std.specs.Prelude.{ℤ, ◌+ℤ◌}
use Rattle.std.proofs.lemmas.Bool.{cases_lt, eqb-true, eqb-false}
use Rattle.std.proofs.lemmas.Option.{same_Some, slice_get_within}
use Rattle.mj_model.specs.declared.word.Word.{Word}
use Rattle.viterbi.specs.declared.search.node.Predecessor.{Predecessor}
use Rattle.mj_model.specs.Order.{IsPreferred}
use Rattle.mj_model.specs.Best.{IsSource}
use Rattle.mj_model.specs.ReversedChains.{IsChainTo, IsBestTo}
use Rattle.mj_model.specs.declared.paths.surface.Surface.{Surface}
use Rattle.viterbi.specs.declared.search.node.Backpointer.{Backpointer}
use Rattle.viterbi.specs.declared.search.node.SurfaceNodes.{SurfaceNodes}
use Rattle.viterbi.specs.Search.Nodes.{AreLinked, AreSurfaceNodes, Node, link_of, node_words, nodes_of, reached}
use Rattle.viterbi.specs.Search.Lattice.{IsBestNode, IsProcessed, IsLattice, IsPredecessor, NoChain, node_of}
use Rattle.mj_model.specs.Searchable.{StaysOnPlaces}
use Rattle.viterbi.proofs.Pushed.{get_push_old, get_push_new, get_push_cases, get_from_Contains, Contains_from_get}
use Rattle.viterbi.proofs.Links.{traces_push, below_all}
use Rattle.viterbi.proofs.Choice.{none_leads}
use Rattle.viterbi.proofs.SurfaceNodeLemmas.{node_group, group_node}

module _ (words : ℕ → List Word) (conn : ℕ → ℕ → ℤ) (len : ℕ) (source : IsSource words conn len) where
  abbrev pub Lattice : List Node → ℕ → ℕ → Type 0
  Lattice nodes p k = IsLattice words conn nodes p k

  -- what was done stays done
  done_more : (p k : ℕ) (w : Word) → IsProcessed words p (k + 1) w → IsProcessed words p k w
  done_more p k w (inl less) = inl less
  done_more p k w (inr (e, (i, above, at))) = inr (e, (i, omega arith, at))

  -- what is done is what was, and the k-th word
  done_more_cases : (p k : ℕ) (w : Word) → IsProcessed words p k w → IsProcessed words p (k + 1) w ⊎ ((w.place ≡ p) × (slice_get (words p) k ≡ Some w))
  done_more_cases p k w (inl less) = inl (inl less)
  done_more_cases p k w (inr (e, (i, above, at))) =
      elim (cases_lt k i) [
        | inl less ↦ inl (inr (e, (i, omega arith, at)))
        | inr more ↦ let same : i ≡ k = omega arith in inr (e, subst (λ (j : ℕ). slice_get (words p) j ≡ Some w) same at)
      ]

  module _ (nodes : List Node) (p k : ℕ) (w : Word) (j : Predecessor) (got : slice_get (words p) k ≡ Some w) (predecessor : IsPredecessor words conn nodes p w.left j) (l : IsLattice words conn nodes p (k + 1)) where
    member : Contains (words p) w
    member = Contains_from_get (words p) k w got

    at_place : w.place ≡ p
    at_place = source.are.places p w member

    new_best : IsBestNode words conn (nodes ++ node_of w j ∷ []) (length nodes) (node_of w j)
    new_best = record {
      chain = predecessor.chain;
      traced = traces_push nodes (node_of w j) (link_of j.before) predecessor.chain predecessor.traced;
      best = subst (λ (q : ℕ). IsBestTo words conn predecessor.chain q w.left) (sym at_place) predecessor.best;
      is_word = subst (λ (q : ℕ). Contains (words q) w) (sym at_place) member;
      total_is = ap (λ (z : ℤ). z +ℤ w.cost) predecessor.cost_is;
      below = below_all nodes (link_of j.before) predecessor.chain predecessor.traced;
    }

    old_best : (i : ℕ) (n : Node) → IsBestNode words conn nodes i n → IsBestNode words conn (nodes ++ node_of w j ∷ []) i n
    old_best i n b = record {
      chain = b.chain;
      traced = traces_push nodes (node_of w j) n.before b.chain b.traced;
      best = b.best;
      is_word = b.is_word;
      total_is = b.total_is;
      below = b.below;
    }

    all_best : (i : ℕ) (n : Node) → slice_get (nodes ++ node_of w j ∷ []) i ≡ Some n → IsBestNode words conn (nodes ++ node_of w j ∷ []) i n
    all_best i n at = elim (get_push_cases nodes (node_of w j) i n at) [
      | inl old ↦ old_best i n (l.best i n old)
      | inr new ↦ subst (IsBestNode words conn (nodes ++ node_of w j ∷ []) i) new.1 (subst (λ (h : ℕ). IsBestNode words conn (nodes ++ node_of w j ∷ []) h (node_of w j)) (sym new.0) new_best)
    ]

    all_done : (i : ℕ) (n : Node) → slice_get (nodes ++ node_of w j ∷ []) i ≡ Some n → IsProcessed words p k n.word
    all_done i n at = elim (get_push_cases nodes (node_of w j) i n at) [
      | inl old ↦ done_more p k n.word (l.done i n old)
      | inr new ↦ subst (λ (x : Node). IsProcessed words p k x.word) new.1 (inr (at_place, (k, omega arith, got)))
    ]

    preferred_new : (m : Word) → IsProcessed words p (k + 1) m → IsPreferred words w m
    preferred_new m (inl less) = let e = at_place in inl (omega (arith, e, less))
    preferred_new m (inr (e, (i, above, at))) = inr (
      at_place ∙ sym e,
      record {
        first = k;
        second = i;
        in_order = omega arith;
        has_first = subst (λ (q : ℕ). slice_get (words q) k ≡ Some w) (sym at_place) got;
        has_second = subst (λ (q : ℕ). slice_get (words q) i ≡ Some m) (sym at_place) at;
      },
    )

    all_order : (a b : ℕ) (m n : Node) → a < b → slice_get (nodes ++ node_of w j ∷ []) a ≡ Some m → slice_get (nodes ++ node_of w j ∷ []) b ≡ Some n → IsPreferred words n.word m.word
    all_order a b m n less at_a at_b = elim (get_push_cases nodes (node_of w j) b n at_b) [
      | inl old_b ↦ elim (get_push_cases nodes (node_of w j) a m at_a) [
        | inl old_a ↦ l.order a b m n less old_a old_b
        | inr new_a ↦ let x = slice_get_within nodes b n old_b in let y = new_a.0 in absurd (omega (arith, x, y))
      ]
      | inr new_b ↦ elim (get_push_cases nodes (node_of w j) a m at_a) [
        | inl old_a ↦ subst (λ (x : Node). IsPreferred words x.word m.word) new_b.1 (preferred_new m.word (l.done a m old_a))
        | inr new_a ↦ let x = new_b.0 in let y = new_a.0 in absurd (omega (arith, x, y))
      ]
    ]

    all_complete : (u : Word) (us : List Word) → IsChainTo words (u ∷ us) u.end → IsProcessed words p k u → (i : ℕ) × (n : Node) × (slice_get (nodes ++ node_of w j ∷ []) i ≡ Some n) × (n.word ≡ u)
    all_complete u us c d = elim (done_more_cases p k u d) [
      | inl old ↦ let f = l.complete u us c old in (f.0, f.1, get_push_old nodes (node_of w j) f.0 f.1 f.2, f.3)
      | inr new ↦ (length nodes, node_of w j, get_push_new nodes (node_of w j), same_Some w u (sym got ∙ new.1))
    ]

    pub grows : IsLattice words conn (nodes ++ node_of w j ∷ []) p k
    grows = record { best = all_best; done = all_done; order = all_order; complete = all_complete }

  -- after the first word of a position comes the next position
  pub at_next_position : (nodes : List Node) (p : ℕ) → Lattice nodes p 0 → Lattice nodes (p + 1) (length (words (p + 1)))
  at_next_position nodes p l = record {
    best = l.best;
    done = λ i n h. elim (l.done i n h) [ inl less ↦ inl (omega arith) | inr at ↦ let e = at.0 in inl (omega (arith, e)) ];
    order = l.order;
    complete = λ w ws c d. l.complete w ws c (elim d [
      | inl less ↦ elim (cases_lt w.place p) [
        | inl before ↦ inl before
        | inr more ↦
            let e : w.place ≡ p = omega arith in
            let f = get_from_Contains (words w.place) w c.1 in
            let g = subst (λ (q : ℕ). slice_get (words q) f.0 ≡ Some w) e f.1 in
            inr (e, (f.0, omega arith, g))
      ]
      | inr at ↦ let le = at.1.1 in let low = slice_get_within (words (p + 1)) at.1.0 w at.1.2 in absurd (omega (arith, le, low))
    ]);
  }

  -- a word of the position ends after it
  pub word_goes_on : (p k : ℕ) (w : Word) → slice_get (words p) k ≡ Some w → p < w.end
  word_goes_on p k w got = source.are.go_on p w (Contains_from_get (words p) k w got)

  pub word_there : (p k : ℕ) (w : Word) → slice_get (words p) k ≡ Some w → Contains (words p) w
  word_there p k w got = Contains_from_get (words p) k w got

  -- ---- positions that some chain reaches

  -- a position with a head is the end of some word, or the start of the text
  pub reached_place : (is_place : ℕ → Type 0) (f : Surface → List Word) (by_surface : List SurfaceNodes) (backpointers : List Backpointer) (heads : List ℕ) (p k place head : ℕ) → StaysOnPlaces is_place words → AreSurfaceNodes f by_surface → length backpointers ≡ length (node_words f by_surface)
      → Lattice (nodes_of (node_words f by_surface) backpointers) p k → AreLinked by_surface heads → slice_get heads place ≡ Some head → reached place head ≡ true → is_place place
  reached_place is_place f by_surface backpointers heads p k place zero stays are all l linked at yes_it_is = subst is_place (sym (eqb-true place 0 yes_it_is)) stays.begins
  reached_place is_place f by_surface backpointers heads p k place (suc i) stays are all l linked at yes_it_is =
      let latest = linked.heads_latest place (suc i) at in
      let node = group_node f by_surface are backpointers all i latest.1.0 latest.1.1 in
      let b = l.best latest.1.0.from node.0 node.1 in
      subst is_place (node.2 ∙ latest.1.2) (stays.word_ends_there node.0.word.place node.0.word b.is_word)

  -- a position that no chain reaches adds no node
  passes : (nodes : List Node) (p : ℕ) → NoChain words p → Lattice nodes p (length (words p)) → Lattice nodes (p + 1) (length (words (p + 1)))
  passes nodes p none l = record {
    best = l.best;
    done = λ i n h. elim (l.done i n h) [ inl less ↦ inl (omega arith) | inr at ↦ let e = at.0 in inl (omega (arith, e)) ];
    order = l.order;
    complete = λ w ws c d. l.complete w ws c (elim d [
      | inl less ↦ elim (cases_lt w.place p) [
        | inl before ↦ inl before
        | inr more ↦
            let e : w.place ≡ p = omega arith in
            absurd (none ws (subst (IsChainTo words ws) e c.2))
      ]
      | inr at ↦ let le = at.1.1 in let low = slice_get_within (words (p + 1)) at.1.0 w at.1.2 in absurd (omega (arith, le, low))
    ]);
  }

  -- a position without a head is skipped
  pub not_reached : (f : Surface → List Word) (by_surface : List SurfaceNodes) (backpointers : List Backpointer) (heads : List ℕ) (p head : ℕ) → AreSurfaceNodes f by_surface → length backpointers ≡ length (node_words f by_surface)
      → Lattice (nodes_of (node_words f by_surface) backpointers) p (length (words p)) → AreLinked by_surface heads → slice_get heads p ≡ Some head → reached p head ≡ false → Lattice (nodes_of (node_words f by_surface) backpointers) (p + 1) (length (words (p + 1)))
  not_reached f by_surface backpointers heads p (suc i) are all l linked at it_is_not = absurd (cc)
  not_reached f by_surface backpointers heads p zero are all l linked at it_is_not =
      let nodes = nodes_of (node_words f by_surface) backpointers in
      let above : 0 < p = let n = eqb-false p 0 it_is_not in omega (arith, n) in
      let latest = linked.heads_latest p 0 at in
      passes nodes p (none_leads words conn len source nodes p (length (words p)) p l (omega arith) above (λ k m here there.
      let q = node_group f by_surface are backpointers all k m here in
      latest q.0 q.1.surface_nodes (slice_get_within by_surface q.0 q.1.surface_nodes q.1.here) q.1.here (sym q.2 ∙ there))) l
