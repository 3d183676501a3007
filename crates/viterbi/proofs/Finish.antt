-- The lattice of the whole text: the best chain to the greatest position where a node ends is the
-- best path.
use Rattle.std.proofs.Common.{◌≡◌, ℕ, suc, ◌+◌, ◌<◌, ◌≤◌, List, [], ◌∷◌, length, reverse, Some, get_or, inl, inr, refl, sym, ap, ◌∙◌, subst, arith, slice_get}
use Rattle.std.specs.Prelude.{ℤ}
use Rattle.std.proofs.lemmas.Bool.{cases_lt}
use Rattle.std.proofs.lemmas.Option.{slice_get_within, slice_get-get_or}
use Rattle.mj_model.specs.declared.word.Word.{Word}
use Rattle.viterbi.specs.declared.search.node.EndNode.{EndNode}
use Rattle.viterbi.specs.declared.search.node.Predecessor.{Predecessor}
use Rattle.viterbi.specs.Search.EndNodes.{AreEndNodes}
use Rattle.mj_model.specs.declared.paths.surface.Surface.{Surface}
use Rattle.viterbi.specs.declared.search.node.Backpointer.{Backpointer}
use Rattle.viterbi.specs.declared.search.node.SurfaceNodes.{SurfaceNodes}
use Rattle.viterbi.specs.Search.Nodes.{AreLinked, AreSurfaceNodes, IsLastHead, IsLatest, Node, link_of, node_words, nodes_of}
use Rattle.mj_model.specs.Best.{IsSource, IsBestPath}
use Rattle.mj_model.specs.Cost.{path_cost}
use Rattle.mj_model.specs.ReversedChains.{IsChainTo, cost_with_next}
use Rattle.viterbi.specs.Search.Lattice.{IsBacktrace, IsLattice, IsPredecessor, IsLastEnd}
use Rattle.std.proofs.lemmas.List.{reverse-reverse}
use Rattle.mj_model.proofs.ReversedChainLemmas.{best_path_from, cost_reversed}
use Rattle.viterbi.proofs.Choice.{some_bos, some_end}
use Rattle.viterbi.proofs.Links.{traced_same}
use Rattle.viterbi.proofs.SurfaceNodeLemmas.{node_group, group_node}

module _ (words : ℕ → List Word) (conn : ℕ → ℕ → ℤ) (len : ℕ) (source : IsSource words conn len) where
  abbrev pub Lattice : List Node → ℕ → ℕ → Type 0
  Lattice nodes p k = IsLattice words conn nodes p k

  -- at the end of the text each word that a chain reaches has a node
  pub all_there : (nodes : List Node) (k : ℕ) → Lattice nodes len k → (w : Word) (ws : List Word) (to : ℕ) → IsChainTo words (w ∷ ws) to → (i : ℕ) × (n : Node) × (slice_get nodes i ≡ Some n) × (n.word ≡ w)
  all_there nodes k l w ws to c =
      let go = source.are.go_on w.place w c.1 in
      let end = source.are.within w.place w c.1 in
      l.complete w ws (refl, c.1, c.2) (inl (omega (arith, go, end)))

  -- the last node ends at the last position that has a head
  pub last_is : (f : Surface → List Word) (by_surface : List SurfaceNodes) (backpointers : List Backpointer) (heads : List ℕ) (k last : ℕ) → IsLattice words conn (nodes_of (node_words f by_surface) backpointers) len k → AreSurfaceNodes f by_surface → length backpointers ≡ length (node_words f by_surface)
      → AreLinked by_surface heads → length heads ≡ len + 1 → IsLastHead heads last → IsLastEnd (nodes_of (node_words f by_surface) backpointers) last
  last_is f by_surface backpointers heads k last l are all linked long is = record {
    each = λ i m at. elim (cases_lt last m.word.end) [
      | inl less ↦
          let b = l.best i m at in
          let low = source.are.within m.word.place m.word b.is_word in
          let within : m.word.end < length heads = omega (arith, low, long) in
          let here = slice_get-get_or heads m.word.end 0 within in
          let none = is.none_later m.word.end (get_or heads m.word.end 0) (omega arith) here in
          let q = node_group f by_surface are backpointers all i m at in
          absurd (subst (λ (h : ℕ). IsLatest by_surface m.word.end (length by_surface) (link_of h)) none (linked.heads_latest m.word.end (get_or heads m.word.end 0) here) q.0 q.1.surface_nodes (slice_get_within by_surface q.0 q.1.surface_nodes q.1.here) q.1.here (sym q.2))
      | inr more ↦ more
    ];
    reached = elim is.reached [
      | inl start ↦ inl start
      | inr at ↦
          let latest = linked.heads_latest last (suc at.0) at.1 in
          let node = group_node f by_surface are backpointers all at.0 latest.1.0 latest.1.1 in
          inr (latest.1.0.from, node.0, node.1, node.2 ∙ latest.1.2)
    ];
  }

  -- the last end lies in the text
  pub last_low : (nodes : List Node) (k last : ℕ) → IsLattice words conn nodes len k → IsLastEnd nodes last → last ≤ len
  last_low nodes k last l is_last = elim is_last.reached [
    | inl zero_at ↦ omega (arith, zero_at)
    | inr at ↦ let b = l.best at.0 at.1 at.2 in let w = source.are.within at.1.word.place at.1.word b.is_word in let e = at.3 in omega (arith, w, e)
  ]

  module _ (nodes : List Node) (k last : ℕ) (l : IsLattice words conn nodes len k) (is_last : IsLastEnd nodes last) where
    -- a chain ends at the last end
    pub leads_there : (ends : List EndNode) → AreEndNodes nodes last ends → 0 < length ends
    leads_there ends are = elim is_last.reached [
      | inl zero_at ↦ some_bos nodes ends last zero_at are
      | inr at ↦ some_end nodes last at.0 at.1 ends at.2 at.3 are
    ]

    -- no chain ends later
    pub greatest : (ws : List Word) (later : ℕ) → IsChainTo words ws later → later ≤ last
    greatest [] later c = omega (arith, c)
    greatest (w ∷ ws) later c =
        let f = all_there nodes k l w ws later c in
        let b = is_last.each f.0 f.1 f.2 in
        let e : f.1.word.end ≡ w.end = ap (λ (u : Word). u.end) f.3 in
        omega (arith, b, e, c.0)

    -- the words from the node before EOS, turned round, are the best path
    pub path_is_best : (j : Predecessor) (ws vs : List Word) → IsPredecessor words conn nodes last 0 j → IsBacktrace nodes (link_of j.before) ws → vs ≡ reverse ws → IsBestPath words conn vs
    path_is_best j ws vs predecessor t is =
        let same : predecessor.chain ≡ ws = traced_same nodes (link_of j.before) predecessor.chain ws predecessor.traced t in
        subst (IsBestPath words conn) (ap reverse same ∙ sym is) (best_path_from words conn len source.are predecessor.chain last predecessor.best greatest)

    -- and its cost is that of the predecessor of EOS
    pub path_costs : (j : Predecessor) (ws vs : List Word) → IsPredecessor words conn nodes last 0 j → IsBacktrace nodes (link_of j.before) ws → vs ≡ reverse ws → j.cost ≡ path_cost conn vs
    path_costs j ws vs predecessor t is =
        let same : predecessor.chain ≡ ws = traced_same nodes (link_of j.before) predecessor.chain ws predecessor.traced t in
        predecessor.cost_is ∙ ap (λ (us : List Word). cost_with_next conn us 0) (same ∙ sym (reverse-reverse ws) ∙ ap reverse (sym is)) ∙ sym (cost_reversed words conn len source.are vs)
