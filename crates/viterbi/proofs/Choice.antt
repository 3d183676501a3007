-- The choice of the best predecessor among the nodes that end at a position.
--
-- Each node represents the best chain that ends in its word, since what follows two chains that end
-- in one word keeps their order. Two chains whose last words differ are ordered by cost, and at
-- equal cost by those words. So the best chain to a position, before a word of some left id, ends
-- in the node that is least by its forward cost plus the connection cost to that left id. Equal
-- costs are decided by the later position, then by the earlier index among the words of that
-- position. That is the later of the nodes, since the words of a position are added last to first.
-- A word adds at most 2 ^ 16 to the cost of a chain for each of its bytes, so no sum overflows.
use Rattle.std.proofs.Common.{◌≡◌, ℕ, zero, suc, ◌+◌, ◌*◌, ◌<◌, ◌≤◌, List, [], ◌∷◌, ◌^◌, All, length, get_or, Some, true, ◌⊎◌, inl, inr, refl, sym, ap, ◌∙◌, subst, arith, slice_get}
use Rattle.std.specs.Prelude.{ℤ, ◌+ℤ◌, ◌<ℤ◌}
use Rattle.std.proofs.lemmas.Int.{ints}
use Rattle.std.proofs.lemmas.Bool.{cases_lt, eqb-true}
use Rattle.std.proofs.lemmas.Option.{same_Some, slice_get_within, slice_get-get_or}
use Rattle.mj_model.specs.declared.word.Word.{Word}
use Rattle.viterbi.specs.declared.search.node.EndNode.{EndNode}
use Rattle.viterbi.specs.declared.search.node.Predecessor.{Predecessor}
use Rattle.mj_model.specs.Order.{IsPreferred}
use Rattle.mj_model.specs.Bounds.{IsWithin}
use Rattle.mj_model.specs.Best.{IsSource}
use Rattle.mj_model.specs.ReversedChains.{IsChainTo, last_right, cost_to, cost_with_next, AtLeastAsGood, IsBestTo}
use Rattle.viterbi.specs.Search.EndNodes.{AreEndNodes, HasSmallTotal, IsFollowedBy, IsLeast, AreEndNodesOf, bos_end_node, end_cost, end_node}
use Rattle.mj_model.specs.declared.paths.surface.Surface.{Surface}
use Rattle.viterbi.specs.declared.search.node.Backpointer.{Backpointer}
use Rattle.viterbi.specs.declared.search.node.SurfaceNodes.{SurfaceNodes}
use Rattle.viterbi.specs.Search.Nodes.{AreSurfaceNodes, IsLatest, Node, link_of, node_words, nodes_of, reached}
use Rattle.viterbi.specs.Search.Lattice.{IsProcessed, IsLattice, IsPredecessor, NoChain, IsBacktrace}
use Rattle.mj_model.specs.Searchable.{MayFollow}
use Rattle.mj_model.proofs.ReversedChainLemmas.{best_empty, best_among}
use Rattle.viterbi.proofs.SurfaceNodeLemmas.{group_node}

-- BOS alone
only_bos : (r : ℕ) (e : EndNode) → slice_get (bos_end_node ∷ []) r ≡ Some e → bos_end_node ≡ e
only_bos zero e at = same_Some bos_end_node e at
only_bos (suc r) e at = absurd (cc)

module _ (words : ℕ → List Word) (conn : ℕ → ℕ → ℤ) (len : ℕ) (source : IsSource words conn len) where
  -- a chain to a position costs at most 2 ^ 16 a byte
  pub small_cost : (ws : List Word) (to : ℕ) → IsChainTo words ws to → IsWithin (2 ^ 16 * to) (cost_to conn ws)
  small_cost [] to h = (omega (arith, ints), omega (arith, ints))
  small_cost (w ∷ ws) to h =
      let before = small_cost ws w.place h.2 in
      let c = source.connections (last_right ws) w.left in
      let own = source.costs w.place w h.1 in
      let on = source.are.go_on w.place w h.1 in
      (omega (arith, ints, before.0, c.0, own.0, on, h.0), omega (arith, ints, before.1, c.1, own.1, on, h.0))

  -- also with the connection to what follows
  pub small_joined : (ws : List Word) (to left : ℕ) → IsChainTo words ws to → IsWithin (2 ^ 16 * to + 2 ^ 15) (cost_with_next conn ws left)
  small_joined ws to left h =
      let before = small_cost ws to h in
      let c = source.connections (last_right ws) left in
      (omega (arith, ints, before.0, c.0), omega (arith, ints, before.1, c.1))

  -- no forward cost is near overflow
  small_total : (nodes : List Node) (p k i : ℕ) (n : Node) → len ≤ 2 ^ 20 → IsLattice words conn nodes p k → slice_get nodes i ≡ Some n → IsWithin (2 ^ 40) n.total
  small_total nodes p k i n short l at =
      let b = l.best i n at in
      let s = small_cost (n.word ∷ b.chain) n.word.end (refl, b.is_word, b.best.chain) in
      let end = source.are.within n.word.place n.word b.is_word in
      let e = b.total_is in
      (omega (arith, ints, s.0, end, e, short), omega (arith, ints, s.1, end, e, short))

  small_end : (nodes : List Node) (p k place : ℕ) (ends : List EndNode) (r : ℕ) (e : EndNode) → len ≤ 2 ^ 20 → IsLattice words conn nodes p k → AreEndNodes nodes place ends → slice_get ends r ≡ Some e → HasSmallTotal e
  small_end nodes p k place ends r e short l (inl bos) at =
      let g : slice_get (bos_end_node ∷ []) r ≡ Some e = subst (λ (xs : List EndNode). slice_get xs r ≡ Some e) bos.1 at in
      subst HasSmallTotal (only_bos r e g) (omega (arith, ints), omega (arith, ints))
  small_end nodes p k place ends r e short l (inr (above, h)) at =
      let o = h.each r e at in
      subst HasSmallTotal (sym o.is) (small_total nodes p k o.number o.node short l o.here)

  pub small_forward_costs : (nodes : List Node) (p k place : ℕ) (ends : List EndNode) → len ≤ 2 ^ 20 → IsLattice words conn nodes p k → AreEndNodes nodes place ends → All HasSmallTotal ends
  small_forward_costs nodes p k place ends short l are i d within = small_end nodes p k place ends i (get_or ends i d) short l are (slice_get-get_or ends i d within)

  -- the cost of a chain to a predecessor is small
  pub small_predecessor : (nodes : List Node) (p left : ℕ) (j : Predecessor) → len ≤ 2 ^ 20 → p < len → IsPredecessor words conn nodes p left j → IsWithin (2 ^ 40) j.cost
  small_predecessor nodes p left j short at predecessor =
      let s = small_joined predecessor.chain p left predecessor.best.chain in
      let e = predecessor.cost_is in
      (omega (arith, ints, s.0, e, at, short), omega (arith, ints, s.1, e, at, short))

  -- ---- the best chain to a position

  abbrev pub Lattice : List Node → ℕ → ℕ → Type 0
  Lattice nodes p k = IsLattice words conn nodes p k

  -- of two nodes the later one is preferred
  appears_first : (nodes : List Node) (p k i j : ℕ) (m n : Node) → Lattice nodes p k → slice_get nodes i ≡ Some m → slice_get nodes j ≡ Some n → j ≤ i
      → (m.word ≡ n.word) ⊎ IsPreferred words m.word n.word
  appears_first nodes p k i j m n l at_i at_j le =
      elim (cases_lt j i) [
        | inl less ↦ inr (l.order j i n m less at_j at_i)
        | inr more ↦
            let e : i ≡ j = omega arith in
            inl (ap (λ (x : Node). x.word) (same_Some m n (sym at_i ∙ ap (slice_get nodes) e ∙ at_j)))
      ]

  -- of two end nodes the one of the lower rank is the later node
  ranks_fall : (nodes : List Node) (at i j a b : ℕ) (x y : EndNode) (m n : Node) (ends : List EndNode) → AreEndNodesOf nodes at 0 ends → slice_get ends a ≡ Some x → slice_get ends b ≡ Some y → x ≡ end_node i m → y ≡ end_node j n → a ≤ b → j ≤ i
  ranks_fall nodes at i j a b x y m n ends h at_a at_b is_x is_y le =
      elim (cases_lt a b) [
        | inl less ↦ let f = h.falling a b x y less at_a at_b in let of_x = ap (λ (e : EndNode). e.before) is_x in let of_y = ap (λ (e : EndNode). e.before) is_y in omega (arith, f, of_x, of_y)
        | inr more ↦
            let e : a ≡ b = omega arith in
            let same : x ≡ y = same_Some x y (sym at_a ∙ ap (slice_get ends) e ∙ at_b) in
            let numbers = ap (λ (e : EndNode). e.before) (sym is_x ∙ same ∙ is_y) in
            omega (arith, numbers)
      ]

  -- the order of end nodes is that of their words
  holds_against : (nodes : List Node) (p k i j : ℕ) (m n : Node) (a b : ℤ) → Lattice nodes p k → slice_get nodes i ≡ Some m → slice_get nodes j ≡ Some n
      → (a <ℤ b) ⊎ ((a ≡ b) × (j ≤ i)) → AtLeastAsGood words a m.word b n.word
  holds_against nodes p k i j m n a b l at_i at_j (inl less) = inl less
  holds_against nodes p k i j m n a b l at_i at_j (inr (same, le)) = inr (same, appears_first nodes p k i j m n l at_i at_j le)

  -- the other side of the comparison, at a word
  abbrev pub Other : ℕ → Word → List Word → Word → Type 0
  Other left v vs w = (us : List Word) × IsBestTo words conn us w.place w.left × AtLeastAsGood words (cost_with_next conn (v ∷ vs) left) v (cost_with_next conn (w ∷ us) left) w

  -- the least end node ends the best chain
  end_is_predecessor : (nodes : List Node) (p k at left : ℕ) (ends : List EndNode) (j : Predecessor) → Lattice nodes p k → at ≤ p → AreEndNodesOf nodes at 0 ends → IsLeast conn ends left j → IsPredecessor words conn nodes at left j
  end_is_predecessor nodes p k at left ends j l upto h best_predecessor =
      let o = h.each best_predecessor.rank best_predecessor.end best_predecessor.here in
      let n = o.node in
      let b = l.best o.number n o.here in
      let total : best_predecessor.end.total ≡ n.total = ap (λ (e : EndNode). e.total) o.is in
      let right : best_predecessor.end.right ≡ n.word.right = ap (λ (e : EndNode). e.right) o.is in
      let before : j.before ≡ suc o.number = best_predecessor.before_is ∙ ap (λ (e : EndNode). e.before) o.is in
      let cost : j.cost ≡ cost_with_next conn (n.word ∷ b.chain) left = best_predecessor.cost_is ∙ ap (end_cost conn left) o.is ∙ ap (λ (z : ℤ). z +ℤ conn n.word.right left) b.total_is in
      let on = source.are.go_on n.word.place n.word b.is_word in
      let there = o.ends in
      let above : 0 < at = omega (arith, on, there) in
      let others : (w : Word) (ds : List Word) → IsChainTo words (w ∷ ds) at → Other left n.word b.chain w = λ w ds c.
      let go : w.place < w.end = source.are.go_on w.place w c.1 in
      let done : IsProcessed words p k w = inl (omega (arith, go, c.0)) in
      let found = l.complete w ds (refl, c.1, c.2) done in
      let m = found.1 in
      let x = l.best found.0 m found.2 in
      let lies = h.all found.0 m (omega arith) found.2 (ap (λ (u : Word). u.end) found.3 ∙ c.0) in
      let ranked : (j.cost <ℤ end_cost conn left (end_node found.0 m)) ⊎ ((j.cost ≡ end_cost conn left (end_node found.0 m)) × (found.0 ≤ o.number)) = elim (best_predecessor.holds lies.0 (end_node found.0 m) lies.1) [
        | inl less ↦ inl less
        | inr same ↦ inr (same.0, ranks_fall nodes at o.number found.0 best_predecessor.rank lies.0 best_predecessor.end (end_node found.0 m) n m ends h best_predecessor.here lies.1 o.is refl same.1)
      ] in
      let held = holds_against nodes p k o.number found.0 n m j.cost (end_cost conn left (end_node found.0 m)) l o.here found.2 ranked in
      subst (Other left n.word b.chain) found.3 (
        x.chain,
        x.best,
        subst (λ (z : ℤ). AtLeastAsGood words z n.word (cost_with_next conn (m.word ∷ x.chain) left) m.word) cost
            (subst (λ (z : ℤ). AtLeastAsGood words j.cost n.word z m.word) (ap (λ (z : ℤ). z +ℤ conn m.word.right left) x.total_is) held),
      )
      in
      record {
        chain = n.word ∷ b.chain;
        traced = subst (λ (number : ℕ). IsBacktrace nodes (link_of number) (n.word ∷ b.chain)) (sym before) (n, o.here, refl, b.traced);
        best = best_among words conn len source.are n.word b.chain at left above (there, b.is_word, b.best.chain) b.best others;
        cost_is = cost;
      }

  -- the empty chain is the best to the start of the text
  bos_is_predecessor : (nodes : List Node) (left : ℕ) (j : Predecessor) → j.before ≡ 0 → j.cost ≡ conn 0 left → IsPredecessor words conn nodes 0 left j
  bos_is_predecessor nodes left j before cost = record {
    chain = [];
    traced = subst (λ (number : ℕ). IsBacktrace nodes (link_of number) []) (sym before) tt;
    best = best_empty words conn len source.are left;
    cost_is = omega (arith, ints, cost);
  }

  -- the least end node of a position ends the best chain there
  pub least_is_predecessor : (nodes : List Node) (p k at left : ℕ) (ends : List EndNode) (j : Predecessor) → Lattice nodes p k → at ≤ p → AreEndNodes nodes at ends → IsLeast conn ends left j → IsPredecessor words conn nodes at left j
  least_is_predecessor nodes p k at left ends j l upto (inl bos) best_predecessor =
      let g : slice_get (bos_end_node ∷ []) best_predecessor.rank ≡ Some best_predecessor.end = subst (λ (xs : List EndNode). slice_get xs best_predecessor.rank ≡ Some best_predecessor.end) bos.1 best_predecessor.here in
      let is = only_bos best_predecessor.rank best_predecessor.end g in
      let cost : j.cost ≡ end_cost conn left bos_end_node = best_predecessor.cost_is ∙ ap (end_cost conn left) (sym is) in
      subst (λ (q : ℕ). IsPredecessor words conn nodes q left j) (sym bos.0)
      (bos_is_predecessor nodes left j (best_predecessor.before_is ∙ ap (λ (e : EndNode). e.before) (sym is)) (omega (arith, ints, cost)))
  least_is_predecessor nodes p k at left ends j l upto (inr (above, h)) best_predecessor = end_is_predecessor nodes p k at left ends j l upto h best_predecessor

  -- if no node ends there, no chain does
  pub none_leads : (nodes : List Node) (p k at : ℕ) → Lattice nodes p k → at ≤ p → 0 < at → ((i : ℕ) (m : Node) → slice_get nodes i ≡ Some m → m.word.end ≡ at → ⊥) → NoChain words at
  none_leads nodes p k at l upto above none [] c = omega arith
  none_leads nodes p k at l upto above none (w ∷ ws) c =
      let go : w.place < w.end = source.are.go_on w.place w c.1 in
      let done : IsProcessed words p k w = inl (omega (arith, go, c.0)) in
      let found = l.complete w ws (refl, c.1, c.2) done in
      none found.0 found.1 found.2 (ap (λ (u : Word). u.end) found.3 ∙ c.0)

  -- a word of a left id that may follow BOS and each word may follow each end node
  followed : (is_pair : ℕ → ℕ → Type 0) (nodes : List Node) (p k place left : ℕ) (ends : List EndNode) (r : ℕ) (e : EndNode) → MayFollow is_pair words left → Lattice nodes p k → AreEndNodes nodes place ends → slice_get ends r ≡ Some e → IsFollowedBy is_pair left e
  followed is_pair nodes p k place left ends r e follow l (inl bos) at =
      let g : slice_get (bos_end_node ∷ []) r ≡ Some e = subst (λ (xs : List EndNode). slice_get xs r ≡ Some e) bos.1 at in
      subst (IsFollowedBy is_pair left) (only_bos r e g) follow.after_bos
  followed is_pair nodes p k place left ends r e follow l (inr (above, h)) at =
      let o = h.each r e at in
      let b = l.best o.number o.node o.here in
      subst (IsFollowedBy is_pair left) (sym o.is) (follow.after_word o.node.word.place o.node.word b.is_word)

  pub all_followed : (is_pair : ℕ → ℕ → Type 0) (nodes : List Node) (p k place left : ℕ) (ends : List EndNode) → MayFollow is_pair words left → Lattice nodes p k → AreEndNodes nodes place ends → All (IsFollowedBy is_pair left) ends
  all_followed is_pair nodes p k place left ends follow l are i d within = followed is_pair nodes p k place left ends i (get_or ends i d) follow l are (slice_get-get_or ends i d within)

-- if a node ends there, there are end nodes
pub some_end : (nodes : List Node) (place k : ℕ) (m : Node) (ends : List EndNode) → slice_get nodes k ≡ Some m → m.word.end ≡ place → AreEndNodes nodes place ends → 0 < length ends
some_end nodes place k m ends at there (inl bos) = let e = ap length bos.1 in omega (arith, e)
some_end nodes place k m ends at there (inr (above, h)) =
    let f = h.all k m (omega arith) at there in
    let w = slice_get_within ends f.0 (end_node k m) f.1 in
    omega (arith, w)

-- and at the start of the text
pub some_bos : (nodes : List Node) (ends : List EndNode) (place : ℕ) → place ≡ 0 → AreEndNodes nodes place ends → 0 < length ends
some_bos nodes ends place start (inl bos) = let e = ap length bos.1 in omega (arith, e)
some_bos nodes ends place start (inr (above, h)) = absurd (omega (arith, start, above))

-- so there are end nodes at a position that some chain reaches
pub some_reached : (f : Surface → List Word) (by_surface : List SurfaceNodes) (backpointers : List Backpointer) (place bound head : ℕ) (ends : List EndNode) → AreSurfaceNodes f by_surface → length backpointers ≡ length (node_words f by_surface)
    → reached place head ≡ true → IsLatest by_surface place bound (link_of head) → AreEndNodes (nodes_of (node_words f by_surface) backpointers) place ends → 0 < length ends
some_reached f by_surface backpointers place bound zero ends groups_are all it_is latest are = some_bos (nodes_of (node_words f by_surface) backpointers) ends place (eqb-true place 0 it_is) are
some_reached f by_surface backpointers place bound (suc i) ends groups_are all it_is latest are =
    let node = group_node f by_surface groups_are backpointers all i latest.1.0 latest.1.1 in
    some_end (nodes_of (node_words f by_surface) backpointers) place latest.1.0.from node.0 ends node.1 (node.2 ∙ latest.1.2) are
