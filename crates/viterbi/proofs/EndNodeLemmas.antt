-- The end nodes of a position, collected along its groups of nodes, and with one more node.
use Rattle.std.proofs.Common.{◌≡◌, ℕ, ◌+◌, ◌<◌, ◌≤◌, List, [], ◌∷◌, ◌++◌, Some, None, Option, length, get_or, suc, inl, inr, sym, ap, ◌∙◌, subst, arith, slice_get}
use Rattle.std.proofs.lemmas.Bool.{cases_lt}
use Rattle.std.proofs.lemmas.List.{take_all}
use Rattle.std.proofs.lemmas.Option.{same_Some, slice_get_within, slice_get-get_or}
use Rattle.mj_model.specs.declared.word.Word.{Word}
use Rattle.mj_model.specs.declared.paths.surface.Surface.{Surface}
use Rattle.viterbi.specs.declared.search.node.Backpointer.{Backpointer}
use Rattle.viterbi.specs.declared.search.node.EndNode.{EndNode}
use Rattle.viterbi.specs.declared.search.node.SurfaceNodes.{SurfaceNodes}
use Rattle.viterbi.specs.Search.Nodes.{AreSurfaceNodes, IsLatest, LinksAreLatest, Node, link_of, node_words, nodes_of}
use Rattle.viterbi.specs.Search.Lattice.{IsBelow}
use Rattle.viterbi.specs.Search.EndNodes.{AreEndNodes, IsEndNode, AreEndNodesOf, end_node}
use Rattle.viterbi.proofs.Pushed.{get_push_old, get_push_new, get_push_cases}
use Rattle.viterbi.proofs.SurfaceNodeLemmas.{next_group, node_group, nodes_length, start, starts_rise}

-- how many links lead from a group to the first one
abbrev pub link_size : Option ℕ → ℕ
link_size None = 0
link_size (Some i) = suc i

latest_below : (by_surface : List SurfaceNodes) (place before : ℕ) (link : Option ℕ) → IsLatest by_surface place before link → link_size link ≤ before
latest_below by_surface place before None h = omega arith
latest_below by_surface place before (Some i) h = let l = h.0 in omega (arith, l)

-- links lead back
pub next_smaller : (by_surface : List SurfaceNodes) (i : ℕ) (d : SurfaceNodes) → LinksAreLatest by_surface → i < length by_surface → link_size (link_of (get_or by_surface i d).next) < suc i
next_smaller by_surface i d links within =
    let n = get_or by_surface i d in
    let l = latest_below by_surface n.surface.end i (link_of n.next) (links i n (slice_get-get_or by_surface i d within)) in
    omega (arith, l)

-- a link leads to one of the groups
pub latest_is_there : (by_surface : List SurfaceNodes) (place before : ℕ) (link : Option ℕ) → IsLatest by_surface place before link → IsBelow link (length by_surface)
latest_is_there by_surface place before None h = tt
latest_is_there by_surface place before (Some i) h = slice_get_within by_surface i h.1.0 h.1.1

module _ (nodes : List Node) (place : ℕ) where
  none_yet : (ends : List EndNode) → ends ≡ [] → AreEndNodesOf nodes place (length nodes) ends
  none_yet ends e = subst (AreEndNodesOf nodes place (length nodes)) (sym e) (record {
    each = λ r e h. absurd (cc);
    all = λ k m after at ends. absurd (let w = slice_get_within nodes k m at in omega (arith, w));
    falling = λ a b x y less g h. absurd (cc);
  })

  -- from a lower number on, if no node between ends at the position
  appear_lower : (ends : List EndNode) (low from : ℕ) → low ≤ from → ((k : ℕ) (m : Node) → low ≤ k → k < from → slice_get nodes k ≡ Some m → m.word.end ≡ place → ⊥) → AreEndNodesOf nodes place from ends → AreEndNodesOf nodes place low ends
  appear_lower ends low from le none h = record {
    each = λ r e at. let o = h.each r e at in record { number = o.number; node = o.node; among = (let a = o.among in omega (arith, a, le)); here = o.here; ends = o.ends; is = o.is };
    all = λ k m above at there. elim (cases_lt k from) [ inl less ↦ absurd (none k m above less at there) | inr more ↦ h.all k m more at there ];
    falling = h.falling;
  }

  module _ (ends : List EndNode) (from i : ℕ) (n : Node) (low : i < from) (got : slice_get nodes i ≡ Some n) (here : n.word.end ≡ place) (between : (k : ℕ) (m : Node) → i < k → k < from → slice_get nodes k ≡ Some m → m.word.end ≡ place → ⊥) (h : AreEndNodesOf nodes place from ends) where
    new_each : (r : ℕ) (e : EndNode) → slice_get (ends ++ end_node i n ∷ []) r ≡ Some e → IsEndNode nodes place i e
    new_each r e at = elim (get_push_cases ends (end_node i n) r e at) [
      | inl old ↦
          let o = h.each r e old in
          record { number = o.number; node = o.node; among = (let a = o.among in omega (arith, a)); here = o.here; ends = o.ends; is = o.is }
      | inr new ↦ record { number = i; node = n; among = omega arith; here = got; ends = here; is = sym new.1 }
    ]

    new_all : (k : ℕ) (m : Node) → i ≤ k → slice_get nodes k ≡ Some m → m.word.end ≡ place → (r : ℕ) × (slice_get (ends ++ end_node i n ∷ []) r ≡ Some (end_node k m))
    new_all k m le at there = elim (cases_lt k from) [
      | inl less ↦ elim (cases_lt i k) [
        | inl more ↦ absurd (between k m more less at there)
        | inr lower ↦
            let same : i ≡ k = omega arith in
            let node : n ≡ m = same_Some n m (sym got ∙ ap (slice_get nodes) same ∙ at) in (
              length ends,
              subst (λ (x : Node). slice_get (ends ++ end_node i n ∷ []) (length ends) ≡ Some (end_node k x)) node
                  (subst (λ (q : ℕ). slice_get (ends ++ end_node i n ∷ []) (length ends) ≡ Some (end_node q n)) same (get_push_new ends (end_node i n))),
            )
      ]
      | inr more ↦ let o = h.all k m more at there in (o.0, get_push_old ends (end_node i n) o.0 (end_node k m) o.1)
    ]

    -- an end node from before has a greater number
    greater : (e : EndNode) → IsEndNode nodes place from e → suc i < e.before
    greater e o =
        let number = ap (λ (x : EndNode). x.before) o.is in
        let a = o.among in
        omega (arith, a, low, number)

    new_falling : (a b : ℕ) (x y : EndNode) → a < b → slice_get (ends ++ end_node i n ∷ []) a ≡ Some x → slice_get (ends ++ end_node i n ∷ []) b ≡ Some y → y.before < x.before
    new_falling a b x y less at_a at_b = elim (get_push_cases ends (end_node i n) b y at_b) [
      | inl old_b ↦ elim (get_push_cases ends (end_node i n) a x at_a) [
        | inl old_a ↦ h.falling a b x y less old_a old_b
        | inr new_a ↦ let w = slice_get_within ends b y old_b in let z = new_a.0 in absurd (omega (arith, w, z))
      ]
      | inr new_b ↦ elim (get_push_cases ends (end_node i n) a x at_a) [
        | inl old_a ↦
            let g = greater x (h.each a x old_a) in
            let number = ap (λ (e : EndNode). e.before) new_b.1 in
            omega (arith, g, number)
        | inr new_a ↦ let w = new_b.0 in let z = new_a.0 in absurd (omega (arith, w, z))
      ]
    ]

    appear_more : AreEndNodesOf nodes place i (ends ++ end_node i n ∷ [])
    appear_more = record { each = new_each; all = new_all; falling = new_falling }

  -- one more node, the one just before
  pub appear_next : (ends after : List EndNode) (i : ℕ) (n : Node) (e : EndNode) → slice_get nodes i ≡ Some n → n.word.end ≡ place → e ≡ end_node i n → after ≡ ends ++ e ∷ [] → AreEndNodesOf nodes place (i + 1) ends → AreEndNodesOf nodes place i after
  appear_next ends after i n e at here is pushed h =
      subst (AreEndNodesOf nodes place i) (sym (pushed ∙ ap (λ (x : EndNode). ends ++ x ∷ []) is))
      (appear_more ends (i + 1) i n (omega arith) at here (λ k m more less got there. omega (arith, more, less)) h)

  -- ---- with one more node, which ends elsewhere

  appear_past : (ends : List EndNode) (y : Node) → (y.word.end ≡ place → ⊥) → AreEndNodesOf nodes place 0 ends → AreEndNodesOf (nodes ++ y ∷ []) place 0 ends
  appear_past ends y other h = record {
    each = λ r e at. let o = h.each r e at in record { number = o.number; node = o.node; among = o.among; here = get_push_old nodes y o.number o.node o.here; ends = o.ends; is = o.is };
    all = λ k m le at there. elim (get_push_cases nodes y k m at) [
      | inl old ↦ h.all k m le old there
      | inr new ↦ absurd (other (ap (λ (n : Node). n.word.end) new.1 ∙ there))
    ];
    falling = h.falling;
  }

  pub ends_past : (ends : List EndNode) (y : Node) → place < y.word.end → AreEndNodes nodes place ends → AreEndNodes (nodes ++ y ∷ []) place ends
  ends_past ends y next_ones (inl bos) = inl bos
  ends_past ends y next_ones (inr (above, h)) = inr (above, appear_past ends y (λ e. omega (arith, e)) h)

-- ---- the walk along groups of nodes

-- the end nodes so far, which are those of the groups from a number on, and the group to which the
-- next link leads
pub record Gathered (f : Surface → List Word) (by_surface : List SurfaceNodes) (backpointers : List Backpointer) (place : ℕ) (ends : List EndNode) (link : Option ℕ) : Type 0 where
  pub from : ℕ
  pub latest : IsLatest by_surface place from link
  pub appear : AreEndNodesOf (nodes_of (node_words f by_surface) backpointers) place (start f by_surface from) ends

module _ (f : Surface → List Word) (by_surface : List SurfaceNodes) (are : AreSurfaceNodes f by_surface) (backpointers : List Backpointer) (all : length backpointers ≡ length (node_words f by_surface)) (place : ℕ) where
  abbrev nodes : List Node
  nodes = nodes_of (node_words f by_surface) backpointers

  abbrev Walk : List EndNode → Option ℕ → Type 0
  Walk ends link = Gathered f by_surface backpointers place ends link

  pub walk_starts : (ends : List EndNode) (head : Option ℕ) → ends ≡ [] → IsLatest by_surface place (length by_surface) head → Walk ends head
  walk_starts ends head e latest =
      let long = nodes_length (node_words f by_surface) backpointers (omega (arith, all)) in
      let last = ap (λ (rs : List SurfaceNodes). length (node_words f rs)) (take_all (length by_surface) by_surface (omega arith)) in
      let same : length nodes ≡ start f by_surface (length by_surface) = omega (arith, long, last, all) in
      record { from = length by_surface; latest = latest; appear = subst (λ (n : ℕ). AreEndNodesOf nodes place n ends) same (none_yet nodes place ends e) }

  -- no node between belongs to a group that ends at the position
  none_between : (low from : ℕ) → ((q : ℕ) (surface_nodes : SurfaceNodes) → low ≤ q → q < from → slice_get by_surface q ≡ Some surface_nodes → surface_nodes.surface.end ≡ place → ⊥)
      → (k : ℕ) (m : Node) → start f by_surface low ≤ k → k < start f by_surface from → slice_get nodes k ≡ Some m → m.word.end ≡ place → ⊥
  none_between low from none k m above below at there =
      let q = node_group f by_surface are backpointers all k m at in
      let h = q.1 in
      let first = are.from q.0 h.surface_nodes h.here in
      let next = next_group f by_surface are q.0 h.surface_nodes h.here in
      let lower = h.from in
      let upper = h.within in
      elim (cases_lt q.0 low) [
        | inl less ↦ let rise = starts_rise f by_surface (q.0 + 1) low (omega (arith, less)) in absurd (omega (arith, rise, next, upper, above))
        | inr more ↦ elim (cases_lt q.0 from) [
          | inl within ↦ none q.0 h.surface_nodes more within h.here (sym q.2 ∙ there)
          | inr after ↦ let rise = starts_rise f by_surface from q.0 after in absurd (omega (arith, rise, first, lower, below))
        ]
      ]

  -- the end nodes so far are those of the groups after the next one
  pub before_turn : (ends : List EndNode) (i : ℕ) (surface_nodes : SurfaceNodes) → slice_get by_surface i ≡ Some surface_nodes → Walk ends (Some i) → AreEndNodesOf nodes place (surface_nodes.from + surface_nodes.surface.count) ends
  before_turn ends i surface_nodes at w =
      let l = w.latest in
      let next = next_group f by_surface are i surface_nodes at in
      let rise = starts_rise f by_surface (i + 1) w.from (let less = l.0 in omega (arith, less)) in
      subst (λ (n : ℕ). AreEndNodesOf nodes place n ends) next
      (appear_lower nodes place ends (start f by_surface (i + 1)) (start f by_surface w.from) rise (none_between (i + 1) w.from (λ q r more less. l.2 q r (omega (arith, more)) less)) w.appear)

  -- and with its own it is passed
  pub after_turn : (ends after : List EndNode) (i : ℕ) (surface_nodes : SurfaceNodes) → LinksAreLatest by_surface → slice_get by_surface i ≡ Some surface_nodes → Walk ends (Some i) → AreEndNodesOf nodes place surface_nodes.from after → Walk after (link_of surface_nodes.next)
  after_turn ends after i surface_nodes links at w appear =
      let l = w.latest in
      let there : surface_nodes.surface.end ≡ place = ap (λ (r : SurfaceNodes). r.surface.end) (same_Some surface_nodes l.1.0 (sym at ∙ l.1.1)) ∙ l.1.2 in
      record {
        from = i;
        latest = subst (λ (p : ℕ). IsLatest by_surface p i (link_of surface_nodes.next)) there (links i surface_nodes at);
        appear = subst (λ (n : ℕ). AreEndNodesOf nodes place n after) (are.from i surface_nodes at) appear;
      }

  -- the next group ends at the position
  pub ends_here : (ends : List EndNode) (i : ℕ) (surface_nodes : SurfaceNodes) → slice_get by_surface i ≡ Some surface_nodes → Walk ends (Some i) → surface_nodes.surface.end ≡ place
  ends_here ends i surface_nodes at w = let l = w.latest in ap (λ (r : SurfaceNodes). r.surface.end) (same_Some surface_nodes l.1.0 (sym at ∙ l.1.1)) ∙ l.1.2

  pub below_there : (ends : List EndNode) (link : Option ℕ) → Walk ends link → IsBelow link (length by_surface)
  below_there ends link w = latest_is_there by_surface place w.from link w.latest

  pub group_there : (ends : List EndNode) (link : Option ℕ) (i : ℕ) → link ≡ Some i → Walk ends link → i < length by_surface
  group_there ends link i is w = subst (λ (o : Option ℕ). IsBelow o (length by_surface)) is (below_there ends link w)

  pub gathered_at : (ends : List EndNode) (link other : Option ℕ) → link ≡ other → Walk ends link → Walk ends other
  gathered_at ends link other is w = subst (λ (o : Option ℕ). Walk ends o) is w

  pub walk_ends : (ends : List EndNode) (link : Option ℕ) → link ≡ None → Walk ends link → AreEndNodesOf nodes place 0 ends
  walk_ends ends link is w =
      let none = subst (λ (o : Option ℕ). IsLatest by_surface place w.from o) is w.latest in
      appear_lower nodes place ends 0 (start f by_surface w.from) (omega arith) (none_between 0 w.from (λ q r more less. none q r less)) w.appear
