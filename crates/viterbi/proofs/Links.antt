-- The links of nodes: the words that a backtrace visits, and the latest group that ends at a
-- position, also with one more node or group.
use Rattle.std.proofs.Common.{◌≡◌, ℕ, suc, ◌<◌, ◌≤◌, List, [], ◌∷◌, ◌++◌, set, length, Some, None, Option, inl, inr, refl, sym, ap, ◌∙◌, subst, arith, slice_get}
use Rattle.std.proofs.lemmas.Bool.{cases_eq}
use Rattle.std.proofs.lemmas.Option.{same_Some, slice_get_within, slice_get-get_or}
use Rattle.mj_model.specs.declared.word.Word.{Word}
use Rattle.viterbi.specs.declared.search.node.SurfaceNodes.{SurfaceNodes}
use Rattle.viterbi.specs.Search.Nodes.{IsLatest, AreLinked, Node, link_of}
use Rattle.viterbi.specs.Search.Lattice.{IsBacktrace, IsBelow}
use Rattle.std.proofs.lemmas.List.{length_push, length-set, get_or-set_same, get_or-set_other}
use Rattle.viterbi.proofs.EndNodeLemmas.{link_size}
use Rattle.viterbi.proofs.Pushed.{get_push_old, get_push_new, get_push_cases}

-- a new node doesn't change the backtrace of older ones
pub traces_push : (nodes : List Node) (y : Node) (link : Option ℕ) (ws : List Word) → IsBacktrace nodes link ws → IsBacktrace (nodes ++ y ∷ []) link ws
traces_push nodes y None [] t = tt
traces_push nodes y None (w ∷ ws) t = t
traces_push nodes y (Some i) [] t = t
traces_push nodes y (Some i) (w ∷ ws) t = (t.0, get_push_old nodes y i t.0 t.1, t.2, traces_push nodes y t.0.before ws t.3)

-- a link leads to one of the nodes
pub below_all : (nodes : List Node) (link : Option ℕ) (ws : List Word) → IsBacktrace nodes link ws → IsBelow link (length nodes)
below_all nodes None ws t = tt
below_all nodes (Some i) [] t = absurd t
below_all nodes (Some i) (w ∷ ws) t = slice_get_within nodes i t.0 t.1

-- a link that goes below i has a shorter backtrace
pub size_below : (link : Option ℕ) (i : ℕ) → IsBelow link i → link_size link < suc i
size_below None i b = omega arith
size_below (Some j) i b = omega (arith, b)

pub below_up : (link : Option ℕ) (i n : ℕ) → IsBelow link i → i < n → IsBelow link n
below_up None i n b less = tt
below_up (Some j) i n b less = omega (arith, b)

-- the words of the backtrace from a link are these alone
pub traced_same : (nodes : List Node) (link : Option ℕ) (vs ws : List Word) → IsBacktrace nodes link vs → IsBacktrace nodes link ws → vs ≡ ws
traced_same nodes None [] [] s t = refl
traced_same nodes None [] (w ∷ ws) s t = absurd t
traced_same nodes None (v ∷ vs) ws s t = absurd s
traced_same nodes (Some i) [] ws s t = absurd s
traced_same nodes (Some i) (v ∷ vs) [] s t = absurd t
traced_same nodes (Some i) (v ∷ vs) (w ∷ ws) s t =
    let same : s.0 ≡ t.0 = same_Some s.0 t.0 (sym s.1 ∙ t.1) in
    let rest : IsBacktrace nodes t.0.before vs = subst (λ (x : Node). IsBacktrace nodes x.before vs) same s.3 in
    let heads : v ≡ w = sym s.2 ∙ ap (λ (x : Node). x.word) same ∙ t.2 in
    let tails : vs ≡ ws = traced_same nodes t.0.before vs ws rest t.3 in
    cc

-- ---- the latest group that ends at a position, with one more group

-- a link that leads to the latest group below a bound still does
latest_push : (by_surface : List SurfaceNodes) (y : SurfaceNodes) (place before : ℕ) (link : Option ℕ) → before ≤ length by_surface → IsLatest by_surface place before link → IsLatest (by_surface ++ y ∷ []) place before link
latest_push by_surface y place before None le h = λ k m less at. elim (get_push_cases by_surface y k m at) [
  | inl old ↦ h k m less old
  | inr new ↦ let e = new.0 in absurd (omega (arith, e))
]
latest_push by_surface y place before (Some i) le h = (
  h.0,
  (h.1.0, get_push_old by_surface y i h.1.0 h.1.1, h.1.2),
  λ k m more less at. elim (get_push_cases by_surface y k m at) [
    | inl old ↦ h.2 k m more less old
    | inr new ↦ let e = new.0 in absurd (omega (arith, e))
  ],
)

-- a position that is not the end of the new group
latest_past : (by_surface : List SurfaceNodes) (y : SurfaceNodes) (place : ℕ) (link : Option ℕ) → (y.surface.end ≡ place → ⊥) → IsLatest by_surface place (length by_surface) link → IsLatest (by_surface ++ y ∷ []) place (length (by_surface ++ y ∷ [])) link
latest_past by_surface y place None other h = λ k m less at. elim (get_push_cases by_surface y k m at) [
  | inl old ↦ h k m (slice_get_within by_surface k m old) old
  | inr new ↦ λ e. absurd (other (ap (λ (n : SurfaceNodes). n.surface.end) new.1 ∙ e))
]
latest_past by_surface y place (Some i) other h =
    let more = length_push by_surface y in
    let low = h.0 in (
      omega (arith, more, low),
      (h.1.0, get_push_old by_surface y i h.1.0 h.1.1, h.1.2),
      λ k m above less at. elim (get_push_cases by_surface y k m at) [
        | inl old ↦ h.2 k m above (slice_get_within by_surface k m old) old
        | inr new ↦ λ e. absurd (other (ap (λ (n : SurfaceNodes). n.surface.end) new.1 ∙ e))
      ],
    )

-- the position that is its end
latest_new : (by_surface : List SurfaceNodes) (y : SurfaceNodes) → IsLatest (by_surface ++ y ∷ []) y.surface.end (length (by_surface ++ y ∷ [])) (Some (length by_surface))
latest_new by_surface y =
    let more = length_push by_surface y in
    (omega (arith, more), (y, get_push_new by_surface y, refl), λ k m above less at. absurd (omega (arith, more)))

-- the head of the position where the new group ends
heads_of : (heads : List ℕ) (e i h : ℕ) → slice_get (set heads e i) e ≡ Some h → e < length heads → h ≡ i
heads_of heads e i h at within = same_Some h i (sym at ∙ slice_get-get_or (set heads e i) e 0 (omega (arith, length-set heads e i)) ∙ ap Some (get_or-set_same heads e i 0 within))

-- the heads of the other positions stay
other_head : (heads : List ℕ) (e i place h : ℕ) → (place ≡ e → ⊥) → slice_get (set heads e i) place ≡ Some h → slice_get heads place ≡ Some h
other_head heads e i place h other at =
    let within : place < length heads = let w = slice_get_within (set heads e i) place h at in omega (arith, w, length-set heads e i) in
    slice_get-get_or heads place 0 within ∙ ap Some (sym (get_or-set_other heads e place i 0 other)) ∙ sym (slice_get-get_or (set heads e i) place 0 (omega (arith, within, length-set heads e i))) ∙ at

-- a group is added, with the head of its end position as its link, and becomes the head
pub links_on : (by_surface : List SurfaceNodes) (heads : List ℕ) (y : SurfaceNodes) → AreLinked by_surface heads → slice_get heads y.surface.end ≡ Some y.next → AreLinked (by_surface ++ y ∷ []) (set heads y.surface.end (suc (length by_surface)))
links_on by_surface heads y l at = record {
  links = λ i n here. elim (get_push_cases by_surface y i n here) [
    | inl old ↦ latest_push by_surface y n.surface.end i (link_of n.next) (let w = slice_get_within by_surface i n old in omega (arith, w)) (l.links i n old)
    | inr new ↦
        subst (λ (x : SurfaceNodes). IsLatest (by_surface ++ y ∷ []) x.surface.end i (link_of x.next)) new.1
        (subst (λ (k : ℕ). IsLatest (by_surface ++ y ∷ []) y.surface.end k (link_of y.next)) (sym new.0)
        (latest_push by_surface y y.surface.end (length by_surface) (link_of y.next) (omega arith) (l.heads_latest y.surface.end y.next at)))
  ];
  heads_latest = λ place h here. elim (cases_eq place y.surface.end) [
    | inl same ↦
        let e = heads_of heads y.surface.end (suc (length by_surface)) h (subst (λ (p : ℕ). slice_get (set heads y.surface.end (suc (length by_surface))) p ≡ Some h) same here) (slice_get_within heads y.surface.end y.next at) in
        subst (λ (o : ℕ). IsLatest (by_surface ++ y ∷ []) place (length (by_surface ++ y ∷ [])) (link_of o)) (sym e)
        (subst (λ (p : ℕ). IsLatest (by_surface ++ y ∷ []) p (length (by_surface ++ y ∷ [])) (Some (length by_surface))) (sym same) (latest_new by_surface y))
    | inr other ↦ latest_past by_surface y place (link_of h) (λ e. other (sym e)) (l.heads_latest place h (other_head heads y.surface.end (suc (length by_surface)) place h other here))
  ];
}
