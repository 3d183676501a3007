-- Nodes by group: each is a word of its group's surface, with its backpointer.
use Rattle.std.proofs.Common.{◌≡◌, ℕ, zero, suc, ◌+◌, ◌-◌, ◌<◌, ◌≤◌, List, [], ◌∷◌, ◌++◌, length, get_or, take, reverse, Some, inl, inr, refl, sym, ap, ◌∙◌, subst, arith, slice_get, pos}
use Rattle.std.proofs.lemmas.Bool.{cases_lt}
use Rattle.std.proofs.lemmas.List.{append-nil, get_or-append-add, get_or-reverse, length-append, length-reverse, take-append-le, take_all, take_more}
use Rattle.std.proofs.lemmas.List.Concat.{flat_map-append, get_or-flat_map}
use Rattle.std.proofs.lemmas.List.Folds.{length-flat_map-take}
use Rattle.std.proofs.lemmas.Option.{get_or_from_slice_get, same_Some, slice_get-get_or, slice_get_within}
use Rattle.mj_model.specs.declared.word.Word.{Word}
use Rattle.mj_model.specs.declared.paths.surface.Surface.{Surface}
use Rattle.mj_model.specs.Surfaces.{IsWhole, HasSameSpan}
use Rattle.viterbi.specs.declared.search.node.SurfaceNodes.{SurfaceNodes}
use Rattle.viterbi.specs.declared.search.node.Backpointer.{Backpointer}
use Rattle.viterbi.specs.Search.Nodes.{AreSurfaceNodes, HasNode, HaveRights, Node, stored_node, node_words, nodes_of, words_of_surface_nodes}
use Rattle.viterbi.proofs.Pushed.{get_prefix, get_push_cases}
use Rattle.viterbi.proofs.WordNumbers.{holds_in, no_surface, no_word}

-- ---- words with their backpointers

-- one more node
pub nodes_push : (ws : List Word) (bs : List Backpointer) (w : Word) (b : Backpointer) → slice_get ws (length bs) ≡ Some w → nodes_of ws (bs ++ b ∷ []) ≡ nodes_of ws bs ++ stored_node w b ∷ []
nodes_push [] [] w b at = absurd (cc)
nodes_push [] (c ∷ bs) w b at = absurd (cc)
nodes_push (v ∷ ws) [] w b at = ap (λ (u : Word). stored_node u b ∷ []) (same_Some v w at)
nodes_push (v ∷ ws) (c ∷ bs) w b at = ap (λ (ns : List Node). stored_node v c ∷ ns) (nodes_push ws bs w b at)

-- words that follow change nothing
pub nodes_more : (ws vs : List Word) (bs : List Backpointer) → length bs ≤ length ws → nodes_of (ws ++ vs) bs ≡ nodes_of ws bs
nodes_more ws vs [] le = refl
nodes_more [] vs (b ∷ bs) le = absurd (omega (arith, le))
nodes_more (w ∷ ws) vs (b ∷ bs) le = ap (λ (ns : List Node). stored_node w b ∷ ns) (nodes_more ws vs bs (omega (arith, le)))

pub nodes_length : (ws : List Word) (bs : List Backpointer) → length bs ≤ length ws → length (nodes_of ws bs) ≡ length bs
nodes_length ws [] le = refl
nodes_length [] (b ∷ bs) le = absurd (omega (arith, le))
nodes_length (w ∷ ws) (b ∷ bs) le = ap suc (nodes_length ws bs (omega (arith, le)))

pub node_here : (ws : List Word) (bs : List Backpointer) (i : ℕ) (w : Word) (b : Backpointer) → slice_get ws i ≡ Some w → slice_get bs i ≡ Some b → slice_get (nodes_of ws bs) i ≡ Some (stored_node w b)
node_here [] [] i w b at_w at_b = absurd (cc)
node_here [] (c ∷ bs) i w b at_w at_b = absurd (cc)
node_here (v ∷ ws) [] i w b at_w at_b = absurd (cc)
node_here (v ∷ ws) (c ∷ bs) zero w b at_w at_b = ap (λ (u : Word). Some (stored_node u c)) (same_Some v w at_w) ∙ ap (λ (d : Backpointer). Some (stored_node w d)) (same_Some c b at_b)
node_here (v ∷ ws) (c ∷ bs) (suc i) w b at_w at_b = node_here ws bs i w b at_w at_b

-- ---- the stored right ids

-- of one more node
pub rights_push : (ws : List Word) (bs : List Backpointer) (w : Word) (b : Backpointer) → slice_get ws (length bs) ≡ Some w → b.right ≡ w.right → HaveRights ws bs → HaveRights ws (bs ++ b ∷ [])
rights_push ws bs w b next right rights i v c at_v at_c = elim (get_push_cases bs b i c at_c) [
  | inl old ↦ rights i v c at_v old
  | inr new ↦
      let same : v ≡ w = same_Some v w (sym at_v ∙ ap (slice_get ws) new.0 ∙ next) in
      ap (λ (x : Backpointer). x.right) (sym new.1) ∙ right ∙ ap (λ (x : Word). x.right) (sym same)
]

-- words that follow change nothing
pub rights_more : (ws vs : List Word) (bs : List Backpointer) → length bs ≤ length ws → HaveRights ws bs → HaveRights (ws ++ vs) bs
rights_more ws vs bs le rights i w b at_w at_b =
    let low = slice_get_within bs i b at_b in
    rights i w b (sym (get_prefix ws vs i (omega (arith, low, le))) ∙ at_w) at_b

-- a node has a word and a backpointer
pub record IsKept (ws : List Word) (bs : List Backpointer) (i : ℕ) (n : Node) : Type 0 where
  pub word : Word
  pub back : Backpointer
  pub word_at : slice_get ws i ≡ Some word
  pub back_at : slice_get bs i ≡ Some back
  pub is : stored_node word back ≡ n

pub node_parts : (ws : List Word) (bs : List Backpointer) (i : ℕ) (n : Node) → slice_get (nodes_of ws bs) i ≡ Some n → IsKept ws bs i n
node_parts [] [] i n at = absurd (cc)
node_parts (w ∷ ws) [] i n at = absurd (cc)
node_parts [] (b ∷ bs) i n at = absurd (cc)
node_parts (w ∷ ws) (b ∷ bs) zero n at = record { word = w; back = b; word_at = refl; back_at = refl; is = same_Some (stored_node w b) n at }
node_parts (w ∷ ws) (b ∷ bs) (suc i) n at =
    let p = node_parts ws bs i n at in
    record { word = p.word; back = p.back; word_at = p.word_at; back_at = p.back_at; is = p.is }

-- the next word, as the words of a surface are added from the last one on
pub next_word : (ws before fs : List Word) (n i : ℕ) (w : Word) → ws ≡ before ++ reverse fs → slice_get fs i ≡ Some w → n + i + 1 ≡ length ws → slice_get ws n ≡ Some w
next_word ws before fs n i w is at long =
    let whole = ap length is ∙ length-append before (reverse fs) in
    let own = length-reverse fs in
    let low = slice_get_within fs i w at in
    let j = length fs - 1 - i in
    let less : j < length fs = omega (arith, low) in
    let place : n ≡ length before + j = omega (arith, whole, own, long, low) in
    let back : length fs - 1 - j ≡ i = omega (arith, low) in
    let value = get_or-append-add before (reverse fs) j w ∙ get_or-reverse fs j w less ∙ ap (λ (k : ℕ). get_or fs k w) back ∙ get_or_from_slice_get fs i w w at in
    slice_get-get_or ws n w (omega (arith, long)) ∙ ap Some (ap (λ (us : List Word). get_or us n w) is ∙ ap (λ (k : ℕ). get_or (before ++ reverse fs) k w) place ∙ value)

-- ---- groups of nodes

abbrev pub no_back : Backpointer
no_back = record { total = pos 0; before = 0; right = 0 }

abbrev pub no_group : SurfaceNodes
no_group = record { surface = no_surface; from = 0; next = 0 }

module _ (f : Surface → List Word) where
  -- how many nodes the first groups have
  abbrev pub start : List SurfaceNodes → ℕ → ℕ
  start by_surface number = length (node_words f (take number by_surface))

  pub starts_rise : (by_surface : List SurfaceNodes) (a b : ℕ) → a ≤ b → start by_surface a ≤ start by_surface b
  starts_rise [] zero zero le = omega arith
  starts_rise [] zero (suc b) le = omega arith
  starts_rise [] (suc a) zero le = absurd (omega (arith, le))
  starts_rise [] (suc a) (suc b) le = omega arith
  starts_rise (r ∷ rs) zero b le = omega arith
  starts_rise (r ∷ rs) (suc a) zero le = absurd (omega (arith, le))
  starts_rise (r ∷ rs) (suc a) (suc b) le =
      let more = starts_rise rs a b (omega (arith, le)) in
      let x = length-append (words_of_surface_nodes f r) (node_words f (take a rs)) in
      let y = length-append (words_of_surface_nodes f r) (node_words f (take b rs)) in
      omega (arith, more, x, y)

  -- after the groups before a node there is one more
  pub group_before : (by_surface : List SurfaceNodes) (number node : ℕ) → start by_surface number ≤ node → node < length (node_words f by_surface) → number < length by_surface
  group_before by_surface number node next_ones less = elim (cases_lt number (length by_surface)) [
    | inl within ↦ within
    | inr past ↦
        let all : start by_surface number ≡ length (node_words f by_surface) = ap (λ (rs : List SurfaceNodes). length (node_words f rs)) (take_all number by_surface past) in
        absurd (omega (arith, all, next_ones, less))
  ]

  -- with one more group
  pub words_push : (by_surface : List SurfaceNodes) (r : SurfaceNodes) → node_words f (by_surface ++ r ∷ []) ≡ node_words f by_surface ++ words_of_surface_nodes f r
  words_push by_surface r = flat_map-append (words_of_surface_nodes f) by_surface (r ∷ []) ∙ ap (λ (ws : List Word). node_words f by_surface ++ ws) (append-nil (words_of_surface_nodes f r))

  pub groups_push : (by_surface : List SurfaceNodes) (r : SurfaceNodes) → AreSurfaceNodes f by_surface → IsWhole f r.surface → r.from ≡ length (node_words f by_surface) → AreSurfaceNodes f (by_surface ++ r ∷ [])
  groups_push by_surface r are whole from = record {
    whole = λ number surface_nodes at. elim (get_push_cases by_surface r number surface_nodes at) [ inl old ↦ are.whole number surface_nodes old | inr new ↦ subst (λ (x : SurfaceNodes). IsWhole f x.surface) new.1 whole ];
    from = λ number surface_nodes at. elim (get_push_cases by_surface r number surface_nodes at) [
      | inl old ↦ are.from number surface_nodes old ∙ ap (λ (rs : List SurfaceNodes). length (node_words f rs)) (sym (take-append-le number by_surface (r ∷ []) (let w = slice_get_within by_surface number surface_nodes old in omega (arith, w))))
      | inr new ↦
          let low = new.0 in
          ap (λ (x : SurfaceNodes). x.from) (sym new.1) ∙ from
          ∙ ap (λ (rs : List SurfaceNodes). length (node_words f rs)) (sym (take-append-le number by_surface (r ∷ []) (omega (arith, low)) ∙ take_all number by_surface (omega (arith, low))))
    ];
  }

  -- a new group without backpointers changes no node
  pub nodes_stay : (by_surface : List SurfaceNodes) (r : SurfaceNodes) (backpointers : List Backpointer) → length backpointers ≡ length (node_words f by_surface) → nodes_of (node_words f (by_surface ++ r ∷ [])) backpointers ≡ nodes_of (node_words f by_surface) backpointers
  nodes_stay by_surface r backpointers all = ap (λ (ws : List Word). nodes_of ws backpointers) (words_push by_surface r) ∙ nodes_more (node_words f by_surface) (words_of_surface_nodes f r) backpointers (omega (arith, all))

  pub rights_stay : (by_surface : List SurfaceNodes) (r : SurfaceNodes) (backpointers : List Backpointer) → length backpointers ≡ length (node_words f by_surface) → HaveRights (node_words f by_surface) backpointers → HaveRights (node_words f (by_surface ++ r ∷ [])) backpointers
  rights_stay by_surface r backpointers all rights = subst (λ (ws : List Word). HaveRights ws backpointers) (sym (words_push by_surface r)) (rights_more (node_words f by_surface) (words_of_surface_nodes f r) backpointers (omega (arith, all)) rights)

  module _ (by_surface : List SurfaceNodes) (are : AreSurfaceNodes f by_surface) where
    -- after a group comes the next one
    pub next_group : (number : ℕ) (surface_nodes : SurfaceNodes) → slice_get by_surface number ≡ Some surface_nodes → start by_surface (number + 1) ≡ surface_nodes.from + surface_nodes.surface.count
    next_group number surface_nodes at =
        let within = slice_get_within by_surface number surface_nodes at in
        let here = get_or_from_slice_get by_surface number surface_nodes surface_nodes at in
        let split = take_more by_surface number surface_nodes within ∙ ap (λ (r : SurfaceNodes). take number by_surface ++ r ∷ []) here in
        let long = ap (λ (rs : List SurfaceNodes). length (node_words f rs)) split ∙ ap length (words_push (take number by_surface) surface_nodes) ∙ length-append (node_words f (take number by_surface)) (words_of_surface_nodes f surface_nodes) in
        let own = length-reverse (f surface_nodes.surface) ∙ (are.whole number surface_nodes at).count_is in
        let from = are.from number surface_nodes at in
        omega (arith, long, own, from)

    -- word count - 1 - left of the surface is that of the node so many after the first
    pub group_word : (number : ℕ) (surface_nodes : SurfaceNodes) (left : ℕ) (w : Word) → slice_get by_surface number ≡ Some surface_nodes → left < surface_nodes.surface.count → slice_get (f surface_nodes.surface) (surface_nodes.surface.count - 1 - left) ≡ Some w → slice_get (node_words f by_surface) (surface_nodes.from + left) ≡ Some w
    group_word number surface_nodes left w at less at_w =
        let within = slice_get_within by_surface number surface_nodes at in
        let here = get_or_from_slice_get by_surface number surface_nodes surface_nodes at in
        let count = (are.whole number surface_nodes at).count_is in
        let long = ap (λ (r : SurfaceNodes). length (words_of_surface_nodes f r)) here ∙ length-reverse (f surface_nodes.surface) ∙ count in
        let own : left < length (f surface_nodes.surface) = omega (arith, less, count) in
        let room = length-flat_map-take (words_of_surface_nodes f) by_surface number surface_nodes within in
        let from = are.from number surface_nodes at in
        let value = get_or-flat_map (words_of_surface_nodes f) by_surface number left surface_nodes w within (omega (arith, less, long)) ∙ ap (λ (r : SurfaceNodes). get_or (words_of_surface_nodes f r) left w) here
        ∙ get_or-reverse (f surface_nodes.surface) left w own ∙ ap (λ (n : ℕ). get_or (f surface_nodes.surface) (n - 1 - left) w) count ∙ get_or_from_slice_get (f surface_nodes.surface) (surface_nodes.surface.count - 1 - left) w w at_w in
        slice_get-get_or (node_words f by_surface) (surface_nodes.from + left) w (omega (arith, room, long, less, from))
        ∙ ap Some (ap (λ (n : ℕ). get_or (node_words f by_surface) (n + left) w) from ∙ value)

    -- each node is in a group
    pub group_of_node : (n i : ℕ) → n ≤ length by_surface → i < start by_surface n → (number : ℕ) × (number < n) × HasNode by_surface number i
    group_of_node zero i le less = absurd (omega (arith, less))
    group_of_node (suc n) i le less =
        let surface_nodes = get_or by_surface n no_group in
        let at = slice_get-get_or by_surface n no_group (omega (arith, le)) in
        let end = next_group n surface_nodes at in
        let from = are.from n surface_nodes at in
        let same : suc n ≡ n + 1 = omega arith in
        let low = subst (λ (k : ℕ). i < start by_surface k) same less in
        elim (cases_lt i (start by_surface n)) [
          | inl before ↦ let r = group_of_node n i (omega (arith, le)) before in let m = r.1 in (r.0, omega (arith, m), r.2)
          | inr more ↦ (n, omega arith, record { surface_nodes = surface_nodes; here = at; from = omega (arith, more, from); within = omega (arith, low, end) })
        ]

    pub group_of_any : (i : ℕ) → i < length (node_words f by_surface) → (number : ℕ) × HasNode by_surface number i
    group_of_any i less = let r = group_of_node (length by_surface) i (omega arith) (subst (λ (rs : List SurfaceNodes). i < length (node_words f rs)) (sym (take_all (length by_surface) by_surface (omega arith))) less) in (r.0, r.2)

    -- its word is one of the group's surface
    pub group_end : (number i : ℕ) (w : Word) → (h : HasNode by_surface number i) → slice_get (node_words f by_surface) i ≡ Some w → w.end ≡ h.surface_nodes.surface.end
    group_end number i w h at =
        let surface_nodes = h.surface_nodes in
        let low = h.from in
        let high = h.within in
        let left = i - surface_nodes.from in
        let split : surface_nodes.from + left ≡ i = omega (arith, low) in
        let less : left < surface_nodes.surface.count = omega (arith, low, high) in
        let whole = are.whole number surface_nodes h.here in
        let count = whole.count_is in
        let k = surface_nodes.surface.count - 1 - left in
        let at_k = slice_get-get_or (f surface_nodes.surface) k w (omega (arith, less, count)) in
        let v = get_or (f surface_nodes.surface) k w in
        let same : v ≡ w = same_Some v w (sym (group_word number surface_nodes left v h.here less at_k) ∙ ap (slice_get (node_words f by_surface)) split ∙ at) in
        ap (λ (u : Word). u.end) (sym same) ∙ (holds_in (HasSameSpan surface_nodes.surface) (f surface_nodes.surface) k v whole.same_spans at_k).end

    -- the nodes of a group are among all
    pub group_within : (number : ℕ) (surface_nodes : SurfaceNodes) → slice_get by_surface number ≡ Some surface_nodes → surface_nodes.from + surface_nodes.surface.count ≤ length (node_words f by_surface)
    group_within number surface_nodes at =
        let next = next_group number surface_nodes at in
        let rise = starts_rise by_surface (number + 1) (length by_surface) (let w = slice_get_within by_surface number surface_nodes at in omega (arith, w)) in
        let end = ap (λ (rs : List SurfaceNodes). length (node_words f rs)) (take_all (length by_surface) by_surface (omega arith)) in
        omega (arith, next, rise, end)

    -- the word of a node, by the number of its group
    pub node_has_word : (number node : ℕ) (w : Word) → HasNode by_surface number node
        → slice_get (f (get_or by_surface number no_group).surface) ((get_or by_surface number no_group).surface.count - 1 - (node - (get_or by_surface number no_group).from)) ≡ Some w → slice_get (node_words f by_surface) node ≡ Some w
    node_has_word number node w h at_w =
        let r = get_or by_surface number no_group in
        let at = slice_get-get_or by_surface number no_group (slice_get_within by_surface number h.surface_nodes h.here) in
        let same : h.surface_nodes ≡ r = same_Some h.surface_nodes r (sym h.here ∙ at) in
        let low : r.from ≤ node = subst (λ (x : SurfaceNodes). x.from ≤ node) same h.from in
        let high : node < r.from + r.surface.count = subst (λ (x : SurfaceNodes). node < x.from + x.surface.count) same h.within in
        let split : r.from + (node - r.from) ≡ node = omega (arith, low) in
        subst (λ (i : ℕ). slice_get (node_words f by_surface) i ≡ Some w) split (group_word number r (node - r.from) w at (omega (arith, low, high)) at_w)

    -- the word of a node is one of its group's
    pub node_word_within : (number node : ℕ) → HasNode by_surface number node
        → (get_or by_surface number no_group).surface.count - 1 - (node - (get_or by_surface number no_group).from) < length (f (get_or by_surface number no_group).surface)
    node_word_within number node h =
        let r = get_or by_surface number no_group in
        let at = slice_get-get_or by_surface number no_group (slice_get_within by_surface number h.surface_nodes h.here) in
        let count = (are.whole number r at).count_is in
        let some = (are.whole number r at).some in
        omega (arith, count, some)

    -- a word of a surface ends at the end of its group
    pub word_appears : (number : ℕ) (surface_nodes : SurfaceNodes) (k : ℕ) (w : Word) → slice_get by_surface number ≡ Some surface_nodes → slice_get (f surface_nodes.surface) k ≡ Some w → w.end ≡ surface_nodes.surface.end
    word_appears number surface_nodes k w at at_w = (holds_in (HasSameSpan surface_nodes.surface) (f surface_nodes.surface) k w (are.whole number surface_nodes at).same_spans at_w).end

    module _ (backpointers : List Backpointer) (all : length backpointers ≡ length (node_words f by_surface)) where
      -- a node ends at the end of its group
      pub node_group : (i : ℕ) (m : Node) → slice_get (nodes_of (node_words f by_surface) backpointers) i ≡ Some m → (number : ℕ) × (h : HasNode by_surface number i) × (m.word.end ≡ h.surface_nodes.surface.end)
      node_group i m at =
          let p = node_parts (node_words f by_surface) backpointers i m at in
          let r = group_of_any i (slice_get_within (node_words f by_surface) i p.word p.word_at) in
          (r.0, r.1, ap (λ (n : Node). n.word.end) (sym p.is) ∙ group_end r.0 i p.word r.1 p.word_at)

      -- a node by its number in the group
      pub node_of_group : (number : ℕ) (surface_nodes : SurfaceNodes) (left : ℕ) (w : Word) (d : Backpointer) → slice_get by_surface number ≡ Some surface_nodes → left < surface_nodes.surface.count → slice_get (f surface_nodes.surface) (surface_nodes.surface.count - 1 - left) ≡ Some w
          → slice_get (nodes_of (node_words f by_surface) backpointers) (surface_nodes.from + left) ≡ Some (stored_node w (get_or backpointers (surface_nodes.from + left) d))
      node_of_group number surface_nodes left w d at less at_w =
          let here = group_word number surface_nodes left w at less at_w in
          let within = slice_get_within (node_words f by_surface) (surface_nodes.from + left) w here in
          node_here (node_words f by_surface) backpointers (surface_nodes.from + left) w (get_or backpointers (surface_nodes.from + left) d) here (slice_get-get_or backpointers (surface_nodes.from + left) d (omega (arith, within, all)))

      -- a group has a node, which ends at the end of the group
      pub group_node : (number : ℕ) (surface_nodes : SurfaceNodes) → slice_get by_surface number ≡ Some surface_nodes → (m : Node) × (slice_get (nodes_of (node_words f by_surface) backpointers) surface_nodes.from ≡ Some m) × (m.word.end ≡ surface_nodes.surface.end)
      group_node number surface_nodes at =
          let whole = are.whole number surface_nodes at in
          let count = whole.count_is in
          let some = whole.some in
          let k = surface_nodes.surface.count - 1 - 0 in
          let w = get_or (f surface_nodes.surface) k no_word in
          let at_w = slice_get-get_or (f surface_nodes.surface) k no_word (omega (arith, count, some)) in
          let same : surface_nodes.from + 0 ≡ surface_nodes.from = omega arith in
          let n = stored_node w (get_or backpointers (surface_nodes.from + 0) no_back) in
          let here = node_of_group number surface_nodes 0 w no_back at some at_w in
          (n, subst (λ (i : ℕ). slice_get (nodes_of (node_words f by_surface) backpointers) i ≡ Some n) same here, (holds_in (HasSameSpan surface_nodes.surface) (f surface_nodes.surface) k w whole.same_spans at_w).end)
