-- The nodes of a lattice as they are written: each is at its index, and its word starts in the
-- text.
use Rattle.std.proofs.Common.{◌≡◌, ℕ, suc, ◌+◌, ◌<◌, ◌≤◌, List, [], ◌∷◌, All, Bool, length, drop, get_or, refl, sym, ap, ◌∙◌, subst, arith}
use Rattle.std.specs.Prelude.{min, zip, Option, Some, None, IsUtf8}
use Rattle.std.specs.Option.{IsSomeAnd}
use Rattle.std.proofs.lemmas.List.{drop_min, get_or-drop, get_or-map, length-map}
use Rattle.std.proofs.lemmas.Option.{slice_get-get_or}
use Rattle.std.proofs.lemmas.Slice.Zip.{get_or-zip}
use Rattle.line_segmenter.specs.Segmenters.{SegmentedLine, SegmenterState, IsSegmentedOver, IsLatticeOfLastLine, OfLastLine, overlay_of_state}
use Rattle.line_segmenter.specs.PathEnds.{AreLast}
use Rattle.line_segmenter.specs.declared.last_words.LastWords.{LastWords}
use Rattle.capi.specs.Nodes.{AreNodesWritten, StartsIn, c_node, c_nodes}
use Rattle.capi.specs.Outputs.{with_front}
use Rattle.capi.specs.declared.nodes.CNode.{CNode}
use Rattle.lattice.proofs.NodeWords.{node_appears}
use Rattle.lattice.specs.declared.marking.MarkedLattice.{MarkedLattice}
use Rattle.lattice.specs.TextOver.{text_over}
use Rattle.viterbi.specs.declared.nodes.lattice_node.LatticeNode.{LatticeNode}
use Rattle.viterbi.specs.Nodes.LatticeNodes.{AreWordsOfLattice}
use Rattle.mj_model.specs.declared.limits.TheConstants.{SENTENCE_MAX}
use Rattle.mj_model.specs.Tables.{Overlay}
use Rattle.word_lookup.specs.Overlays.{overlay_of}

length-zip : {A B : Type 0} → (xs : List A) (ys : List B) → length ys ≡ length xs → length (zip xs ys) ≡ length xs
length-zip [] ys e = refl
length-zip (x ∷ xs) [] e = absurd (omega (arith, e))
length-zip (x ∷ xs) (y ∷ ys) e = ap (λ (n : ℕ). suc n) (length-zip xs ys (omega (arith, e)))

pub length-c_nodes : (o : Overlay) (text : List ℕ) (nodes : List LatticeNode) (marks : List Bool) → length marks ≡ length nodes → length (c_nodes o text nodes marks) ≡ length nodes
length-c_nodes o text nodes marks even = length-map (zip nodes marks) (λ (p : LatticeNode × Bool). c_node o text p.0 p.1) ∙ length-zip nodes marks even

-- the node at an index, as the first of those from the index on
pub node_here : (o : Overlay) (text : List ℕ) (nodes : List LatticeNode) (marks : List Bool) (from i : ℕ) (n : LatticeNode) (b : Bool) (reported : CNode) → length marks ≡ length nodes → from + i < length nodes
    → reported ≡ c_node o text (get_or nodes (from + i) n) (get_or marks (from + i) b) → reported ≡ get_or (drop from (c_nodes o text nodes marks)) i reported
node_here o text nodes marks from i n b reported even low is =
    let shown = λ (p : LatticeNode × Bool). c_node o text p.0 p.1 in
    let many = length-zip nodes marks even in
    let there : get_or (c_nodes o text nodes marks) (from + i) reported ≡ c_node o text (get_or nodes (from + i) n) (get_or marks (from + i) b) =
    get_or-map shown (zip nodes marks) (from + i) (n, b) reported (omega (arith, low, many)) ∙ ap shown (get_or-zip nodes marks (from + i) (n, b) low (omega (arith, low, even))) in
    is ∙ sym there ∙ sym (get_or-drop from (c_nodes o text nodes marks) i reported)

-- two facts about the last line
of_both : (segment : Option SegmentedLine) (I P Q : SegmentedLine → Type 0) (F : Type 0) → ((c : SegmentedLine) → I c → P c → Q c → F) → IsSomeAnd segment (λ c. I c × P c) → IsSomeAnd segment (λ c. I c × Q c) → F
of_both None I P Q F f a b = absurd a
of_both (Some c) I P Q F f a b = f c a.0 a.1 b.1

so_of_both : (segment : Option SegmentedLine) (I P Q R : SegmentedLine → Type 0) → ((c : SegmentedLine) → P c → Q c → R c) → IsSomeAnd segment (λ c. I c × P c) → IsSomeAnd segment (λ c. I c × Q c) → IsSomeAnd segment (λ c. I c × R c)
so_of_both None I P Q R f a b = absurd a
so_of_both (Some c) I P Q R f a b = (a.0, f c a.1 b.1)

module _ (h : SegmenterState) (last : LastWords) (lattice : MarkedLattice) (borrowed : OfLastLine h (AreLast h last)) (made : OfLastLine h (IsLatticeOfLastLine h lattice)) where
  pub marks_even : length lattice.on_best.items ≡ length lattice.nodes.items
  marks_even = of_both h.segmented (IsSegmentedOver (overlay_of_state h)) (AreLast h last) (IsLatticeOfLastLine h lattice) (length lattice.on_best.items ≡ length lattice.nodes.items) (λ c segment is marked. marked.on_best.long) borrowed made

  begin_here : (c : SegmentedLine) → IsSegmentedOver (overlay_of_state h) c → AreLast h last c → IsLatticeOfLastLine h lattice c → All (StartsIn last.text.now) lattice.nodes.items
  begin_here c segment is marked i d within =
      let nodes = lattice.nodes.items in
      let utf8 : IsUtf8 last.text.now = subst IsUtf8 (sym is.text) segment.is_utf8 in
      let short : length last.text.now ≤ SENTENCE_MAX = subst (λ (t : List ℕ). length t ≤ SENTENCE_MAX) (sym is.text) segment.short in
      let words : AreWordsOfLattice (text_over (overlay_of last.dictionaries) last.text.now) nodes =
      subst (λ (t : List ℕ). AreWordsOfLattice (text_over (overlay_of last.dictionaries) t) nodes) (sym is.text)
      (subst (λ (o : Overlay). AreWordsOfLattice (text_over o c.text) nodes) (sym is.dictionaries) marked.nodes.words) in
      (node_appears last.dictionaries last.text.now nodes utf8 short words i (get_or nodes i d) (slice_get-get_or nodes i d within)).begins

  pub all_begin : All (StartsIn last.text.now) lattice.nodes.items
  all_begin = of_both h.segmented (IsSegmentedOver (overlay_of_state h)) (AreLast h last) (IsLatticeOfLastLine h lattice) (All (StartsIn last.text.now) lattice.nodes.items) begin_here borrowed made

  module _ (first from count : ℕ) (old new : List CNode) where
    abbrev borrowed_nodes : List CNode
    borrowed_nodes = c_nodes (overlay_of last.dictionaries) last.text.now lattice.nodes.items lattice.on_best.items

    reported_of : from ≡ min first (length lattice.nodes.items) → new ≡ with_front (drop from borrowed_nodes) old → count ≡ length lattice.nodes.items
        → (c : SegmentedLine) → AreLast h last c → IsLatticeOfLastLine h lattice c → AreNodesWritten h first count old new c
    reported_of least written counts c is marked =
        let same : borrowed_nodes ≡ c_nodes (overlay_of_state h) c.text lattice.nodes.items lattice.on_best.items = λ i. c_nodes (is.dictionaries i) (is.text i) lattice.nodes.items lattice.on_best.items in
        let many = length-c_nodes (overlay_of last.dictionaries) last.text.now lattice.nodes.items lattice.on_best.items marks_even in
        let all_from : drop from borrowed_nodes ≡ drop first borrowed_nodes = ap (λ (n : ℕ). drop n borrowed_nodes) (least ∙ ap (λ (n : ℕ). min first n) (sym many)) ∙ drop_min first borrowed_nodes in
        record {
          lattice = lattice;
          is = marked;
          written = written ∙ ap (λ (xs : List CNode). with_front xs old) (all_from ∙ ap (drop first) same);
          all = counts;
        }

    -- the nodes that were written are those of the last line's lattice
    pub nodes_reported : from ≡ min first (length lattice.nodes.items) → new ≡ with_front (drop from borrowed_nodes) old → count ≡ length lattice.nodes.items
        → OfLastLine h (AreNodesWritten h first count old new)
    nodes_reported least written counts = so_of_both h.segmented (IsSegmentedOver (overlay_of_state h)) (AreLast h last) (IsLatticeOfLastLine h lattice) (AreNodesWritten h first count old new) (reported_of least written counts) borrowed made
