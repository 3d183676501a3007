-- The nodes of a lattice are one list, with their marks: their words are in one order, and each
-- cost is the least of its kind.
use Rattle.std.proofs.Common.{◌≡◌, ℕ, suc, List, [], ◌∷◌, Bool, map, All, Option, None, Some, inl, inr, refl, sym, ap, subst, arith, slice_get}
use Rattle.std.specs.Prelude.{ℤ}
use Rattle.std.proofs.lemmas.Int.{ints}
use Rattle.std.proofs.lemmas.Option.{get_or_from_slice_get, same_Some, slice_get_within}
use Rattle.mj_model.specs.declared.word.Word.{Word}
use Rattle.mj_model.specs.Best.{AreWords}
use Rattle.viterbi.specs.Search.SearchedText.{SearchedText}
use Rattle.viterbi.proofs.Pushed.{get_from_Contains}
use Rattle.viterbi.specs.declared.nodes.lattice_node.LatticeNode.{LatticeNode}
use Rattle.viterbi.specs.Nodes.LatticeNodes.{AreReachableBefore, AreWordsOfLattice, ComesBefore, CostsThrough, CostsUpTo, HasLeastThrough, HasLeastForwardCost}
use Rattle.viterbi.specs.Nodes.Least.{IsLeastOf}
use Rattle.viterbi.specs.Nodes.OnPath.{AreOnPath}
use Rattle.lattice_view.proofs.OneOrder.{HasAll, one_list, one_mark}

-- ---- words

module _ (words : ℕ → List Word) (len : ℕ) (are : AreWords words len) where
  one_way : (v w : Word) → ComesBefore words v w → ComesBefore words w v → ⊥
  one_way v w (inl a) (inl b) = omega arith
  one_way v w (inl a) (inr (e, s)) = omega arith
  one_way v w (inr (e, s)) (inl b) = omega arith
  one_way v w (inr (e, s)) (inr (f, t)) =
      let f1 : slice_get (words v.place) t.second ≡ Some v = subst (λ (p : ℕ). slice_get (words p) t.second ≡ Some v) (sym e) t.has_second in
      let f2 : slice_get (words v.place) t.first ≡ Some w = subst (λ (p : ℕ). slice_get (words p) t.first ≡ Some w) (sym e) t.has_first in
      let g1 = are.distinct v.place s.first t.second v s.has_first f1 in
      let g2 = are.distinct v.place s.second t.first w s.has_second f2 in
      let o1 = s.in_order in
      let o2 = t.in_order in
      omega (arith, g1, g2, o1, o2)

  has_all : (p : ℕ) (vs ws : List Word) → AreReachableBefore words p vs → AreReachableBefore words p ws → HasAll vs ws
  has_all p vs ws a b i w at = get_from_Contains vs w (a.all w (b.each i w at) (b.below i w at))

  pub one_words : (p : ℕ) (vs ws : List Word) → AreReachableBefore words p vs → AreReachableBefore words p ws → vs ≡ ws
  one_words p vs ws a b = one_list (ComesBefore words) one_way vs ws a.in_order b.in_order (has_all p vs ws a b) (has_all p ws vs b a)

-- ---- costs

one_least : (Is : ℤ → Type 0) (a b : Option ℤ) → IsLeastOf Is a → IsLeastOf Is b → a ≡ b
one_least Is None None h k = refl
one_least Is None (Some y) h k = absurd (h y k.0)
one_least Is (Some x) None h k = absurd (k x h.0)
one_least Is (Some x) (Some y) h k =
    let low = h.1 y k.0 in
    let high = k.1 x h.0 in
    let same : x ≡ y = omega (arith, ints, low, high) in
    ap Some same

-- what holds for each element
abbrev OfEach : (LatticeNode → Type 0) → List LatticeNode → Type 0
OfEach Is nodes = (i : ℕ) (n : LatticeNode) → slice_get nodes i ≡ Some n → Is n

of_each : (Is : LatticeNode → Type 0) (nodes : List LatticeNode) → All Is nodes → OfEach Is nodes
of_each Is nodes all i n at = subst Is (get_or_from_slice_get nodes i n n at) (all i n (slice_get_within nodes i n at))

abbrev rest : List Word → List Word
rest [] = []
rest (w ∷ ws) = ws

abbrev made : Word → ℤ → Option ℤ → LatticeNode
made word total through = record { word = word; total = total; through = through }

module _ (t : SearchedText) where
  one_node : (m n : LatticeNode) → m.word ≡ n.word → HasLeastForwardCost t m → HasLeastForwardCost t n → HasLeastThrough t m → HasLeastThrough t n → m ≡ n
  one_node m n word a b c d =
      let total : m.total ≡ n.total =
      same_Some m.total n.total (one_least (CostsUpTo t.words t.connection n.word) (Some m.total) (Some n.total)
      (subst (λ (w : Word). IsLeastOf (CostsUpTo t.words t.connection w) (Some m.total)) word a) b) in
      let through : m.through ≡ n.through =
      one_least (CostsThrough t.words t.connection n.word) m.through n.through (subst (λ (w : Word). IsLeastOf (CostsThrough t.words t.connection w) m.through) word c) d in
      λ i. made (word i) (total i) (through i)

  same_nodes : (ms ns : List LatticeNode) → map (λ (n : LatticeNode). n.word) ms ≡ map (λ (n : LatticeNode). n.word) ns → OfEach (HasLeastForwardCost t) ms → OfEach (HasLeastForwardCost t) ns
      → OfEach (HasLeastThrough t) ms → OfEach (HasLeastThrough t) ns → ms ≡ ns
  same_nodes [] [] words a b c d = refl
  same_nodes [] (n ∷ ns) words a b c d = absurd (cc)
  same_nodes (m ∷ ms) [] words a b c d = absurd (cc)
  same_nodes (m ∷ ms) (n ∷ ns) words a b c d =
      let heads : m.word ≡ n.word = same_Some m.word n.word (ap (λ (ws : List Word). slice_get ws 0) words) in
      let tails = ap rest words in
      let first : m ≡ n = one_node m n heads (a 0 m refl) (b 0 n refl) (c 0 m refl) (d 0 n refl) in
      let more : ms ≡ ns = same_nodes ms ns tails (λ i. a (suc i)) (λ i. b (suc i)) (λ i. c (suc i)) (λ i. d (suc i)) in
      λ i. first i ∷ more i

  pub one_nodes : AreWords t.words t.text_length → (ms ns : List LatticeNode) → AreWordsOfLattice t ms → AreWordsOfLattice t ns → All (HasLeastForwardCost t) ms → All (HasLeastForwardCost t) ns
      → All (HasLeastThrough t) ms → All (HasLeastThrough t) ns → ms ≡ ns
  one_nodes are ms ns a b c d e f =
      same_nodes ms ns (one_words t.words t.text_length are t.text_length (map (λ (n : LatticeNode). n.word) ms) (map (λ (n : LatticeNode). n.word) ns) a b)
      (of_each (HasLeastForwardCost t) ms c) (of_each (HasLeastForwardCost t) ns d) (of_each (HasLeastThrough t) ms e) (of_each (HasLeastThrough t) ns f)

-- ---- marks

marks_after : (n : LatticeNode) (nodes : List LatticeNode) (path : List Word) (b : Bool) (bs : List Bool) → AreOnPath (n ∷ nodes) path (b ∷ bs) → AreOnPath nodes path bs
marks_after n nodes path b bs are = record { long = (let e = are.long in omega (arith, e)); each = λ i. are.each (suc i) }

pub one_marks : (nodes : List LatticeNode) (path : List Word) (xs ys : List Bool) → AreOnPath nodes path xs → AreOnPath nodes path ys → xs ≡ ys
one_marks [] path [] [] h k = refl
one_marks [] path [] (y ∷ ys) h k = let e = k.long in absurd (omega (arith, e))
one_marks [] path (x ∷ xs) ys h k = let e = h.long in absurd (omega (arith, e))
one_marks (n ∷ nodes) path [] ys h k = let e = h.long in absurd (omega (arith, e))
one_marks (n ∷ nodes) path (x ∷ xs) [] h k = let e = k.long in absurd (omega (arith, e))
one_marks (n ∷ nodes) path (x ∷ xs) (y ∷ ys) h k =
    let first : x ≡ y = one_mark y x (k.each 0 n y refl refl) (h.each 0 n x refl refl) in
    let more : xs ≡ ys = one_marks nodes path xs ys (marks_after n nodes path x xs h) (marks_after n nodes path y ys k) in
    λ i. first i ∷ more i
