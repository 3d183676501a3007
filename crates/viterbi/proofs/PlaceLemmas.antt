-- The index of the first node of each position, as nodes are visited; and what is known of the
-- nodes of a text's lattice.
use Rattle.std.proofs.Common.{◌≡◌, ℕ, zero, suc, ◌+◌, ◌<◌, ◌≤◌, List, [], ◌∷◌, length, Contains, Option, None, Some, inl, inr, refl, sym, ap, ◌∙◌, subst, arith, get_or, slice_get}
use Rattle.std.specs.Prelude.{ℤ}
use Rattle.std.specs.Option.{option_map}
use Rattle.std.proofs.lemmas.Bool.{cases_lt}
use Rattle.std.proofs.lemmas.Int.{ints}
use Rattle.std.proofs.lemmas.List.{length-map}
use Rattle.std.proofs.lemmas.Option.{get_or_from_slice_get, same_Some, slice_get-get_or, slice_get-map, slice_get_within}
use Rattle.mj_model.specs.declared.word.Word.{Word}
use Rattle.viterbi.specs.Search.SearchedText.{CanBeSearched, SearchedText}
use Rattle.viterbi.specs.declared.nodes.lattice_node.LatticeNode.{LatticeNode}
use Rattle.viterbi.specs.Nodes.LatticeNodes.{CostsThrough, CostsUpTo}
use Rattle.viterbi.specs.Nodes.Least.{IsLeastOf}
use Rattle.viterbi.specs.Nodes.OnPath.{AreByPlace}
use Rattle.viterbi.specs.Nodes.ReachableWords.{AreIndexed, IsFirstFrom}
use Rattle.viterbi.proofs.OnPathLemmas.{lattice_by_place}
use Rattle.viterbi.proofs.PathParts.{parts_through, small_on, small_up_to}
use Rattle.viterbi.specs.Rivals.Places.{AreLow, AreNodesOf, IsSmallIfSome, IsSmallNode, words_in}

-- ---- words and nodes by number

abbrev the_word : LatticeNode → Word
the_word n = n.word

pub word_here : (nodes : List LatticeNode) (k : ℕ) (n : LatticeNode) → slice_get nodes k ≡ Some n → slice_get (words_in nodes) k ≡ Some n.word
word_here nodes k n at = slice_get-map the_word nodes k ∙ ap (option_map the_word) at

pub node_here : (nodes : List LatticeNode) (k : ℕ) (w : Word) → slice_get (words_in nodes) k ≡ Some w → (n : LatticeNode) × (slice_get nodes k ≡ Some n) × (n.word ≡ w)
node_here [] k w at = absurd (cc)
node_here (n ∷ nodes) zero w at = (n, refl, same_Some n.word w at)
node_here (n ∷ nodes) (suc k) w at = node_here nodes k w at

pub as_many : (nodes : List LatticeNode) → length (words_in nodes) ≡ length nodes
as_many nodes = length-map nodes the_word

-- ---- the index

-- the nodes before a number are indexed, up to the position of the next one at most
pub record AreIndexedTo (nodes : List LatticeNode) (count : ℕ) (firsts : List ℕ) : Type 0 where
  pub each : (place first : ℕ) → slice_get firsts place ≡ Some first → IsFirstFrom (words_in nodes) place first
  pub below : (k : ℕ) (n : LatticeNode) → k < count → slice_get nodes k ≡ Some n → n.word.place < length firsts
  pub low : (k : ℕ) (n : LatticeNode) → count ≤ k → slice_get nodes k ≡ Some n → length firsts ≤ n.word.place + 1

pub indexed_none : (nodes : List LatticeNode) (firsts : List ℕ) → firsts ≡ [] → AreIndexedTo nodes 0 firsts
indexed_none nodes firsts none = subst (AreIndexedTo nodes 0) (sym none) (record {
  each = λ place first at. absurd (cc);
  below = λ k n less at. absurd (omega (arith, less));
  low = λ k n low at. omega arith;
})

module _ (nodes : List LatticeNode) (by_place : AreByPlace nodes) (count : ℕ) (n : LatticeNode) (here : slice_get nodes count ≡ Some n) (firsts : List ℕ) (so_far : AreIndexedTo nodes count firsts) where
  -- no node before it is at its position, if the index doesn't reach so far
  is_first : (place : ℕ) → length firsts ≤ place → place ≤ n.word.place → IsFirstFrom (words_in nodes) place count
  is_first place past up_to = record {
    within = let within = slice_get_within nodes count n here in omega (arith, within, as_many nodes);
    before = λ i w at less.
        let m = node_here nodes i w at in
        let low = so_far.below i m.0 less m.1 in
        subst (λ (x : Word). x.place < place) m.2 (omega (arith, low, past));
    from = λ i w at more.
        let m = node_here nodes i w at in
        subst (λ (x : Word). place ≤ x.place) m.2 (elim (cases_lt count i) [
          | inl less ↦ (let rise = by_place count i n m.0 less here m.1 in omega (arith, rise, up_to))
          | inr le ↦
              (let same : n ≡ m.0 = same_Some n m.0 (sym here ∙ ap (slice_get nodes) (omega (arith, more, le)) ∙ m.1) in
              let e = ap (λ (x : LatticeNode). x.word.place) same in
              omega (arith, e, up_to))
        ]);
  }

  pub indexed_more : (after : List ℕ) → length after ≡ n.word.place + 1 → ((k : ℕ) → k < length firsts → get_or after k 0 ≡ get_or firsts k 0) → ((k : ℕ) → length firsts ≤ k → k < n.word.place + 1 → get_or after k 0 ≡ count) → AreIndexedTo nodes (count + 1) after
  indexed_more after long kept filled =
      let reach = so_far.low count n (omega arith) here in
      record {
        each = λ place first at.
            let within = slice_get_within after place first at in
            let read = get_or_from_slice_get after place first 0 at in
            elim (cases_lt place (length firsts)) [
              | inl low ↦ so_far.each place first (slice_get-get_or firsts place 0 low ∙ ap Some (sym (kept place low) ∙ read))
              | inr past ↦ subst (IsFirstFrom (words_in nodes) place) (sym (filled place past (omega (arith, within, long))) ∙ read) (is_first place past (omega (arith, within, long)))
            ];
        below = λ k m less at. elim (cases_lt k count) [
          | inl low ↦ (let old = so_far.below k m low at in omega (arith, old, long, reach))
          | inr le ↦
              (let same : n ≡ m = same_Some n m (sym here ∙ ap (slice_get nodes) (omega (arith, less, le)) ∙ at) in
              let e = ap (λ (x : LatticeNode). x.word.place) same in
              omega (arith, e, long))
        ];
        low = λ k m low at. let rise = by_place count k n m (omega (arith, low)) here at in omega (arith, rise, long);
      }

pub indexed_all : (nodes : List LatticeNode) (firsts : List ℕ) → AreIndexedTo nodes (length nodes) firsts → AreIndexed (words_in nodes) firsts
indexed_all nodes firsts all = record {
  each = all.each;
  below = λ i w at.
      let m = node_here nodes i w at in
      let low = all.below i m.0 (slice_get_within nodes i m.0 m.1) m.1 in
      subst (λ (x : Word). x.place < length firsts) m.2 low;
}

-- after the end of the index there is no node
pub past_index : (nodes : List LatticeNode) (firsts : List ℕ) (place : ℕ) → AreIndexed (words_in nodes) firsts → length firsts ≤ place → IsFirstFrom (words_in nodes) place (length nodes)
past_index nodes firsts place are past = record {
  within = omega (arith, as_many nodes);
  before = λ i w at less. let low = are.below i w at in omega (arith, low, past);
  from = λ i w at more. let within = slice_get_within (words_in nodes) i w at in absurd (omega (arith, within, more, as_many nodes));
}

-- the nodes from the first of a position up to the first of the next position are at that position
pub meets_at : (nodes : List LatticeNode) (place from to k : ℕ) (n : LatticeNode) → slice_get nodes k ≡ Some n → IsFirstFrom (words_in nodes) place from → IsFirstFrom (words_in nodes) (place + 1) to → from ≤ k → k < to → place ≡ n.word.place
meets_at nodes place from to k n at f g low high =
    let here = word_here nodes k n at in
    let a = f.from k n.word here low in
    let b = g.before k n.word here high in
    omega (arith, a, b)

-- ---- the nodes of a text

module _ (t : SearchedText) (source : CanBeSearched t) (nodes : List LatticeNode) (are : AreNodesOf t nodes) where
  pub by_place : AreByPlace nodes
  by_place = lattice_by_place t.words t.text_length nodes are.words

  pub word_of : (k : ℕ) (n : LatticeNode) → slice_get nodes k ≡ Some n → Contains (t.words n.word.place) n.word
  word_of k n at = (are.words.each k n.word (word_here nodes k n at)).1.1

  pub ends_within : (k : ℕ) (n : LatticeNode) → slice_get nodes k ≡ Some n → n.word.end ≤ t.text_length
  ends_within k n at = source.source.are.within n.word.place n.word (word_of k n at)

  pub are_low : AreLow nodes
  are_low k n at =
      let go = source.source.are.go_on n.word.place n.word (word_of k n at) in
      let end = ends_within k n at in
      let short = source.short in
      (omega (arith, go, end, short), omega (arith, end, short))

  pub total_of : (k : ℕ) (n : LatticeNode) → slice_get nodes k ≡ Some n → IsLeastOf (CostsUpTo t.words t.connection n.word) (Some n.total)
  total_of k n at = subst (λ (m : LatticeNode). IsLeastOf (CostsUpTo t.words t.connection m.word) (Some m.total)) (get_or_from_slice_get nodes k n n at) (are.forward_costs k n (slice_get_within nodes k n at))

  pub through_of : (k : ℕ) (n : LatticeNode) → slice_get nodes k ≡ Some n → IsLeastOf (CostsThrough t.words t.connection n.word) n.through
  through_of k n at = subst (λ (m : LatticeNode). IsLeastOf (CostsThrough t.words t.connection m.word) m.through) (get_or_from_slice_get nodes k n n at) (are.through k n (slice_get_within nodes k n at))

  -- ---- ids

  pub may_follow : (j k : ℕ) (m n : LatticeNode) → slice_get nodes j ≡ Some m → slice_get nodes k ≡ Some n → t.is_pair m.word.right n.word.left
  may_follow j k m n at_m at_n = (source.word_follows n.word.place n.word (word_of k n at_n)).after_word m.word.place m.word (word_of j m at_m)

  pub may_begin : (k : ℕ) (n : LatticeNode) → slice_get nodes k ≡ Some n → t.is_pair 0 n.word.left
  may_begin k n at = (source.word_follows n.word.place n.word (word_of k n at)).after_bos

  pub may_end : (k : ℕ) (n : LatticeNode) → slice_get nodes k ≡ Some n → t.is_pair n.word.right 0
  may_end k n at = source.eos_follows.after_word n.word.place n.word (word_of k n at)

  -- ---- costs

  small_through : (k : ℕ) (n : LatticeNode) (o : Option ℤ) → slice_get nodes k ≡ Some n → IsLeastOf (CostsThrough t.words t.connection n.word) o → IsSmallIfSome o
  small_through k n None at h = tt
  small_through k n (Some c) at h =
      let parts = parts_through t.words t.connection t.text_length source.source.are n.word c h.0 in
      let a = small_up_to t.words t.connection t.text_length source.source n.word parts.0 source.short (ends_within k n at) parts.2 in
      let b = small_on t.words t.connection t.text_length source.source n.word parts.1 source.short (ends_within k n at) parts.3 in
      let sum = parts.4 in
      (omega (arith, ints, a.0, b.0, sum), omega (arith, ints, a.1, b.1, sum))

  pub small_of : (k : ℕ) (n : LatticeNode) → slice_get nodes k ≡ Some n → IsSmallNode n
  small_of k n at = record {
    total = small_up_to t.words t.connection t.text_length source.source n.word n.total source.short (ends_within k n at) (total_of k n at).0;
    through = small_through k n n.through at (through_of k n at);
  }
