-- A word that is interchangeable with the word of a node: the same chain is the best one to it, so
-- the backpointer of that node is right for it too.
use Rattle.std.proofs.Common.{◌≡◌, ℕ, ◌+◌, List, ◌++◌, ◌<◌, ◌≤◌, length, get_or, reverse, Some, refl, sym, ap, ◌∙◌, subst, arith, slice_get}
use Rattle.std.specs.Prelude.{ℤ, ◌+ℤ◌}
use Rattle.std.proofs.lemmas.List.{length-append, length-reverse}
use Rattle.std.proofs.lemmas.Option.{same_Some, slice_get-get_or, slice_get_within}
use Rattle.mj_model.specs.declared.word.Word.{Word}
use Rattle.mj_model.specs.Best.{IsSource}
use Rattle.mj_model.specs.ReversedChains.{IsBestTo, cost_with_next}
use Rattle.mj_model.specs.declared.paths.surface.Surface.{Surface}
use Rattle.viterbi.specs.declared.search.node.Backpointer.{Backpointer}
use Rattle.viterbi.specs.declared.search.node.SurfaceNodes.{SurfaceNodes}
use Rattle.viterbi.specs.declared.search.node.Predecessor.{Predecessor}
use Rattle.viterbi.specs.Search.Interchangeable.{FollowsNext, IsInterchangeable, MatchesNext}
use Rattle.viterbi.specs.Search.Lattice.{IsPredecessor, IsLattice, node_of}
use Rattle.viterbi.specs.Search.Nodes.{Node, stored_node, link_of, node_words}
use Rattle.viterbi.specs.Search.SearchedText.{AreSurfacesAt, SearchedText, words_before}
use Rattle.viterbi.proofs.SurfaceNodeLemmas.{next_word}
use Rattle.viterbi.proofs.Pushed.{Contains_from_get, get_prefix}
use Rattle.viterbi.proofs.WordNumbers.{no_surface, no_word, whole_at, word_at}

module _ (words : ℕ → List Word) (conn : ℕ → ℕ → ℤ) where
  -- the predecessor of a word that is interchangeable with the word of a node
  pub record JoinsAlike (nodes : List Node) (p : ℕ) (w : Word) (b : Backpointer) : Type 0 where
    pub predecessor : Predecessor
    pub is : stored_node w b ≡ node_of w predecessor
    pub predecessors : IsPredecessor words conn nodes p w.left predecessor

  pub predecessors_alike : (nodes : List Node) (p k i : ℕ) (v w : Word) (b : Backpointer) → IsLattice words conn nodes p k → slice_get nodes i ≡ Some (stored_node v b) → v.place ≡ p → IsInterchangeable v w → JoinsAlike nodes p w b
  predecessors_alike nodes p k i v w b l at there alike =
      let best = l.best i (stored_node v b) at in
      let cost = cost_with_next conn best.chain w.left in
      let left = ap (cost_with_next conn best.chain) alike.left in
      let total : b.total ≡ cost +ℤ w.cost = best.total_is ∙ ap (λ (z : ℤ). z +ℤ v.cost) left ∙ ap (λ (z : ℤ). cost +ℤ z) alike.cost in
      record {
        predecessor = record { before = b.before; cost = cost };
        is = ap (λ (z : ℤ). record { word = w; total = z; before = link_of b.before }) total;
        predecessors = record {
          chain = best.chain;
          traced = best.traced;
          best = subst (λ (q : ℕ). IsBestTo words conn best.chain q w.left) there (subst (λ (q : ℕ). IsBestTo words conn best.chain v.place q) alike.left best.best);
          cost_is = refl;
        };
      }

-- the node with this number is that of a word of the position which is interchangeable with a word
pub record IsLikeNode (words : List Word) (backpointers : List Backpointer) (place : ℕ) (w : Word) (number : ℕ) : Type 0 where
  pub word : Word
  pub here : slice_get words number ≡ Some word
  pub within : number < length backpointers
  pub there : word.place ≡ place
  pub alike : IsInterchangeable word w

-- the word of the next surface, as many nodes back as a surface has
word_back : (ws before us fs : List Word) (n i : ℕ) (v : Word) → ws ≡ (before ++ reverse us) ++ reverse fs → slice_get us i ≡ Some v → n + i + 1 + length fs ≡ length ws → slice_get ws n ≡ Some v
word_back ws before us fs n i v is at long =
    let whole = ap length is ∙ length-append (before ++ reverse us) (reverse fs) in
    let own = length-reverse fs in
    let front : n + i + 1 ≡ length (before ++ reverse us) = omega (arith, whole, own, long) in
    ap (λ (xs : List Word). slice_get xs n) is ∙ get_prefix (before ++ reverse us) (reverse fs) n (omega (arith, front)) ∙ next_word (before ++ reverse us) before us n i v refl at front

module _ (t : SearchedText) (place : ℕ) (ss : List Surface) (are : AreSurfacesAt t place ss) (number : ℕ) (within : number < length ss) (alike : MatchesNext t ss number) where
  abbrev its : Surface
  its = get_or ss number no_surface

  own_is : alike.surface ≡ its
  own_is = same_Some alike.surface its (sym alike.here ∙ slice_get-get_or ss number no_surface within)

  next_within : number + 1 < length ss
  next_within = slice_get_within ss (number + 1) alike.next alike.there

  next_is : alike.next ≡ get_or ss (number + 1) no_surface
  next_is = same_Some alike.next (get_or ss (number + 1) no_surface) (sym alike.there ∙ slice_get-get_or ss (number + 1) no_surface next_within)

  own_length : length (t.surface_words alike.surface) ≡ its.count
  own_length = ap (λ (s : Surface). length (t.surface_words s)) own_is ∙ (whole_at t place ss are number no_surface within).count_is

  next_length : length (t.surface_words alike.next) ≡ its.count
  next_length =
      ap (λ (s : Surface). length (t.surface_words s)) next_is ∙ (whole_at t place ss are (number + 1) no_surface next_within).count_is
      ∙ ap (λ (s : Surface). s.count) (sym next_is) ∙ alike.count ∙ ap (λ (s : Surface). s.count) own_is

  module _ (by_surface : List SurfaceNodes) (follows : FollowsNext t ss number by_surface) where
    abbrev words : List Word
    words = node_words t.surface_words by_surface

    split : (before : List Word) × (words ≡ (before ++ reverse (t.surface_words alike.next)) ++ reverse (t.surface_words alike.surface))
    split = follows alike.next alike.surface alike.there alike.here

    -- the nodes are at least those of both surfaces
    pub twice_as_many : its.count + its.count ≤ length words
    twice_as_many =
        let whole = ap length split.1 ∙ length-append (split.0 ++ reverse (t.surface_words alike.next)) (reverse (t.surface_words alike.surface)) in
        let front = length-append split.0 (reverse (t.surface_words alike.next)) in
        let turned = length-reverse (t.surface_words alike.next) in
        let turned_own = length-reverse (t.surface_words alike.surface) in
        let own = own_length in
        let next = next_length in
        omega (arith, whole, front, turned, turned_own, own, next)

    -- so many nodes back is one that is interchangeable with a word
    pub like_node : (source : IsSource t.words t.connection t.text_length) (backpointers : List Backpointer) (i n : ℕ) (w : Word) → i < its.count → slice_get (t.surface_words its) i ≡ Some w → n + i + 1 + its.count ≡ length words → n < length backpointers → IsLikeNode words backpointers place w n
    like_node source backpointers i n w less at long low =
        let own = own_length in
        let next = next_length in
        let v = get_or (t.surface_words alike.next) i no_word in
        let at_v = slice_get-get_or (t.surface_words alike.next) i no_word (omega (arith, less, next)) in
        let at_w : slice_get (t.surface_words alike.surface) i ≡ Some w = ap (λ (s : Surface). slice_get (t.surface_words s) i) own_is ∙ at in
        let at_n = ap (λ (s : Surface). slice_get (t.surface_words s) i) (sym next_is) ∙ at_v in
        let among = word_at t place ss are (number + 1) i no_surface v next_within at_n in
        record {
          word = v;
          here = word_back words split.0 (t.surface_words alike.next) (t.surface_words alike.surface) n i v split.1 at_v (omega (arith, long, own));
          within = low;
          there = source.are.places place v (Contains_from_get (t.words place) (words_before t ss (number + 1) i) v among);
          alike = alike.words i v w at_v at_w;
        }
