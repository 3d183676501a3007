-- The numbers of the nodes of the best path, from the last one back, and their words.
use Rattle.std.proofs.Common.{◌≡◌, ℕ, zero, suc, ◌<◌, List, [], ◌∷◌, ◌++◌, get_or, length, reverse, Some, None, Option, refl, sym, ap, ◌∙◌, subst, arith, slice_get}
use Rattle.std.specs.List.{filter_map, cons_option}
use Rattle.std.proofs.lemmas.List.{append_assoc, append-nil, reverse-append}
use Rattle.std.proofs.lemmas.List.Elements.{filter_map-append}
use Rattle.std.proofs.lemmas.Option.{same_Some, slice_get-get_or, slice_get_within}
use Rattle.mj_model.specs.declared.word.Word.{Word}
use Rattle.mj_model.specs.declared.paths.surface.Surface.{Surface}
use Rattle.viterbi.specs.declared.search.node.Backpointer.{Backpointer}
use Rattle.viterbi.specs.declared.search.node.SurfaceNodes.{SurfaceNodes}
use Rattle.viterbi.specs.Search.BestNodes.{AreNodesFrom, AreBacktraceNumbers, StoredLinksGoBack, words_of_numbers}
use Rattle.viterbi.specs.Search.Lattice.{IsBelow, LinksGoBack, IsBacktrace}
use Rattle.viterbi.specs.Search.Nodes.{AreSurfaceNodes, Node, stored_node, link_of, node_words, nodes_of}
use Rattle.viterbi.proofs.SurfaceNodeLemmas.{node_here, node_parts}
use Rattle.viterbi.proofs.WordNumbers.{no_word}

-- ---- the backtrace

-- the numbers so far, with those that the link leads to, are those that the first link leads to
abbrev pub NumbersOn : List Backpointer → Option ℕ → List ℕ → Option ℕ → Type 0
NumbersOn backpointers from js link = (ks : List ℕ) → AreBacktraceNumbers backpointers link ks → AreBacktraceNumbers backpointers from (js ++ ks)

-- one step of the backtrace
pub numbers_more : (backpointers : List Backpointer) (from : Option ℕ) (js : List ℕ) (i : ℕ) (b : Backpointer) → slice_get backpointers i ≡ Some b → NumbersOn backpointers from js (Some i) → NumbersOn backpointers from (js ++ i ∷ []) (link_of b.before)
numbers_more backpointers from js i b at h ks n = rw append_assoc (h (i ∷ ks) (refl, (b, at, n)))

pub numbers_all : (backpointers : List Backpointer) (from : Option ℕ) (js : List ℕ) → NumbersOn backpointers from js None → AreBacktraceNumbers backpointers from js
numbers_all backpointers from js h = rw append-nil at (h [] tt)

-- each node's predecessor has a lower number, as the backpointers are stored
pub links_kept : (ws : List Word) (backpointers : List Backpointer) → length backpointers ≡ length ws → LinksGoBack (nodes_of ws backpointers) → StoredLinksGoBack backpointers
links_kept ws backpointers all links i b at =
    let w = slice_get_within backpointers i b at in
    let v = get_or ws i no_word in
    links i (stored_node v b) (node_here ws backpointers i v b (slice_get-get_or ws i no_word (omega (arith, w, all))) at)

-- each number is less than what the link is below
numbers_below : (backpointers : List Backpointer) → StoredLinksGoBack backpointers → (link : Option ℕ) (k : ℕ) (js : List ℕ) → IsBelow link k → AreBacktraceNumbers backpointers link js → (a i : ℕ) → slice_get js a ≡ Some i → i < k
numbers_below backpointers back None k [] below n a i at = absurd (cc)
numbers_below backpointers back None k (j ∷ js) below n a i at = absurd n
numbers_below backpointers back (Some m) k [] below n a i at = absurd n
numbers_below backpointers back (Some m) k (j ∷ js) below n zero i at =
    let same = same_Some j i at in
    let is = n.0 in
    omega (arith, same, is, below)
numbers_below backpointers back (Some m) k (j ∷ js) below n (suc a) i at =
    let less = numbers_below backpointers back (link_of n.1.0.before) m js (back m n.1.0 n.1.1) n.1.2 a i at in
    omega (arith, less, below)

-- and less than those before it
numbers_fall : (backpointers : List Backpointer) → StoredLinksGoBack backpointers → (link : Option ℕ) (js : List ℕ) → AreBacktraceNumbers backpointers link js → (a b i j : ℕ) → a < b → slice_get js a ≡ Some i → slice_get js b ≡ Some j → j < i
numbers_fall backpointers back None [] n a b i j less at_a at_b = absurd (cc)
numbers_fall backpointers back None (x ∷ js) n a b i j less at_a at_b = absurd n
numbers_fall backpointers back (Some m) [] n a b i j less at_a at_b = absurd n
numbers_fall backpointers back (Some m) (x ∷ js) n zero zero i j less at_a at_b = absurd (omega (arith, less))
numbers_fall backpointers back (Some m) (x ∷ js) n (suc a) zero i j less at_a at_b = absurd (omega (arith, less))
numbers_fall backpointers back (Some m) (x ∷ js) n zero (suc b) i j less at_a at_b =
    let low = numbers_below backpointers back (link_of n.1.0.before) m js (back m n.1.0 n.1.1) n.1.2 b j at_b in
    let same = same_Some x i at_a in
    let is = n.0 in
    omega (arith, low, same, is)
numbers_fall backpointers back (Some m) (x ∷ js) n (suc a) (suc b) i j less at_a at_b = numbers_fall backpointers back (link_of n.1.0.before) js n.1.2 a b i j (omega (arith, less)) at_a at_b

-- so they are those of nodes, the last node first
pub nodes_from_start : (f : Surface → List Word) (by_surface : List SurfaceNodes) (backpointers : List Backpointer) (link : Option ℕ) (js : List ℕ) → AreSurfaceNodes f by_surface → length backpointers ≡ length (node_words f by_surface) → StoredLinksGoBack backpointers → IsBelow link (length backpointers)
    → AreBacktraceNumbers backpointers link js → AreNodesFrom f by_surface 0 js
nodes_from_start f by_surface backpointers link js are all back below n = record {
  groups_are = are;
  falling = numbers_fall backpointers back link js n;
  within = λ a i at. let low = numbers_below backpointers back link (length backpointers) js below n a i at in omega (arith, low, all);
  from_first = λ a i at. omega arith;
}

-- ---- the words

-- the words of these numbers are those that the link leads to
pub numbers_traced : (ws : List Word) (backpointers : List Backpointer) (link : Option ℕ) (vs : List Word) (js : List ℕ) → IsBacktrace (nodes_of ws backpointers) link vs → AreBacktraceNumbers backpointers link js → filter_map (slice_get ws) js ≡ vs
numbers_traced ws backpointers None [] [] t n = refl
numbers_traced ws backpointers None [] (j ∷ js) t n = absurd n
numbers_traced ws backpointers None (v ∷ vs) js t n = absurd t
numbers_traced ws backpointers (Some i) [] js t n = absurd t
numbers_traced ws backpointers (Some i) (v ∷ vs) [] t n = absurd n
numbers_traced ws backpointers (Some i) (v ∷ vs) (j ∷ js) t n =
    let p = node_parts ws backpointers i t.0 t.1 in
    let same : p.back ≡ n.1.0 = same_Some p.back n.1.0 (sym p.back_at ∙ n.1.1) in
    let before : t.0.before ≡ link_of n.1.0.before = ap (λ (m : Node). m.before) (sym p.is) ∙ ap (λ (b : Backpointer). link_of b.before) same in
    let word : p.word ≡ v = ap (λ (m : Node). m.word) p.is ∙ t.2 in
    let here : slice_get ws j ≡ Some v = ap (slice_get ws) n.0 ∙ p.word_at ∙ ap Some word in
    let rest = numbers_traced ws backpointers (link_of n.1.0.before) vs js (subst (λ (o : Option ℕ). IsBacktrace (nodes_of ws backpointers) o vs) before t.3) n.1.2 in
    ap (λ (o : Option Word). cons_option o (filter_map (slice_get ws) js)) here ∙ ap (λ (us : List Word). v ∷ us) rest

-- the last number is that of the next word
pub next_of_numbers : (ws : List Word) (js : List ℕ) (m : ℕ) (w : Word) → slice_get ws m ≡ Some w → words_of_numbers ws (js ++ m ∷ []) ≡ w ∷ words_of_numbers ws js
next_of_numbers ws js m w at =
    let one : filter_map (slice_get ws) (m ∷ []) ≡ w ∷ [] = ap (λ (o : Option Word). cons_option o []) at in
    ap reverse (filter_map-append (slice_get ws) js (m ∷ []) ∙ ap (λ (us : List Word). filter_map (slice_get ws) js ++ us) one) ∙ reverse-append (filter_map (slice_get ws) js) (w ∷ [])
