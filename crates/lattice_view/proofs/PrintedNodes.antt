-- The text of consecutive nodes.
use Rattle.std.proofs.Common.{◌≡◌, ℕ, ◌+◌, ◌≤◌, List, [], ◌∷◌, ◌++◌, Bool, Some, length, drop, sym, ap, ◌∙◌, subst, append_assoc, append-nil, refl, slice_get}
use Rattle.std.proofs.lemmas.List.{drop_all, drop_more}
use Rattle.std.proofs.lemmas.Option.{get_or_from_slice_get, slice_get_within}
use Rattle.viterbi.specs.declared.nodes.lattice_node.LatticeNode.{LatticeNode}
use Rattle.lattice_view.specs.LatticePrinter.MarkedNodes.{Marked}
use Rattle.lattice_view.specs.LatticePrinter.FormattedLattices.{PrintsNodes}

-- the element at an index is the first of the remaining ones
rest_from : {X : Type 0} (xs : List X) (i : ℕ) (x : X) → slice_get xs i ≡ Some x → drop i xs ≡ x ∷ drop (i + 1) xs
rest_from xs i x at = drop_more xs i x (slice_get_within xs i x at) ∙ ap (λ z. z ∷ drop (i + 1) xs) (get_or_from_slice_get xs i x x at)

-- the text of the nodes before an index was appended: together with the text of the remaining nodes
-- it is the text of all
pub record NodesSoFar (Shows : Marked → List ℕ → Type 0) (nodes : List LatticeNode) (on_best : List Bool) (i : ℕ) (old mid : List ℕ) : Type 0 where
  pub so_far : List ℕ
  pub appended : mid ≡ old ++ so_far
  pub with_rest : (more : List ℕ) → PrintsNodes Shows i (drop i nodes) (drop i on_best) more → PrintsNodes Shows 0 nodes on_best (so_far ++ more)

pub node_more : (Shows : Marked → List ℕ → Type 0) (nodes : List LatticeNode) (on_best : List Bool) (i : ℕ) (n : LatticeNode) (b : Bool) (old mid new : List ℕ) → slice_get nodes i ≡ Some n → slice_get on_best i ≡ Some b
    → NodesSoFar Shows nodes on_best i old mid → (shown : List ℕ) × Shows (record { number = i; node = n; is_best = b }) shown × (new ≡ mid ++ shown) → NodesSoFar Shows nodes on_best (i + 1) old new
node_more Shows nodes on_best i n b old mid new at_n at_b before (front, is, e) = record {
  so_far = before.so_far ++ front;
  appended = e ∙ ap (λ (text : List ℕ). text ++ front) before.appended ∙ append_assoc old before.so_far front;
  with_rest = λ more h.
      let both : PrintsNodes Shows i (n ∷ drop (i + 1) nodes) (b ∷ drop (i + 1) on_best) (front ++ more) = (front, more, is, h, refl) in
      let nodes_too : PrintsNodes Shows i (drop i nodes) (b ∷ drop (i + 1) on_best) (front ++ more) =
      subst (λ (ns : List LatticeNode). PrintsNodes Shows i ns (b ∷ drop (i + 1) on_best) (front ++ more)) (sym (rest_from nodes i n at_n)) both in
      let all : PrintsNodes Shows i (drop i nodes) (drop i on_best) (front ++ more) =
      subst (λ (bs : List Bool). PrintsNodes Shows i (drop i nodes) bs (front ++ more)) (sym (rest_from on_best i b at_b)) nodes_too in
      subst (PrintsNodes Shows 0 nodes on_best) (sym (append_assoc before.so_far front more)) (before.with_rest (front ++ more) all);
}

pub all_nodes : (Shows : Marked → List ℕ → Type 0) (nodes : List LatticeNode) (on_best : List Bool) (i : ℕ) (old new : List ℕ) → length nodes ≤ i → NodesSoFar Shows nodes on_best i old new
    → (shown : List ℕ) × PrintsNodes Shows 0 nodes on_best shown × (new ≡ old ++ shown)
all_nodes Shows nodes on_best i old new past before =
    let none : PrintsNodes Shows i (drop i nodes) (drop i on_best) [] = subst (λ (ns : List LatticeNode). PrintsNodes Shows i ns (drop i on_best) []) (sym (drop_all i nodes past)) refl in
    (before.so_far, subst (PrintsNodes Shows 0 nodes on_best) (append-nil before.so_far) (before.with_rest [] none), before.appended)
