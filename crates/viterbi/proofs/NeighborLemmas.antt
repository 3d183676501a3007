-- What is known of each node with neighbors.
use Rattle.std.proofs.Common.{◌≡◌, ℕ, List, true, false, Contains, Option, Some, refl, ap, ◌∙◌, subst, slice_get}
use Rattle.std.specs.Prelude.{ℤ}
use Rattle.std.specs.Option.{option_map}
use Rattle.std.proofs.lemmas.Option.{get_or_from_slice_get, slice_get-map, slice_get_within}
use Rattle.mj_model.specs.declared.word.Word.{Word}
use Rattle.viterbi.specs.declared.nodes.lattice_node.LatticeNode.{LatticeNode}
use Rattle.viterbi.specs.Nodes.LatticeNodes.{CostsThrough}
use Rattle.viterbi.specs.Nodes.Least.{IsLeastOf}
use Rattle.viterbi.specs.Rivals.RivalsState.{AreWithNeighbors}
use Rattle.viterbi.specs.declared.rivals.nodes_with_neighbors.NodesWithNeighbors.{NodesWithNeighbors}

module _ (words : ℕ → List Word) (conn : ℕ → ℕ → ℤ) (len : ℕ) (best : List Word) (linked : NodesWithNeighbors) (are : AreWithNeighbors words conn len best linked) where
  pub word_at : (i : ℕ) (n : LatticeNode) → slice_get linked.nodes.items i ≡ Some n → Contains (words n.word.place) n.word
  word_at i n at =
      let word = λ (x : LatticeNode). x.word in
      (are.lattice.reached.each i n.word (slice_get-map word linked.nodes.items i ∙ ap (option_map word) at)).1.1

  pub through_at : (i : ℕ) (n : LatticeNode) (o : Option ℤ) → slice_get linked.nodes.items i ≡ Some n → n.through ≡ o → IsLeastOf (CostsThrough words conn n.word) o
  through_at i n o at through =
      let least = subst (λ (m : LatticeNode). IsLeastOf (CostsThrough words conn m.word) m.through) (get_or_from_slice_get linked.nodes.items i n n at) (are.lattice.through i n (slice_get_within linked.nodes.items i n at)) in
      subst (IsLeastOf (CostsThrough words conn n.word)) through least

  pub on_best_there : (k : ℕ) (n : LatticeNode) → slice_get linked.nodes.items k ≡ Some n → slice_get linked.on_best.items k ≡ Some true → Contains best n.word
  on_best_there k n at on = (are.on_best.each k n true at on).0 refl

  pub off_best : (k : ℕ) (n : LatticeNode) → slice_get linked.nodes.items k ≡ Some n → slice_get linked.on_best.items k ≡ Some false → Contains best n.word → ⊥
  off_best k n at off has = let e = (are.on_best.each k n false at off).1 has in absurd (cc)
