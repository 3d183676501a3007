-- The end nodes that are left after pruning: the first of least cost is that of all end nodes, for
-- any left id.
--
-- The cost of an end node before a following word is its forward cost plus the connection cost of
-- its right id and the word's left id. An end node that replaces another one has the same right id
-- and no greater forward cost. So it costs no more before the word either, and has no higher rank
-- if the costs are equal.
use Rattle.std.proofs.Common.{◌≡◌, ℕ, ◌<◌, ◌≤◌, List, [], ◌∷◌, ◌++◌, All, length, get_or, ◌⊎◌, inl, inr, refl, ap, ◌∙◌, subst, arith, pos}
use Rattle.std.specs.Prelude.{ℤ, ◌+ℤ◌, ◌<ℤ◌}
use Rattle.std.proofs.lemmas.Int.{ints}
use Rattle.std.proofs.lemmas.Bool.{cases_lt}
use Rattle.std.proofs.lemmas.Option.{slice_get_within, get_or_from_slice_get, slice_get-get_or}
use Rattle.viterbi.specs.declared.search.node.EndNode.{EndNode}
use Rattle.viterbi.specs.declared.search.node.Predecessor.{Predecessor}
use Rattle.viterbi.specs.Search.EndNodes.{IsLeast, end_cost}
use Rattle.viterbi.specs.Search.Nodes.{Node}
use Rattle.viterbi.specs.Search.PrunedEndNodes.{AreBestEndNodes, ArePrunedFrom, Supersedes}
use Rattle.viterbi.proofs.EndNodeLemmas.{ends_past}

abbrev pub no_end : EndNode
no_end = record { total = pos 0; before = 0; right = 0 }

-- few end nodes are all kept
pub all_left : (ends : List EndNode) → ArePrunedFrom ends ends
all_left ends = record {
  rank = λ r. r;
  each = λ r e at. at;
  rising = λ a b less within. less;
  served = λ i x at. (i, x, at, record { right = refl; cost = inr (refl, omega arith) });
}

-- an end node that replaces another one costs no more before a following word either
served_cost : (conn : ℕ → ℕ → ℤ) (id rank other : ℕ) (e x : EndNode) → Supersedes rank e other x → (end_cost conn id e <ℤ end_cost conn id x) ⊎ ((end_cost conn id e ≡ end_cost conn id x) × (rank ≤ other))
served_cost conn id rank other e x s =
    let same : conn e.right id ≡ conn x.right id = ap (λ (r : ℕ). conn r id) s.right in
    elim s.cost [ inl less ↦ inl (omega (arith, ints, same, less)) | inr equal ↦ inr (ap (λ (z : ℤ). z +ℤ conn e.right id) equal.0 ∙ ap (λ (z : ℤ). x.total +ℤ z) same, equal.1) ]

-- no worse than what is no worse
no_worse : (a b c : ℤ) (i j k : ℕ) → (a <ℤ b) ⊎ ((a ≡ b) × (i ≤ j)) → (b <ℤ c) ⊎ ((b ≡ c) × (j ≤ k)) → (a <ℤ c) ⊎ ((a ≡ c) × (i ≤ k))
no_worse a b c i j k (inl less) (inl more) = inl (omega (arith, ints, less, more))
no_worse a b c i j k (inl less) (inr (same, le)) = inl (omega (arith, ints, less, same))
no_worse a b c i j k (inr (same, le)) (inl less) = inl (omega (arith, ints, same, less))
no_worse a b c i j k (inr (same, le)) (inr (equal, more)) = inr (same ∙ equal, omega (arith, le, more))

module _ (all ends : List EndNode) (left : ArePrunedFrom all ends) where
  -- ranks do not fall
  ranks_rise : (a b : ℕ) → a ≤ b → b < length ends → left.rank a ≤ left.rank b
  ranks_rise a b le within = elim (cases_lt a b) [
    | inl less ↦ let rise = left.rising a b less within in omega (arith, rise)
    | inr more ↦
        let same : a ≡ b = omega (arith, le, more) in
        let equal = ap left.rank same in
        omega (arith, equal)
  ]

  pub least_left : (conn : ℕ → ℕ → ℤ) (id : ℕ) (j : Predecessor) → IsLeast conn ends id j → IsLeast conn all id j
  least_left conn id j best_predecessor = record {
    rank = left.rank best_predecessor.rank;
    end = best_predecessor.end;
    here = left.each best_predecessor.rank best_predecessor.end best_predecessor.here;
    before_is = best_predecessor.before_is;
    cost_is = best_predecessor.cost_is;
    holds = λ i x at.
        let s = left.served i x at in
        let cost = served_cost conn id (left.rank s.0) i s.1 x s.3 in
        let first : (j.cost <ℤ end_cost conn id s.1) ⊎ ((j.cost ≡ end_cost conn id s.1) × (left.rank best_predecessor.rank ≤ left.rank s.0)) =
        elim (best_predecessor.holds s.0 s.1 s.2) [ inl less ↦ inl less | inr same ↦ inr (same.0, ranks_rise best_predecessor.rank s.0 same.1 (slice_get_within ends s.0 s.1 s.2)) ] in
        no_worse j.cost (end_cost conn id s.1) (end_cost conn id x) (left.rank best_predecessor.rank) (left.rank s.0) i first cost;
  }

  -- what holds of all end nodes holds of those that are left
  pub holds_left : (P : EndNode → Type 0) → All P all → All P ends
  holds_left P holds i d within =
      let at = left.each i (get_or ends i d) (slice_get-get_or ends i d within) in
      subst P (get_or_from_slice_get all (left.rank i) (get_or ends i d) d at) (holds (left.rank i) d (slice_get_within all (left.rank i) (get_or ends i d) at))

  -- some are left of some
  pub some_left : 0 < length all → 0 < length ends
  some_left some =
      let s = left.served 0 (get_or all 0 no_end) (slice_get-get_or all 0 no_end some) in
      let within = slice_get_within ends s.0 s.1 s.2 in
      omega (arith, within)

-- with one more node, which ends later
pub best_ends_past : (nodes : List Node) (place : ℕ) (ends : List EndNode) (y : Node) → place < y.word.end → AreBestEndNodes nodes place ends → AreBestEndNodes (nodes ++ y ∷ []) place ends
best_ends_past nodes place ends y next_ones best = record { all = best.all; are = ends_past nodes place best.all y next_ones best.are; left = best.left }
