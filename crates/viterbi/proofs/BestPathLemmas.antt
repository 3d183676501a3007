-- Costs of nodes. The least cost through a node minus its forward cost is its backward cost. If a
-- node is on the best path, its forward cost is the cost of that path up to it, and the least cost
-- through it is that path's cost.
use Rattle.std.proofs.Common.{◌≡◌, ℕ, List, ◌∷◌, Contains, None, Some, inl, inr, refl, ap, ◌∙◌, subst, arith}
use Rattle.std.specs.Prelude.{ℤ, ◌+ℤ◌, ◌-ℤ◌, ◌≤ℤ◌}
use Rattle.std.proofs.lemmas.Int.{ints}
use Rattle.mj_model.specs.declared.word.Word.{Word}
use Rattle.mj_model.specs.Best.{AreWords, IsBestPath}
use Rattle.mj_model.specs.ReversedChains.{cost_to}
use Rattle.mj_model.specs.Cost.{cost_after, path_cost}
use Rattle.mj_model.specs.Paths.{IsPath}
use Rattle.viterbi.specs.Nodes.LatticeNodes.{CostsThrough, CostsUpTo}
use Rattle.viterbi.specs.Nodes.Least.{IsLeastOf}
use Rattle.viterbi.specs.Nodes.BackwardCosts.{CostsToEos}
use Rattle.viterbi.proofs.PathParts.{parts_through, path_through}
use Rattle.viterbi.proofs.JoinedLemmas.{IsSplit, cost_prefix, split_at}

module _ (words : ℕ → List Word) (conn : ℕ → ℕ → ℤ) (len : ℕ) (are : AreWords words len) where
  module _ (w : Word) (total : ℤ) (up_to : IsLeastOf (CostsUpTo words conn w) (Some total)) where
    pub backward_least : (cost : ℤ) → IsLeastOf (CostsThrough words conn w) (Some cost) → IsLeastOf (CostsToEos words conn w) (Some (cost -ℤ total))
    backward_least cost through =
        let parts = parts_through words conn len are w cost through.0 in
        let a = parts.0 in
        let b = parts.1 in
        let low = up_to.1 a parts.2 in
        let also = through.1 (total +ℤ b) (path_through words conn len are w total b up_to.0 parts.3) in
        let sum = parts.4 in
        let is : b ≡ cost -ℤ total = omega (arith, ints, low, also, sum) in (
          subst (CostsToEos words conn w) is parts.3,
          λ d on. let more = through.1 (total +ℤ d) (path_through words conn len are w total d up_to.0 on) in omega (arith, ints, more),
        )

    pub no_backward : IsLeastOf (CostsThrough words conn w) None → (d : ℤ) → CostsToEos words conn w d → ⊥
    no_backward none d on = none (total +ℤ d) (path_through words conn len are w total d up_to.0 on)

  module _ (best : List Word) (is_best : IsBestPath words conn best) where
    -- no path costs less
    pub best_least : (path : List Word) (to : ℕ) → IsPath words path to → path_cost conn best ≤ℤ path_cost conn path
    best_least path to is = elim (is_best.before_others path to is) [
      | inl same ↦ (let e = ap (path_cost conn) same in omega (arith, ints, e))
      | inr (inl less) ↦ omega (arith, ints, less)
      | inr (inr tie) ↦ (let e = tie.0 in omega (arith, ints, e))
    ]

    module _ (w : Word) (total : ℤ) (up_to : IsLeastOf (CostsUpTo words conn w) (Some total)) (has : Contains best w) where
      pub split : IsSplit words best w is_best.to
      split = split_at words len are best is_best.to w is_best.path.chain has

      abbrev pub prefix_cost : ℤ
      prefix_cost = cost_to conn (w ∷ split.before)

      abbrev pub back_cost : ℤ
      back_cost = cost_after conn w.right split.after

      sum_is : path_cost conn best ≡ prefix_cost +ℤ back_cost
      sum_is = ap (path_cost conn) split.is ∙ cost_prefix conn (w ∷ split.before) split.after

      on : CostsToEos words conn w back_cost
      on = (split.after, is_best.to, split.suffix_chain, is_best.path.longest, refl)

      pub total_on_best : total ≡ prefix_cost
      total_on_best =
          let low = up_to.1 prefix_cost (split.before, split.prefix_chain, refl) in
          let through = path_through words conn len are w total back_cost up_to.0 on in
          let least = best_least through.0 through.1 through.2 in
          let is = through.4 in
          let sum = sum_is in
          omega (arith, ints, low, least, is, sum)

      pub backward_on_best : (cost : ℤ) → IsLeastOf (CostsThrough words conn w) (Some cost) → cost ≡ total +ℤ back_cost
      backward_on_best cost through =
          let low = through.1 (path_cost conn best) (best, is_best.to, is_best.path, has, refl) in
          let path = through.0 in
          let least = best_least path.0 path.1 path.2 in
          let is = path.4 in
          let sum = sum_is in
          let front = total_on_best in
          omega (arith, ints, low, least, is, sum, front)
