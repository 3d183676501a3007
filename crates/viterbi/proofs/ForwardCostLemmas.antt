-- Forward costs, as they are propagated. The forward cost of a word is the least cost of the chains
-- that end with it. Its predecessor comes earlier in the list, so once all earlier words were
-- propagated, it is known. The words that may follow a word are consecutive in the list, since the
-- list is ordered by position.
use Rattle.std.proofs.Common.{◌≡◌, ℕ, ◌+◌, ◌<◌, ◌≤◌, List, [], ◌∷◌, set, Contains, Option, None, Some, ◌⊎◌, inl, inr, refl, sym, ap, ◌∙◌, subst, arith, slice_get}
use Rattle.std.specs.Prelude.{ℤ, pos, ◌+ℤ◌}
use Rattle.std.proofs.lemmas.Bool.{cases_lt}
use Rattle.std.proofs.lemmas.Int.{ints}
use Rattle.std.proofs.lemmas.List.{length-set}
use Rattle.std.proofs.lemmas.Option.{same_Some}
use Rattle.mj_model.specs.declared.word.Word.{Word}
use Rattle.mj_model.specs.Best.{IsSource}
use Rattle.mj_model.specs.ReversedChains.{IsChainTo, cost_to}
use Rattle.viterbi.proofs.Pushed.{get_from_Contains}
use Rattle.viterbi.specs.declared.nodes.cost.ChainCost.{ChainCost}
use Rattle.viterbi.specs.Nodes.LatticeNodes.{AreReachableBefore, CostsUpTo, IsReached}
use Rattle.viterbi.specs.Nodes.Least.{IsLeastOf, IsLesser, number_of}
use Rattle.viterbi.specs.Nodes.ReachableWords.{IsFirstFrom}
use Rattle.viterbi.specs.Nodes.ForwardCosts.{ArePropagated, CostsUpToBelow, HeadIsBelow}
use Rattle.viterbi.proofs.LeastLemmas.{least_moved, least_or, least_same}
use Rattle.viterbi.proofs.Lists.{get_written}

-- ---- heads of chains

pub none_below : (ws vs : List Word) → HeadIsBelow ws 0 vs → vs ≡ []
none_below ws [] h = refl
none_below ws (v ∷ vs) h = absurd (let l = h.1 in omega (arith, l))

pub below_more : (ws : List Word) (m n : ℕ) (vs : List Word) → m ≤ n → HeadIsBelow ws m vs → HeadIsBelow ws n vs
below_more ws m n [] le h = tt
below_more ws m n (v ∷ vs) le h = (h.0, (let l = h.1 in omega (arith, l, le)), h.2)

-- with one more word: as before, or that word is at the head
pub below_cases : (ws : List Word) (n : ℕ) (u : Word) (vs : List Word) → slice_get ws n ≡ Some u → HeadIsBelow ws (n + 1) vs → HeadIsBelow ws n vs ⊎ ((rest : List Word) × (vs ≡ u ∷ rest))
below_cases ws n u [] at h = inl tt
below_cases ws n u (v ∷ vs) at h = elim (cases_lt h.0 n) [
  | inl less ↦ inl (h.0, less, h.2)
  | inr more ↦
      let l = h.1 in
      let same : n ≡ h.0 = omega (arith, l, more) in
      let is : v ≡ u = same_Some v u (sym h.2 ∙ ap (slice_get ws) (sym same) ∙ at) in
      inr (vs, ap (λ (x : Word). x ∷ vs) is)
]

module _ (words : ℕ → List Word) (conn : ℕ → ℕ → ℤ) (len : ℕ) (source : IsSource words conn len) (ws : List Word) (r : AreReachableBefore words len ws) where
  -- ---- words in the list

  pub word_there : (i : ℕ) (w : Word) → slice_get ws i ≡ Some w → Contains (words w.place) w
  word_there i w at = (r.each i w at).1.1

  pub word_end : (i : ℕ) (w : Word) → slice_get ws i ≡ Some w → w.end ≤ len
  word_end i w at = source.are.within w.place w (word_there i w at)

  -- a chain's last word is in the list
  pub last_there : (v : Word) (vs : List Word) (to : ℕ) → IsChainTo words (v ∷ vs) to → (k : ℕ) × (slice_get ws k ≡ Some v)
  last_there v vs to h =
      let go = source.are.go_on v.place v h.1 in
      let end = source.are.within v.place v h.1 in
      get_from_Contains ws v (r.all v (vs, (refl, h.1, h.2)) (omega (arith, go, end)))

  -- a word of an earlier position comes earlier
  pub appears_earlier : (k i : ℕ) (v w : Word) → slice_get ws k ≡ Some v → slice_get ws i ≡ Some w → v.place < w.place → k < i
  appears_earlier k i v w at_v at_w low = elim (cases_lt k i) [
    | inl less ↦ less
    | inr more ↦ elim (cases_lt i k) [
      | inl after ↦ elim (r.in_order i k w v after at_w at_v) [
        | inl a ↦ omega (arith, a, low)
        | inr b ↦ (let e = b.0 in omega (arith, e, low))
      ]
      | inr le ↦
          let same : i ≡ k = omega (arith, more, le) in
          let is : v ≡ w = same_Some v w (sym at_v ∙ ap (slice_get ws) (sym same) ∙ at_w) in
          let e = ap (λ (x : Word). x.place) is in
          omega (arith, e, low)
    ]
  ]

  -- the predecessor of a word comes before it in the list
  pub head_below : (i : ℕ) (w : Word) (us : List Word) → slice_get ws i ≡ Some w → IsChainTo words us w.place → HeadIsBelow ws i us
  head_below i w [] at h = tt
  head_below i w (v ∷ vs) at h =
      let go = source.are.go_on v.place v h.1 in
      let f = last_there v vs w.place h in
      (f.0, appears_earlier f.0 i v w f.1 at (omega (arith, go, h.0)), f.1)

  -- so the forward cost of a word is known once those of the words before it were propagated
  pub total_known : (i n : ℕ) (w : Word) (o : Option ℤ) → slice_get ws i ≡ Some w → i ≤ n → IsLeastOf (CostsUpToBelow words conn ws n w) o → IsLeastOf (CostsUpTo words conn w) o
  total_known i n w o at le h =
      least_same (CostsUpToBelow words conn ws n w) (CostsUpTo words conn w) o
      (λ c p. (p.0, p.1, p.3))
      (λ c q. (q.0, q.1, below_more ws i n q.0 le (head_below i w q.0 at q.1.2), q.2))
      h

  -- it is some cost
  pub some_total : (w : Word) (o : Option ChainCost) → IsReached words w → IsLeastOf (CostsUpTo words conn w) (number_of o) → (x : ChainCost) × (o ≡ Some x)
  some_total w None b h = absurd (h (cost_to conn (w ∷ b.0)) (b.0, b.1, refl))
  some_total w (Some x) b h = (x, refl)

  -- ---- the words after BOS

  -- what a chain of one word costs
  at_bos : (w : Word) (c : ℤ) (before : List Word) → IsChainTo words (w ∷ before) w.end → before ≡ [] → c ≡ cost_to conn (w ∷ before) → (w.place ≡ 0) × (c ≡ (pos 0 +ℤ conn 0 w.left) +ℤ w.cost)
  at_bos w c before h none e = (
    subst (λ (us : List Word). IsChainTo words us w.place) none h.2,
    e ∙ ap (λ (us : List Word). cost_to conn (w ∷ us)) none,
  )

  pub started_some : (i : ℕ) (w : Word) (x : ℤ) → slice_get ws i ≡ Some w → w.place ≡ 0 → x ≡ (pos 0 +ℤ conn 0 w.left) +ℤ w.cost → IsLeastOf (CostsUpToBelow words conn ws 0 w) (Some x)
  started_some i w x at first e = (
    ([], (refl, word_there i w at, first), tt, e),
    λ c p.
        let b = (at_bos w c p.0 p.1 (none_below ws p.0 p.2) p.3).1 in
        omega (arith, ints, b, e),
  )

  pub started_none : (w : Word) → (w.place ≡ 0 → ⊥) → IsLeastOf (CostsUpToBelow words conn ws 0 w) None
  started_none w other = λ c p. other (at_bos w c p.0 p.1 (none_below ws p.0 p.2) p.3).0

  -- ---- one forward cost is propagated

  module _ (n : ℕ) (u : Word) (at : slice_get ws n ≡ Some u) where
    -- to no word of another position than its end
    pub not_to : (w : Word) (o : Option ℤ) → (u.end ≡ w.place → ⊥) → IsLeastOf (CostsUpToBelow words conn ws n w) o → IsLeastOf (CostsUpToBelow words conn ws (n + 1) w) o
    not_to w o other h =
        least_same (CostsUpToBelow words conn ws n w) (CostsUpToBelow words conn ws (n + 1) w) o
        (λ c p. (p.0, p.1, below_more ws n (n + 1) p.0 (omega arith) p.2, p.3))
        (λ c q. elim (below_cases ws n u q.0 at q.2) [
          | inl b ↦ (q.0, q.1, b, q.3)
          | inr f ↦ (let on = subst (λ (us : List Word). IsChainTo words us w.place) f.1 q.1.2 in absurd (other on.0))
        ])
        h

    -- what a chain costs that ends with both words
    abbrev CostsWith : Word → ℤ → Type 0
    CostsWith w c = (us : List Word) × IsChainTo words (u ∷ us) u.end × (c ≡ cost_to conn (w ∷ u ∷ us))

    least_with : (w : Word) (x y : ℤ) → y ≡ (x +ℤ conn u.right w.left) +ℤ w.cost → IsLeastOf (CostsUpTo words conn u) (Some x) → IsLeastOf (CostsWith w) (Some y)
    least_with w x y e h =
        least_moved (CostsUpTo words conn u) (CostsWith w) x y (conn u.right w.left +ℤ w.cost)
        (omega (arith, ints, e))
        (λ c p. (p.0, p.1, (let is = p.2 in omega (arith, ints, is))))
        (λ c q. (cost_to conn (u ∷ q.0), (q.0, q.1, refl), (let is = q.2 in omega (arith, ints, is))))
        h

    pub handed_to : (k : ℕ) (w : Word) (total : ℤ) (o : Option ChainCost) (found result : ChainCost) → slice_get ws k ≡ Some w → w.place ≡ u.end → IsLeastOf (CostsUpTo words conn u) (Some total)
        → found.cost ≡ (total +ℤ conn u.right w.left) +ℤ w.cost → IsLesser o found result → IsLeastOf (CostsUpToBelow words conn ws n w) (number_of o) → IsLeastOf (CostsUpToBelow words conn ws (n + 1) w) (Some result.cost)
    handed_to k w total o found result there follows known is lesser h =
        least_or (CostsUpToBelow words conn ws n w) (CostsWith w) (CostsUpToBelow words conn ws (n + 1) w) o found result
        (λ c p. (p.0, p.1, below_more ws n (n + 1) p.0 (omega arith) p.2, p.3))
        (λ c q. (u ∷ q.0, (refl, word_there k w there, (sym follows, q.1.1, q.1.2)), (n, omega arith, at), q.2))
        (λ c p. elim (below_cases ws n u p.0 at p.2) [
          | inl b ↦ inl (p.0, p.1, b, p.3)
          | inr f ↦
              (let on = subst (λ (us : List Word). IsChainTo words us w.place) f.1 p.1.2 in
              inr (f.0, (refl, on.1, on.2), p.3 ∙ ap (λ (us : List Word). cost_to conn (w ∷ us)) f.1))
        ])
        h (least_with w total found.cost is known) lesser

    -- ---- in the list of forward costs

    -- the first word that may follow it
    pub passed_from : (forward_costs : List (Option ChainCost)) (first : ℕ) → IsFirstFrom ws u.end first → ArePropagated words conn ws n 0 forward_costs → ArePropagated words conn ws n first forward_costs
    passed_from forward_costs first f a = record {
      long = a.long;
      past = λ k w o less at_w at_o. not_to w (number_of o) (λ e. let l = f.before k w at_w less in omega (arith, e, l)) (a.rest k w o (omega arith) at_w at_o);
      rest = λ k w o low at_w at_o. a.rest k w o (omega arith) at_w at_o;
    }

    -- one of them
    pub passed_to : (forward_costs : List (Option ChainCost)) (k : ℕ) (w : Word) (total : ℤ) (o : Option ChainCost) (found result : ChainCost) → slice_get ws k ≡ Some w → slice_get forward_costs k ≡ Some o → w.place ≡ u.end
        → IsLeastOf (CostsUpTo words conn u) (Some total) → found.cost ≡ (total +ℤ conn u.right w.left) +ℤ w.cost → IsLesser o found result
        → ArePropagated words conn ws n k forward_costs → ArePropagated words conn ws n (k + 1) (set forward_costs k (Some result))
    passed_to forward_costs k w total o found result at_w at_o follows known is lesser a = record {
      long = length-set forward_costs k (Some result) ∙ a.long;
      past = λ j v p less at_v at_p. elim (get_written forward_costs k j (Some result) p at_p) [
        | inl new ↦
            (let same : w ≡ v = same_Some w v (sym at_w ∙ ap (slice_get ws) (sym new.0) ∙ at_v) in
            subst (λ (q : Option ChainCost). IsLeastOf (CostsUpToBelow words conn ws (n + 1) v) (number_of q)) new.1
            (subst (λ (x : Word). IsLeastOf (CostsUpToBelow words conn ws (n + 1) x) (Some result.cost)) same
            (handed_to k w total o found result at_w follows known is lesser (a.rest k w o (omega arith) at_w at_o))))
        | inr old ↦ (let other = old.0 in a.past j v p (omega (arith, less, other)) at_v old.1)
      ];
      rest = λ j v p low at_v at_p. elim (get_written forward_costs k j (Some result) p at_p) [
        | inl new ↦ (let e = new.0 in absurd (omega (arith, e, low)))
        | inr old ↦ a.rest j v p (omega (arith, low)) at_v old.1
      ];
    }

    -- all of them
    pub passed_all : (forward_costs : List (Option ChainCost)) (next_ones : ℕ) → IsFirstFrom ws (u.end + 1) next_ones → ArePropagated words conn ws n next_ones forward_costs → ArePropagated words conn ws (n + 1) 0 forward_costs
    passed_all forward_costs next_ones f a = record {
      long = a.long;
      past = λ k w o less at_w at_o. absurd (omega (arith, less));
      rest = λ k w o low at_w at_o. elim (cases_lt k next_ones) [
        | inl less ↦ a.past k w o less at_w at_o
        | inr more ↦ not_to w (number_of o) (λ e. let l = f.from k w at_w more in omega (arith, e, l)) (a.rest k w o more at_w at_o)
      ];
    }
