-- The least of some costs: of the same ones, of those that a constant was added to, of two kinds
-- together, and of sums.
use Rattle.std.proofs.Common.{◌≡◌, Option, None, Some, ◌⊎◌, inl, inr, sym, subst, arith}
use Rattle.std.specs.Prelude.{ℤ, ◌+ℤ◌}
use Rattle.std.proofs.lemmas.Int.{ints}
use Rattle.viterbi.specs.declared.nodes.cost.ChainCost.{ChainCost}
use Rattle.viterbi.specs.Nodes.Least.{IsLeastOf, IsLesser, number_of}

pub least_same : (P R : ℤ → Type 0) (o : Option ℤ) → ((c : ℤ) → P c → R c) → ((c : ℤ) → R c → P c) → IsLeastOf P o → IsLeastOf R o
least_same P R None to back h = λ c r. h c (back c r)
least_same P R (Some x) to back h = (to x h.0, λ c r. h.1 c (back c r))

pub least_moved : (P Q : ℤ → Type 0) (x y k : ℤ) → y ≡ x +ℤ k → ((c : ℤ) → P c → Q (c +ℤ k)) → ((c : ℤ) → Q c → (a : ℤ) × P a × (c ≡ a +ℤ k)) → IsLeastOf P (Some x) → IsLeastOf Q (Some y)
least_moved P Q x y k e to back h = (
  subst Q (sym e) (to x h.0),
  λ c q.
      let b = back c q in
      let low = h.1 b.0 b.1 in
      let is = b.2 in
      omega (arith, ints, low, is, e),
)

-- the lesser of two is the least of both kinds
pub least_or : (P Q R : ℤ → Type 0) (o : Option ChainCost) (next result : ChainCost) → ((c : ℤ) → P c → R c) → ((c : ℤ) → Q c → R c) → ((c : ℤ) → R c → P c ⊎ Q c)
    → IsLeastOf P (number_of o) → IsLeastOf Q (Some next.cost) → IsLesser o next result → IsLeastOf R (Some result.cost)
least_or P Q R None next result left right back h k l =
    subst (λ (x : ChainCost). IsLeastOf R (Some x.cost)) (sym l) (right next.cost k.0, λ c r. elim (back c r) [ inl p ↦ absurd (h c p) | inr q ↦ k.1 c q ])
least_or P Q R (Some least) next result left right back h k (inl (is, less)) =
    subst (λ (x : ChainCost). IsLeastOf R (Some x.cost)) (sym is)
    (right next.cost k.0, λ c r. elim (back c r) [ inl p ↦ (let low = h.1 c p in omega (arith, ints, low, less)) | inr q ↦ k.1 c q ])
least_or P Q R (Some least) next result left right back h k (inr (is, more)) =
    subst (λ (x : ChainCost). IsLeastOf R (Some x.cost)) (sym is)
    (left least.cost h.0, λ c r. elim (back c r) [ inl p ↦ h.1 c p | inr q ↦ (let low = k.1 c q in omega (arith, ints, low, more)) ])

-- a number more
abbrev pub plus : ℤ → Option ℤ → Option ℤ
plus x None = None
plus x (Some y) = Some (x +ℤ y)

pub least_sum : (P Q R : ℤ → Type 0) (x : ℤ) (o : Option ℤ) → ((a b : ℤ) → P a → Q b → R (a +ℤ b)) → ((c : ℤ) → R c → (a : ℤ) × (b : ℤ) × P a × Q b × (c ≡ a +ℤ b))
    → IsLeastOf P (Some x) → IsLeastOf Q o → IsLeastOf R (plus x o)
least_sum P Q R x None to back h k = λ c r. let b = back c r in k b.1 b.3
least_sum P Q R x (Some y) to back h k = (
  to x y h.0 k.0,
  λ c r.
      let b = back c r in
      let low = h.1 b.0 b.2 in
      let also = k.1 b.1 b.3 in
      let is = b.4 in
      omega (arith, ints, low, also, is),
)
