-- Each position before a path's end is inside exactly one of its words.
use Rattle.std.proofs.Common.{◌≡◌, ℕ, zero, suc, ◌<◌, ◌≤◌, List, [], ◌∷◌, Some, ◌⊎◌, inl, inr, refl, sym, ap, ◌∙◌, subst, arith, slice_get}
use Rattle.std.proofs.lemmas.Bool.{cases_lt, cases_order}
use Rattle.std.proofs.lemmas.Option.{same_Some}
use Rattle.mj_model.specs.declared.word.Word.{Word}
use Rattle.mj_model.specs.Best.{AreWords}
use Rattle.mj_model.specs.Paths.{IsChain}
use Rattle.viterbi.proofs.Pushed.{Contains_from_get, get_from_Contains}
use Rattle.viterbi.specs.Rivals.Boundaries.{HasBoundariesOrDiffers, NeverBoth}
use Rattle.viterbi.specs.Rivals.Crossing.{Covers, HasBoundariesOf}

-- a word of a list contains a position
abbrev IsCovered : List Word → ℕ → Type 0
IsCovered ws b = (k : ℕ) × (v : Word) × (slice_get ws k ≡ Some v) × Covers v b

module _ (words : ℕ → List Word) (len : ℕ) (are : AreWords words len) where
  covered_from : (ws : List Word) (from to b : ℕ) → IsChain words from ws to → from ≤ b → b < to → IsCovered ws b
  covered_from [] from to b chain low high = absurd (omega (arith, chain, low, high))
  covered_from (w ∷ ws) from to b chain low high = elim (cases_lt b w.end) [
    | inl inside ↦ (let p = are.places from w chain.0 in (0, w, refl, (omega (arith, p, low), inside)))
    | inr past ↦ (let c = covered_from ws w.end to b chain.1 past high in (suc c.0, c.1, c.2, c.3))
  ]

  -- no word of a chain is at a position before it
  not_before : (ws : List Word) (from to k : ℕ) (v : Word) → IsChain words from ws to → slice_get ws k ≡ Some v → from ≤ v.place
  not_before [] from to k v chain at = absurd (cc)
  not_before (w ∷ ws) from to zero v chain at =
      let p = are.places from w chain.0 in
      subst (λ (x : Word). from ≤ x.place) (same_Some w v at) (omega (arith, p))
  not_before (w ∷ ws) from to (suc k) v chain at =
      let low = not_before ws w.end to k v chain.1 at in
      let on = are.go_on from w chain.0 in
      omega (arith, on, low)

  -- two words of a chain that contain a position are one
  one_covers : (ws : List Word) (from to b i j : ℕ) (u v : Word) → IsChain words from ws to → slice_get ws i ≡ Some u → slice_get ws j ≡ Some v → Covers u b → Covers v b → u ≡ v
  one_covers [] from to b i j u v chain at_u at_v over_u over_v = absurd (cc)
  one_covers (w ∷ ws) from to b zero zero u v chain at_u at_v over_u over_v = same_Some u v (sym at_u ∙ at_v)
  one_covers (w ∷ ws) from to b zero (suc j) u v chain at_u at_v over_u over_v =
      let e = ap (λ (x : Word). x.end) (same_Some w u at_u) in
      let low = not_before ws w.end to j v chain.1 at_v in
      let before = over_u.1 in
      let after = over_v.0 in
      absurd (omega (arith, e, low, before, after))
  one_covers (w ∷ ws) from to b (suc i) zero u v chain at_u at_v over_u over_v =
      let e = ap (λ (x : Word). x.end) (same_Some w v at_v) in
      let low = not_before ws w.end to i u chain.1 at_u in
      let before = over_v.1 in
      let after = over_u.0 in
      absurd (omega (arith, e, low, before, after))
  one_covers (w ∷ ws) from to b (suc i) (suc j) u v chain at_u at_v over_u over_v = one_covers ws w.end to b i j u v chain.1 at_u at_v over_u over_v

-- two words have the same boundaries or not
same_or_not : (v w : Word) → HasBoundariesOf v w ⊎ (HasBoundariesOf v w → ⊥)
same_or_not v w = elim (cases_order v.place w.place) [
  | inl place ↦ elim (cases_order v.end w.end) [
    | inl end ↦ inl (place, end)
    | inr other ↦ inr (λ same. let e = same.1 in elim other [ inl less ↦ omega (arith, e, less) | inr more ↦ omega (arith, e, more) ])
  ]
  | inr other ↦ inr (λ same. let p = same.0 in elim other [ inl less ↦ omega (arith, p, less) | inr more ↦ omega (arith, p, more) ])
]

pub either : HasBoundariesOrDiffers
either words len are path to is w high =
    let c = covered_from words len are path 0 to w.place is.chain (omega arith) high in
    let has = Contains_from_get path c.0 c.1 c.2 in
    elim (same_or_not c.1 w) [
      | inl same ↦ inl (c.1, has, same)
      | inr other ↦ inr (c.1, has, (c.3, other))
    ]

pub never_both : NeverBoth
never_both words len are path to is w forward (u, has_u, same) (v, has_v, (covers, other)) =
    let i = get_from_Contains path u has_u in
    let j = get_from_Contains path v has_v in
    let p = same.0 in
    let e = same.1 in
    let one : u ≡ v = one_covers words len are path 0 to w.place i.0 j.0 u v is.chain i.1 j.1 (omega (arith, p), omega (arith, e, forward)) covers in
    other (subst (λ (x : Word). HasBoundariesOf x w) one same)
