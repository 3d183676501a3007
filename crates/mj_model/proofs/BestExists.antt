-- There is a best path. Any two chains compare, so that one of two chains and all their extensions
-- comes first. Only finitely many chains extend from each position, since each word ends later than
-- it starts and within the text.
use Rattle.std.proofs.Common.{◌≡◌, ℕ, zero, suc, ◌+◌, ◌<◌, ◌≤◌, List, [], ◌∷◌, Contains, Some, ◌⊎◌, inl, inr, reverse, refl, sym, ap, ◌∙◌, subst, arith, slice_get}
use Rattle.std.specs.Prelude.{ℤ}
use Rattle.std.proofs.lemmas.Int.{ints, by_lt_z}
use Rattle.std.proofs.lemmas.Bool.{cases_order}
use Rattle.std.proofs.lemmas.List.{reverse-reverse}
use Rattle.std.proofs.lemmas.Option.{slice_get-get_or, same_Some}
use mathlib.Core.List.{reverse_aux}
use Rattle.mj_model.specs.declared.word.Word.{Word}
use Rattle.mj_model.specs.Paths.{IsChain}
use Rattle.mj_model.specs.Order.{IsPreferred, WinsTie}
use Rattle.mj_model.specs.Best.{AreWords, IsBestPath}
use Rattle.mj_model.specs.ReversedChains.{IsChainTo, cost_with_next, IsNoWorseThan}
use Rattle.mj_model.proofs.ReversedChainLemmas.{chain_forward, best_path_from}

-- a chain with its last word first, and the position it leads to
record ChainTo (words : ℕ → List Word) : Type 0 where
  chain : List Word
  to : ℕ
  leads : IsChainTo words chain to

-- c leads further than a chain, or as far and is it or before it
abbrev IsFirst : (words : ℕ → List Word) → (ℕ → ℕ → ℤ) → ChainTo words → List Word → ℕ → Type 0
IsFirst words conn c ws to = (to < c.to) ⊎ ((to ≡ c.to) × IsNoWorseThan words (cost_with_next conn c.chain 0) c.chain (cost_with_next conn ws 0) ws)

contained_cases : (x : Word) (xs : List Word) (w : Word) → Contains (x ∷ xs) w → (x ≡ w) ⊎ Contains xs w
contained_cases x xs w (zero, l, e) = inl e
contained_cases x xs w (suc k, l, e) = inr (k, omega arith, e)

module _ (words : ℕ → List Word) (conn : ℕ → ℕ → ℤ) (len : ℕ) (are : AreWords words len) where
  -- ---- the order goes through

  preferred_through : (u v w : Word) → IsPreferred words u v → IsPreferred words v w → IsPreferred words u w
  preferred_through u v w (inl a) (inl b) = inl (omega arith)
  preferred_through u v w (inl a) (inr (e, s)) = inl (omega arith)
  preferred_through u v w (inr (e, s)) (inl b) = inl (omega arith)
  preferred_through u v w (inr (e, s)) (inr (f, t)) =
      let first : slice_get (words u.place) t.first ≡ Some v = subst (λ (q : ℕ). slice_get (words q) t.first ≡ Some v) (sym e) t.has_first in
      let same = are.distinct u.place s.second t.first v s.has_second first in
      let o = s.in_order in
      let p = t.in_order in
      inr (
        e ∙ f,
        record {
          first = s.first;
          second = t.second;
          in_order = omega (arith, same, o, p);
          has_first = s.has_first;
          has_second = subst (λ (q : ℕ). slice_get (words q) t.second ≡ Some w) (sym e) t.has_second;
        },
      )

  tie_through : (us vs ws : List Word) → WinsTie words us vs → WinsTie words vs ws → WinsTie words us ws
  tie_through [] vs ws a b = absurd a
  tie_through (u ∷ us) [] ws a b = absurd a
  tie_through (u ∷ us) (v ∷ vs) [] a b = b
  tie_through (u ∷ us) (v ∷ vs) (w ∷ ws) (inl p) (inl q) = inl (preferred_through u v w p q)
  tie_through (u ∷ us) (v ∷ vs) (w ∷ ws) (inl p) (inr (e, t)) = inl (subst (λ (x : Word). IsPreferred words u x) e p)
  tie_through (u ∷ us) (v ∷ vs) (w ∷ ws) (inr (e, s)) (inl q) = inl (subst (λ (x : Word). IsPreferred words x w) (sym e) q)
  tie_through (u ∷ us) (v ∷ vs) (w ∷ ws) (inr (e, s)) (inr (f, t)) = inr (e ∙ f, tie_through us vs ws s t)

  equal_or_through : (us vs ws : List Word) → (us ≡ vs) ⊎ WinsTie words us vs → (vs ≡ ws) ⊎ WinsTie words vs ws → (us ≡ ws) ⊎ WinsTie words us ws
  equal_or_through us vs ws (inl e) h = subst (λ (x : List Word). (x ≡ ws) ⊎ WinsTie words x ws) (sym e) h
  equal_or_through us vs ws (inr t) (inl e) = inr (subst (WinsTie words us) e t)
  equal_or_through us vs ws (inr t) (inr s) = inr (tie_through us vs ws t s)

  pub no_worse_through : (us vs ws : List Word) (a b c : ℤ) → IsNoWorseThan words a us b vs → IsNoWorseThan words b vs c ws → IsNoWorseThan words a us c ws
  no_worse_through us vs ws a b c (inl x) (inl y) = inl (omega (arith, ints, x, y))
  no_worse_through us vs ws a b c (inl x) (inr y) = let e = y.0 in inl (omega (arith, ints, x, e))
  no_worse_through us vs ws a b c (inr x) (inl y) = let e = x.0 in inl (omega (arith, ints, e, y))
  no_worse_through us vs ws a b c (inr (e, x)) (inr (f, y)) = inr (e ∙ f, equal_or_through us vs ws x y)

  first_through : (b c : ChainTo words) (ws : List Word) (to : ℕ) → IsFirst words conn b c.chain c.to → IsFirst words conn c ws to → IsFirst words conn b ws to
  first_through b c ws to (inl x) (inl y) = inl (omega arith)
  first_through b c ws to (inl x) (inr y) = let e = y.0 in inl (omega arith)
  first_through b c ws to (inr x) (inl y) = let e = x.0 in inl (omega arith)
  first_through b c ws to (inr (e, x)) (inr (f, y)) = inr (f ∙ e, no_worse_through b.chain c.chain ws _ _ _ x y)

  -- ---- any two chains compare

  here : (p : ℕ) (w : Word) (h : Contains (words p) w) → slice_get (words p) h.0 ≡ Some w
  here p w h = slice_get-get_or (words p) h.0 w h.1 ∙ ap Some h.2

  words_compare : (v w : Word) → Contains (words v.place) v → Contains (words w.place) w → (v ≡ w) ⊎ (IsPreferred words v w ⊎ IsPreferred words w v)
  words_compare v w h k = elim (cases_order v.place w.place) [
    | inl same ↦
        let at_v = here v.place v h in
        let at_w = here w.place w k in
        elim (cases_order h.0 k.0) [
          | inl one ↦ inl (same_Some v w (sym at_v ∙ ap (slice_get (words v.place)) one ∙ ap (λ (q : ℕ). slice_get (words q) k.0) same ∙ at_w))
          | inr (inl before) ↦ inr (inl (inr (
            same,
            record {
              first = h.0;
              second = k.0;
              in_order = before;
              has_first = at_v;
              has_second = subst (λ (q : ℕ). slice_get (words q) k.0 ≡ Some w) (sym same) at_w;
            },
          )))
          | inr (inr after) ↦ inr (inr (inr (
            sym same,
            record {
              first = k.0;
              second = h.0;
              in_order = after;
              has_first = at_w;
              has_second = subst (λ (q : ℕ). slice_get (words q) h.0 ≡ Some v) same at_v;
            },
          )))
        ]
    | inr (inl before) ↦ inr (inr (inl before))
    | inr (inr after) ↦ inr (inl (inl after))
  ]

  chains_compare : (vs ws : List Word) (to : ℕ) → IsChainTo words vs to → IsChainTo words ws to → (vs ≡ ws) ⊎ (WinsTie words vs ws ⊎ WinsTie words ws vs)
  chains_compare [] [] to h k = inl refl
  chains_compare [] (w ∷ ws) to h k = absurd (omega (arith, are.go_on w.place w k.1, k.0, h))
  chains_compare (v ∷ vs) [] to h k = absurd (omega (arith, are.go_on v.place v h.1, h.0, k))
  chains_compare (v ∷ vs) (w ∷ ws) to h k = elim (words_compare v w h.1 k.1) [
    | inl same ↦ elim (chains_compare vs ws v.place h.2 (subst (λ (x : Word). IsChainTo words ws x.place) (sym same) k.2)) [
      | inl e ↦ inl (cc)
      | inr (inl t) ↦ inr (inl (inr (same, t)))
      | inr (inr t) ↦ inr (inr (inr (sym same, t)))
    ]
    | inr (inl p) ↦ inr (inl (inl p))
    | inr (inr p) ↦ inr (inr (inl p))
  ]

  no_worse_either : (vs ws : List Word) (to : ℕ) (a b : ℤ) → IsChainTo words vs to → IsChainTo words ws to → IsNoWorseThan words a vs b ws ⊎ IsNoWorseThan words b ws a vs
  no_worse_either vs ws to a b h k =
      by_lt_z {P = IsNoWorseThan words a vs b ws ⊎ IsNoWorseThan words b ws a vs} a b
      (λ less. inl (inl less))
      (λ more. by_lt_z {P = IsNoWorseThan words a vs b ws ⊎ IsNoWorseThan words b ws a vs} b a
      (λ less. inr (inl less))
      (λ same.
      let e : a ≡ b = omega (arith, ints, more, same) in
      elim (chains_compare vs ws to h k) [
        | inl one ↦ inl (inr (e, inl one))
        | inr (inl t) ↦ inl (inr (e, inr t))
        | inr (inr t) ↦ inr (inr (sym e, inr t))
      ]))

  first_of_two : (b c : ChainTo words) → IsFirst words conn b c.chain c.to ⊎ IsFirst words conn c b.chain b.to
  first_of_two b c = elim (cases_order b.to c.to) [
    | inl same ↦ elim (no_worse_either b.chain c.chain b.to (cost_with_next conn b.chain 0) (cost_with_next conn c.chain 0) b.leads (subst (IsChainTo words c.chain) (sym same) c.leads)) [
      | inl n ↦ inl (inr (sym same, n))
      | inr n ↦ inr (inr (same, n))
    ]
    | inr (inl less) ↦ inr (inl less)
    | inr (inr more) ↦ inl (inl more)
  ]

  -- ---- of all chains that go on from one, one comes first

  first_itself : (b : ChainTo words) → IsFirst words conn b b.chain b.to
  first_itself b = inr (refl, inr (refl, inl refl))

  -- b comes first among the chains that go on from us, which leads to p
  abbrev LeadsAll : ChainTo words → List Word → ℕ → Type 0
  LeadsAll b us p = (ws : List Word) (to : ℕ) → IsChain words p ws to → IsFirst words conn b (reverse_aux ws us) to

  -- of us alone and the chains that go on from it by one of the words xs
  first_by_word : (us : List Word) (p : ℕ) → IsChainTo words us p → (xs : List Word) → ((w : Word) → Contains xs w → (b : ChainTo words) × LeadsAll b (w ∷ us) w.end)
      → (b : ChainTo words) × IsFirst words conn b us p × ((w : Word) → Contains xs w → LeadsAll b (w ∷ us) w.end)
  first_by_word us p h [] each = (record { chain = us; to = p; leads = h }, inr (refl, inr (refl, inl refl)), λ w i. absurd (let l = i.1 in omega arith))
  first_by_word us p h (x ∷ xs) each =
      let r = first_by_word us p h xs (λ w i. each w (suc i.0, (let l = i.1 in omega arith), i.2)) in
      let b = each x (0, omega arith, refl) in
      elim (first_of_two r.0 b.0) [
        | inl kept ↦ (
          r.0,
          r.1,
          λ w i ws to k. elim (contained_cases x xs w i) [
            | inl e ↦ first_through r.0 b.0 (reverse_aux ws (w ∷ us)) to kept (subst (λ (y : Word). LeadsAll b.0 (y ∷ us) y.end) e b.1 ws to k)
            | inr j ↦ r.2 w j ws to k
          ],
        )
        | inr taken ↦ (
          b.0,
          first_through b.0 r.0 us p taken r.1,
          λ w i ws to k. elim (contained_cases x xs w i) [
            | inl e ↦ subst (λ (y : Word). LeadsAll b.0 (y ∷ us) y.end) e b.1 ws to k
            | inr j ↦ first_through b.0 r.0 (reverse_aux ws (w ∷ us)) to taken (r.2 w j ws to k)
          ],
        )
      ]

  from_parts : (b : ChainTo words) (us : List Word) (p : ℕ) → IsFirst words conn b us p → ((w : Word) → Contains (words p) w → LeadsAll b (w ∷ us) w.end) → LeadsAll b us p
  from_parts b us p alone on [] to h = subst (IsFirst words conn b us) h alone
  from_parts b us p alone on (w ∷ ws) to h = on w h.0 ws to h.1

  -- the text ends at most n bytes after p
  first_from : (n p : ℕ) → len ≤ p + n → (us : List Word) → IsChainTo words us p → (b : ChainTo words) × LeadsAll b us p
  first_from zero p near us h =
      let b : ChainTo words = record { chain = us; to = p; leads = h } in
      (b, from_parts b us p (first_itself b) (λ w i. absurd (omega (arith, are.go_on p w i, are.within p w i, near))))
  first_from (suc n) p near us h =
      let r = first_by_word us p h (words p) (λ w i. first_from n w.end (omega (arith, are.go_on p w i, near)) (w ∷ us)
      (refl, subst (λ (q : ℕ). Contains (words q) w) (sym (are.places p w i)) i, subst (IsChainTo words us) (sym (are.places p w i)) h)) in
      (r.0, from_parts r.0 us p r.1 r.2)

  first_of_all : (b : ChainTo words) × ((ws : List Word) (to : ℕ) → IsChainTo words ws to → IsFirst words conn b ws to)
  first_of_all =
      let r = first_from len 0 (omega arith) [] refl in
      (r.0, λ ws to h. subst (λ (us : List Word). IsFirst words conn r.0 us to) (reverse-reverse ws) (r.1 (reverse ws) to (chain_forward words conn len are ws to h)))

  as_far : (b : ChainTo words) (ws : List Word) (to : ℕ) → IsFirst words conn b ws to → to ≤ b.to
  as_far b ws to (inl less) = omega arith
  as_far b ws to (inr same) = let e = same.0 in omega arith

  no_worse_there : (b : ChainTo words) (ws : List Word) (to : ℕ) → to ≡ b.to → IsFirst words conn b ws to → IsNoWorseThan words (cost_with_next conn b.chain 0) b.chain (cost_with_next conn ws 0) ws
  no_worse_there b ws to e (inl less) = absurd (omega arith)
  no_worse_there b ws to e (inr same) = same.1

  -- there is a best path
  pub best_path_exists : (path : List Word) × IsBestPath words conn path
  best_path_exists =
      let f = first_of_all in
      let b = f.0 in (
        reverse b.chain,
        best_path_from words conn len are b.chain b.to
            (record { chain = b.leads; best = λ ws h. no_worse_there b ws b.to refl (f.1 ws b.to h) })
            (λ ws later h. as_far b ws later (f.1 ws later h)),
      )
