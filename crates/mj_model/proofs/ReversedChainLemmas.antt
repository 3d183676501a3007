-- Chains read from their last word. The best chain to a word is the word after the best chain to
-- its position. Chains read backwards are the paths of the definitions.
use Rattle.std.proofs.Common.{◌≡◌, ℕ, ◌<◌, ◌≤◌, List, [], ◌∷◌, ◌++◌, Contains, Some, ◌⊎◌, inl, inr, reverse, refl, sym, ap, ◌∙◌, subst, arith, slice_get}
use Rattle.std.specs.Prelude.{ℤ, ◌+ℤ◌}
use Rattle.std.proofs.lemmas.Int.{ints}
use Rattle.std.proofs.lemmas.List.{reverse-reverse, reverse-append}
use mathlib.Core.List.{reverse_aux}
use Rattle.mj_model.specs.declared.word.Word.{Word}
use Rattle.mj_model.specs.Paths.{IsChain, IsPath}
use Rattle.mj_model.specs.Cost.{cost_after, path_cost}
use Rattle.mj_model.specs.Order.{IsPreferred, WinsTie, IsBefore}
use Rattle.mj_model.specs.Best.{IsBestPath, AreWords}
use Rattle.mj_model.specs.ReversedChains.{IsChainTo, last_right, cost_to, cost_with_next, IsNoWorseThan, AtLeastAsGood, IsBestTo}

module _ (words : ℕ → List Word) (conn : ℕ → ℕ → ℤ) (len : ℕ) (are : AreWords words len) where
  -- only the empty chain leads to the start of the text
  pub only_empty : (ws : List Word) → IsChainTo words ws 0 → ws ≡ []
  only_empty [] h = refl
  only_empty (w ∷ ws) h = absurd (omega (arith, are.go_on w.place w h.1, h.0))

  pub best_empty : (left : ℕ) → IsBestTo words conn [] 0 left
  best_empty left = record {
    chain = refl;
    best = λ ws h. inr (ap (λ (vs : List Word). cost_with_next conn vs left) (sym (only_empty ws h)), inl (sym (only_empty ws h)));
  }

  -- a word after the best chain to its position is the best chain that ends in the word, whatever
  -- follows
  pub best_with : (w : Word) (vs : List Word) → IsBestTo words conn vs w.place w.left → (ws : List Word) (to left : ℕ) → IsChainTo words (w ∷ ws) to
      → IsNoWorseThan words (cost_with_next conn (w ∷ vs) left) (w ∷ vs) (cost_with_next conn (w ∷ ws) left) (w ∷ ws)
  best_with w vs b ws to left h =
      elim (b.best ws h.2) [
        | inl less ↦ inl (omega (arith, ints, less))
        | inr same ↦ inr (omega (arith, ints, same.0), elim same.1 [ inl e ↦ inl (ap (λ (us : List Word). w ∷ us) e) | inr tie ↦ inr (inr (refl, tie)) ])
      ]

  best_with_same : (v w : Word) (vs ds : List Word) (to left : ℕ) → v ≡ w → IsBestTo words conn vs v.place v.left → IsChainTo words (w ∷ ds) to
      → IsNoWorseThan words (cost_with_next conn (v ∷ vs) left) (v ∷ vs) (cost_with_next conn (w ∷ ds) left) (w ∷ ds)
  best_with_same v w vs ds to left same b h =
      subst (λ (u : Word). IsChainTo words (u ∷ ds) to → IsNoWorseThan words (cost_with_next conn (v ∷ vs) left) (v ∷ vs) (cost_with_next conn (u ∷ ds) left) (u ∷ ds)) same (best_with v vs b ds to left) h

  no_worse_along : (v w : Word) (vs us ds : List Word) (a b c : ℤ) → (v ≡ w → IsNoWorseThan words a (v ∷ vs) c (w ∷ ds)) → AtLeastAsGood words a v b w → IsNoWorseThan words b (w ∷ us) c (w ∷ ds) → IsNoWorseThan words a (v ∷ vs) c (w ∷ ds)
  no_worse_along v w vs us ds a b c own (inl less) (inl e) = inl (omega (arith, ints, less, e))
  no_worse_along v w vs us ds a b c own (inl less) (inr e) = inl (omega (arith, ints, less, e.0))
  no_worse_along v w vs us ds a b c own (inr (s, inl same)) m = own same
  no_worse_along v w vs us ds a b c own (inr (s, inr better)) (inl e) = inl (omega (arith, ints, s, e))
  no_worse_along v w vs us ds a b c own (inr (s, inr better)) (inr e) = inr (s ∙ e.0, inr (inl better))

  best_among_at : (v : Word) (vs : List Word) (to left : ℕ) → 0 < to → IsBestTo words conn vs v.place v.left
      → ((w : Word) (ds : List Word) → IsChainTo words (w ∷ ds) to →
      (us : List Word) × IsBestTo words conn us w.place w.left × AtLeastAsGood words (cost_with_next conn (v ∷ vs) left) v (cost_with_next conn (w ∷ us) left) w)
      → (ws : List Word) → IsChainTo words ws to → IsNoWorseThan words (cost_with_next conn (v ∷ vs) left) (v ∷ vs) (cost_with_next conn ws left) ws
  best_among_at v vs to left above b others [] h = absurd (omega arith)
  best_among_at v vs to left above b others (w ∷ ds) h =
      let o = others w ds h in no_worse_along v w vs o.0 ds _ _ _
      (λ same. best_with_same v w vs ds to left same b h)
      o.2
      (best_with w o.0 o.1 ds to left h)

  -- among the words that end at a position, each after the best chain to its own position, one that
  -- is at least as good as each other gives the best chain
  pub best_among : (v : Word) (vs : List Word) (to left : ℕ) → 0 < to → IsChainTo words (v ∷ vs) to → IsBestTo words conn vs v.place v.left
      → ((w : Word) (ds : List Word) → IsChainTo words (w ∷ ds) to →
      (us : List Word) × IsBestTo words conn us w.place w.left × AtLeastAsGood words (cost_with_next conn (v ∷ vs) left) v (cost_with_next conn (w ∷ us) left) w)
      → IsBestTo words conn (v ∷ vs) to left
  best_among v vs to left above chain b others = record {
    chain = chain;
    best = best_among_at v vs to left above b others;
  }

  -- ---- forward and backward

  chain_onto : (ws vs : List Word) (at to : ℕ) → IsChainTo words vs at → IsChain words at ws to → IsChainTo words (reverse_aux ws vs) to
  chain_onto [] vs at to v h = subst (IsChainTo words vs) h v
  chain_onto (w ∷ ws) vs at to v h =
      let p = are.places at w h.0 in
      chain_onto ws (w ∷ vs) w.end to (refl, subst (λ (q : ℕ). Contains (words q) w) (sym p) h.0, subst (IsChainTo words vs) (sym p) v) h.1

  chain_off : (vs ws : List Word) (at to : ℕ) → IsChainTo words vs at → IsChain words at ws to → IsChain words 0 (reverse_aux vs ws) to
  chain_off [] ws at to v h = subst (λ (q : ℕ). IsChain words q ws to) v h
  chain_off (v ∷ vs) ws at to c h =
      chain_off vs (v ∷ ws) v.place to c.2 (c.1, subst (λ (q : ℕ). IsChain words q ws to) (sym c.0) h)

  cost_onto : (ws vs : List Word) → cost_to conn vs +ℤ cost_after conn (last_right vs) ws ≡ cost_with_next conn (reverse_aux ws vs) 0
  cost_onto [] vs = refl
  cost_onto (w ∷ ws) vs = let more = cost_onto ws (w ∷ vs) in omega (arith, ints, more)

  -- a chain read backwards
  pub chain_reversed : (ws : List Word) (to : ℕ) → IsChain words 0 ws to → IsChainTo words (reverse ws) to
  chain_reversed ws to h = chain_onto ws [] 0 to refl h

  pub chain_forward : (vs : List Word) (to : ℕ) → IsChainTo words vs to → IsChain words 0 (reverse vs) to
  chain_forward vs to h = chain_off vs [] to to h refl

  pub cost_reversed : (ws : List Word) → path_cost conn ws ≡ cost_with_next conn (reverse ws) 0
  cost_reversed ws = let e = cost_onto ws [] in omega (arith, ints, e)

  same_end : (vs : List Word) (to : ℕ) → IsBestTo words conn vs to 0 → ((ws : List Word) (later : ℕ) → IsChainTo words ws later → later ≤ to) → (ws : List Word) (end : ℕ) → IsPath words ws end → end ≡ to
  same_end vs to b greatest ws end p =
      let up = greatest (reverse ws) end (chain_reversed ws end p.chain) in
      let down = p.longest (reverse vs) to (chain_forward vs to b.chain) in
      omega (arith, up, down)

  before_from : (vs : List Word) (to : ℕ) → IsBestTo words conn vs to 0 → (ws : List Word) → IsChainTo words (reverse ws) to → (ws ≡ reverse vs) ⊎ IsBefore words conn (reverse vs) ws
  before_from vs to b ws h =
      let x = cost_reversed (reverse vs) ∙ ap (λ (us : List Word). cost_with_next conn us 0) (reverse-reverse vs) in
      let y = cost_reversed ws in
      elim (b.best (reverse ws) h) [
        | inl less ↦ inr (inl (omega (arith, ints, less, x, y)))
        | inr same ↦ elim same.1 [
          | inl e ↦ inl (sym (reverse-reverse ws) ∙ ap reverse (sym e))
          | inr tie ↦ inr (inr (x ∙ same.0 ∙ sym y, subst (λ (us : List Word). WinsTie words us (reverse ws)) (sym (reverse-reverse vs)) tie))
        ]
      ]

  -- the best chain to the greatest position, read forward, is the best path
  pub best_path_from : (vs : List Word) (to : ℕ) → IsBestTo words conn vs to 0 → ((ws : List Word) (later : ℕ) → IsChainTo words ws later → later ≤ to) → IsBestPath words conn (reverse vs)
  best_path_from vs to b greatest = record {
    to = to;
    path = record { chain = chain_forward vs to b.chain; longest = λ ws later h. greatest (reverse ws) later (chain_reversed ws later h) };
    before_others = λ ws end p. before_from vs to b ws (subst (IsChainTo words (reverse ws)) (same_end vs to b greatest ws end p) (chain_reversed ws end p.chain));
  }

  -- ---- the order is strict

  pub preferred_not_self : (w : Word) → IsPreferred words w w → ⊥
  preferred_not_self w (inl later) = omega arith
  preferred_not_self w (inr (e, s)) =
      let same = are.distinct w.place s.first s.second w s.has_first s.has_second in
      let order = s.in_order in
      omega (arith, same, order)

  pub preferred_one_way : (v w : Word) → IsPreferred words v w → IsPreferred words w v → ⊥
  preferred_one_way v w (inl a) (inl b) = omega arith
  preferred_one_way v w (inl a) (inr (e, s)) = omega arith
  preferred_one_way v w (inr (e, s)) (inl a) = omega arith
  preferred_one_way v w (inr (e, s)) (inr (f, t)) =
      let f1 : slice_get (words v.place) t.second ≡ Some v = subst (λ (q : ℕ). slice_get (words q) t.second ≡ Some v) (sym e) t.has_second in
      let f2 : slice_get (words v.place) t.first ≡ Some w = subst (λ (q : ℕ). slice_get (words q) t.first ≡ Some w) (sym e) t.has_first in
      let g1 = are.distinct v.place s.first t.second v s.has_first f1 in
      let g2 = are.distinct v.place s.second t.first w s.has_second f2 in
      let o1 = s.in_order in
      let o2 = t.in_order in
      omega (arith, g1, g2, o1, o2)

  pub tie_one_way : (vs ws : List Word) → WinsTie words vs ws → WinsTie words ws vs → ⊥
  tie_one_way [] ws h k = h
  tie_one_way (v ∷ vs) [] h k = h
  tie_one_way (v ∷ vs) (w ∷ ws) (inl p) (inl q) = preferred_one_way v w p q
  tie_one_way (v ∷ vs) (w ∷ ws) (inl p) (inr (e, t)) = preferred_not_self v (subst (λ (u : Word). IsPreferred words v u) e p)
  tie_one_way (v ∷ vs) (w ∷ ws) (inr (e, t)) (inl q) = preferred_not_self w (subst (λ (u : Word). IsPreferred words w u) e q)
  tie_one_way (v ∷ vs) (w ∷ ws) (inr (e, t)) (inr (f, u)) = tie_one_way vs ws t u

  pub before_one_way : (vs ws : List Word) → IsBefore words conn vs ws → IsBefore words conn ws vs → ⊥
  before_one_way vs ws (inl a) (inl b) = omega (arith, ints)
  before_one_way vs ws (inl a) (inr b) = let e = b.0 in omega (arith, ints)
  before_one_way vs ws (inr a) (inl b) = let e = a.0 in omega (arith, ints)
  before_one_way vs ws (inr a) (inr b) = tie_one_way (reverse vs) (reverse ws) a.1 b.1

  -- there is one best path at most
  pub best_is_one : (vs ws : List Word) → IsBestPath words conn vs → IsBestPath words conn ws → vs ≡ ws
  best_is_one vs ws a b =
      elim (a.before_others ws b.to b.path) [
        | inl e ↦ sym e
        | inr p ↦ elim (b.before_others vs a.to a.path) [ inl e ↦ e | inr q ↦ absurd (before_one_way vs ws p q) ]
      ]

  -- ---- what follows changes nothing

  right_along : (rs vs ws : List Word) (w : Word) → last_right (rs ++ w ∷ vs) ≡ last_right (rs ++ w ∷ ws)
  right_along [] vs ws w = refl
  right_along (r ∷ rs) vs ws w = refl

  cost_along : (rs vs ws : List Word) (w : Word) → cost_to conn (rs ++ w ∷ vs) +ℤ cost_to conn (w ∷ ws) ≡ cost_to conn (rs ++ w ∷ ws) +ℤ cost_to conn (w ∷ vs)
  cost_along [] vs ws w = omega (arith, ints)
  cost_along (r ∷ rs) vs ws w =
      let more = cost_along rs vs ws w in
      let same = ap (λ (n : ℕ). conn n r.left) (right_along rs vs ws w) in
      omega (arith, ints, more, same)

  joined_along : (rs vs ws : List Word) (w : Word) (a b : ℕ) → cost_with_next conn (rs ++ w ∷ vs) a +ℤ cost_with_next conn (w ∷ ws) b ≡ cost_with_next conn (rs ++ w ∷ ws) a +ℤ cost_with_next conn (w ∷ vs) b
  joined_along rs vs ws w a b =
      let more = cost_along rs vs ws w in
      let same = ap (λ (n : ℕ). conn n a) (right_along rs vs ws w) in
      omega (arith, ints, more, same)

  tie_on : (rs vs ws : List Word) → WinsTie words vs ws → WinsTie words (rs ++ vs) (rs ++ ws)
  tie_on [] vs ws h = h
  tie_on (r ∷ rs) vs ws h = inr (refl, tie_on rs vs ws h)

  tie_off : (rs vs ws : List Word) → WinsTie words (rs ++ vs) (rs ++ ws) → WinsTie words vs ws
  tie_off [] vs ws h = h
  tie_off (r ∷ rs) vs ws (inl p) = absurd (preferred_not_self r p)
  tie_off (r ∷ rs) vs ws (inr (e, t)) = tie_off rs vs ws t

  -- ---- the same forward: P and Q end in one word, R follows both

  -- P with R read backwards
  back_along : (ps rs : List Word) (w : Word) → reverse ((ps ++ w ∷ []) ++ rs) ≡ reverse rs ++ w ∷ reverse ps
  back_along ps rs w = reverse-append (ps ++ w ∷ []) rs ∙ ap (λ (xs : List Word). reverse rs ++ xs) (reverse-append ps (w ∷ []))

  back_one : (ps : List Word) (w : Word) → reverse (ps ++ w ∷ []) ≡ w ∷ reverse ps
  back_one ps w = reverse-append ps (w ∷ [])

  shifted : (ps qs rs : List Word) (w : Word) → path_cost conn ((ps ++ w ∷ []) ++ rs) +ℤ path_cost conn (qs ++ w ∷ []) ≡ path_cost conn ((qs ++ w ∷ []) ++ rs) +ℤ path_cost conn (ps ++ w ∷ [])
  shifted ps qs rs w =
      let along = joined_along (reverse rs) (reverse ps) (reverse qs) w 0 0 in
      let at = λ (us : List Word). cost_with_next conn us 0 in
      let a = cost_reversed ((ps ++ w ∷ []) ++ rs) ∙ ap at (back_along ps rs w) in
      let b = cost_reversed ((qs ++ w ∷ []) ++ rs) ∙ ap at (back_along qs rs w) in
      let c = cost_reversed (ps ++ w ∷ []) ∙ ap at (back_one ps w) in
      let d = cost_reversed (qs ++ w ∷ []) ∙ ap at (back_one qs w) in
      omega (arith, ints, along, a, b, c, d)

  pub before_along : (ps qs rs : List Word) (w : Word) → IsBefore words conn (ps ++ w ∷ []) (qs ++ w ∷ []) → IsBefore words conn ((ps ++ w ∷ []) ++ rs) ((qs ++ w ∷ []) ++ rs)
  before_along ps qs rs w (inl less) = let s = shifted ps qs rs w in inl (omega (arith, ints, less, s))
  before_along ps qs rs w (inr (same, tie)) =
      let s = shifted ps qs rs w in
      inr (
        omega (arith, ints, same, s),
        let t = tie_on (reverse rs) (w ∷ reverse ps) (w ∷ reverse qs) (rw (back_one ps w, back_one qs w) at tie) in
            rw (back_along ps rs w, back_along qs rs w) t,
      )

  pub before_without : (ps qs rs : List Word) (w : Word) → IsBefore words conn ((ps ++ w ∷ []) ++ rs) ((qs ++ w ∷ []) ++ rs) → IsBefore words conn (ps ++ w ∷ []) (qs ++ w ∷ [])
  before_without ps qs rs w (inl less) = let s = shifted ps qs rs w in inl (omega (arith, ints, less, s))
  before_without ps qs rs w (inr (same, tie)) =
      let s = shifted ps qs rs w in
      inr (
        omega (arith, ints, same, s),
        let t = tie_off (reverse rs) (w ∷ reverse ps) (w ∷ reverse qs) (rw (back_along ps rs w, back_along qs rs w) at tie) in
            rw (back_one ps w, back_one qs w) t,
      )
