-- Kept words: their best path is the best of all paths, and the words at one more position may be
-- pruned.
use Rattle.std.proofs.Common.{◌≡◌, ℕ, ◌<◌, ◌≤◌, List, [], ◌∷◌, Contains, Some, inl, inr, reverse, refl, sym, ap, ◌∙◌, subst, arith, slice_get}
use Rattle.std.specs.Prelude.{ℤ}
use Rattle.std.proofs.lemmas.Bool.{cases_order}
use Rattle.std.proofs.lemmas.Int.{ints}
use Rattle.std.proofs.lemmas.List.{reverse-reverse}
use Rattle.mj_model.specs.declared.word.Word.{Word}
use Rattle.mj_model.specs.Best.{AreWords, IsBestPath}
use Rattle.mj_model.specs.ReversedChains.{IsBestTo, IsChainTo, IsNoWorseThan, cost_to, cost_with_next}
use Rattle.mj_model.specs.Order.{IsPreferred, IsEarlierIn, WinsTie}
use Rattle.mj_model.specs.Paths.{IsPath}
use Rattle.mj_model.specs.Pruned.{ArePartOf, ArePruned, IsSuperseded}
use Rattle.mj_model.proofs.BestExists.{no_worse_through}
use Rattle.mj_model.proofs.ReversedChainLemmas.{best_path_from, chain_forward, chain_reversed, cost_reversed}

-- all words are some of them
pub all_are_part : (ws : List Word) → ArePartOf ws ws
all_are_part ws = record { among = λ w h. h; in_order = λ v w s. s }

-- ---- words that differ only from a position on

module _ (a b : ℕ → List Word) (len p : ℕ) (are : AreWords a len) (same : (q : ℕ) → q < p → a q ≡ b q) where
  pub chain_moves : (ws : List Word) (to : ℕ) → to ≤ p → IsChainTo a ws to → IsChainTo b ws to
  chain_moves [] to low h = h
  chain_moves (w ∷ ws) to low h =
      let on = are.go_on w.place w h.1 in
      let less : w.place < p = omega (arith, on, low, h.0) in
      (h.0, subst (λ (xs : List Word). Contains xs w) (same w.place less) h.1, chain_moves ws w.place (omega (arith, less)) h.2)

  pub preferred_moves : (v w : Word) → v.place < p → IsPreferred a v w → IsPreferred b v w
  preferred_moves v w less (inl later) = inl later
  preferred_moves v w less (inr (e, s)) = inr (e, subst (λ (xs : List Word). IsEarlierIn xs v w) (same v.place less) s)

  pub tie_moves : (vs ws : List Word) (to : ℕ) → to ≤ p → IsChainTo a vs to → WinsTie a vs ws → WinsTie b vs ws
  tie_moves [] ws to low h t = t
  tie_moves (v ∷ vs) [] to low h t = t
  tie_moves (v ∷ vs) (w ∷ ws) to low h (inl better) =
      let on = are.go_on v.place v h.1 in
      inl (preferred_moves v w (omega (arith, on, low, h.0)) better)
  tie_moves (v ∷ vs) (w ∷ ws) to low h (inr (e, t)) =
      let on = are.go_on v.place v h.1 in
      inr (e, tie_moves vs ws v.place (omega (arith, on, low, h.0)) h.2 t)

  pub no_worse_moves : (c d : ℤ) (vs ws : List Word) (to : ℕ) → to ≤ p → IsChainTo a vs to → IsNoWorseThan a c vs d ws → IsNoWorseThan b c vs d ws
  no_worse_moves c d vs ws to low h (inl less) = inl less
  no_worse_moves c d vs ws to low h (inr (e, inl one)) = inr (e, inl one)
  no_worse_moves c d vs ws to low h (inr (e, inr t)) = inr (e, inr (tie_moves vs ws to low h t))

pub best_moves : (a b : ℕ → List Word) (conn : ℕ → ℕ → ℤ) (len p : ℕ) → AreWords a len → AreWords b len → ((q : ℕ) → q < p → a q ≡ b q)
    → (chain : List Word) (to left : ℕ) → to ≤ p → IsBestTo a conn chain to left → IsBestTo b conn chain to left
best_moves a b conn len p are_a are_b same chain to left low best = record {
  chain = chain_moves a b len p are_a same chain to low best.chain;
  best = λ ws h. no_worse_moves a b len p are_a same (cost_with_next conn chain left) (cost_with_next conn ws left) chain ws to low best.chain
      (best.best ws (chain_moves b a len p are_b (λ q less. sym (same q less)) ws to low h));
}

module _ (words kept : ℕ → List Word) (conn : ℕ → ℕ → ℤ) (len : ℕ) (are : AreWords words len) (pruned : ArePruned words kept conn) where
  -- ---- what holds of kept words holds among all words

  pub preferred_widens : (v w : Word) → IsPreferred kept v w → IsPreferred words v w
  preferred_widens v w (inl later) = inl later
  preferred_widens v w (inr (e, s)) = inr (e, (pruned.part v.place).in_order v w s)

  tie_widens : (vs ws : List Word) → WinsTie kept vs ws → WinsTie words vs ws
  tie_widens [] ws t = t
  tie_widens (v ∷ vs) [] t = t
  tie_widens (v ∷ vs) (w ∷ ws) (inl better) = inl (preferred_widens v w better)
  tie_widens (v ∷ vs) (w ∷ ws) (inr (e, t)) = inr (e, tie_widens vs ws t)

  pub no_worse_widens : (a b : ℤ) (vs ws : List Word) → IsNoWorseThan kept a vs b ws → IsNoWorseThan words a vs b ws
  no_worse_widens a b vs ws (inl less) = inl less
  no_worse_widens a b vs ws (inr (e, inl one)) = inr (e, inl one)
  no_worse_widens a b vs ws (inr (e, inr t)) = inr (e, inr (tie_widens vs ws t))

  pub chain_widens : (ws : List Word) (to : ℕ) → IsChainTo kept ws to → IsChainTo words ws to
  chain_widens [] to h = h
  chain_widens (w ∷ ws) to h = (h.0, (pruned.part w.place).among w h.1, chain_widens ws w.place h.2)

  kept_once : (p i j : ℕ) (w : Word) → i < j → slice_get (kept p) i ≡ Some w → slice_get (kept p) j ≡ Some w → ⊥
  kept_once p i j w less at_i at_j =
      let s = (pruned.part p).in_order w w (record { first = i; second = j; in_order = less; has_first = at_i; has_second = at_j }) in
      let one = are.distinct p s.first s.second w s.has_first s.has_second in
      let order = s.in_order in
      omega (arith, one, order)

  pub kept_words : AreWords kept len
  kept_words = record {
    places = λ p w h. are.places p w ((pruned.part p).among w h);
    go_on = λ p w h. are.go_on p w ((pruned.part p).among w h);
    within = λ p w h. are.within p w ((pruned.part p).among w h);
    distinct = λ p i j w at_i at_j. elim (cases_order i j) [
      | inl one ↦ one
      | inr (inl before) ↦ absurd (kept_once p i j w before at_i at_j)
      | inr (inr after) ↦ absurd (kept_once p j i w after at_j at_i)
    ];
  }

  -- what serves is no worse whatever word follows
  served_next : (ws : List Word) (to left : ℕ) (s : IsSuperseded words kept conn ws to) → IsNoWorseThan words (cost_with_next conn s.chain left) s.chain (cost_with_next conn ws left) ws
  served_next ws to left s =
      let same = ap (λ (r : ℕ). conn r left) s.right in
      elim s.no_worse [
        | inl less ↦ inl (omega (arith, ints, same, less))
        | inr equal ↦ inr (omega (arith, ints, same, equal.0), equal.1)
      ]

  -- ---- the best path of the kept words

  best_among_kept : (path : List Word) (best : IsBestPath kept conn path) (ws : List Word) → IsChainTo kept ws best.to
      → IsNoWorseThan kept (cost_with_next conn (reverse path) 0) (reverse path) (cost_with_next conn ws 0) ws
  best_among_kept path best ws h =
      let other : IsPath kept (reverse ws) best.to = record { chain = chain_forward kept conn len kept_words ws best.to h; longest = best.path.longest } in
      let x = cost_reversed kept conn len kept_words path in
      let y = cost_reversed kept conn len kept_words (reverse ws) ∙ ap (λ (us : List Word). cost_with_next conn us 0) (reverse-reverse ws) in
      elim (best.before_others (reverse ws) best.to other) [
        | inl e ↦
            let one : reverse path ≡ ws = ap reverse (sym e) ∙ reverse-reverse ws in
            inr (ap (λ (us : List Word). cost_with_next conn us 0) one, inl one)
        | inr (inl less) ↦ inl (omega (arith, ints, less, x, y))
        | inr (inr tie) ↦ inr (sym x ∙ tie.0 ∙ y, inr (subst (WinsTie kept (reverse path)) (reverse-reverse ws) tie.1))
      ]

  pub best_widens : (chain : List Word) (to left : ℕ) → IsBestTo kept conn chain to left → IsBestTo words conn chain to left
  best_widens chain to left best = record {
    chain = chain_widens chain to best.chain;
    best = λ ws h.
        let s = pruned.served ws to h in
        no_worse_through words conn len are chain s.chain ws _ _ _
        (no_worse_widens (cost_with_next conn chain left) (cost_with_next conn s.chain left) chain s.chain (best.best s.chain s.leads))
        (served_next ws to left s);
  }

  pub pruned_best : (path : List Word) → IsBestPath kept conn path → IsBestPath words conn path
  pruned_best path best =
      let back : IsBestTo kept conn (reverse path) best.to 0 = record { chain = chain_reversed kept conn len kept_words path best.to best.path.chain; best = best_among_kept path best } in
      subst (IsBestPath words conn) (reverse-reverse path)
      (best_path_from words conn len are (reverse path) best.to (best_widens (reverse path) best.to 0 back)
      (λ ws later h.
      let s = pruned.served ws later h in
      best.path.longest (reverse s.chain) later (chain_forward kept conn len kept_words s.chain later s.leads)))

  -- ---- the words at one more position are pruned

  -- at one position all words were kept before, and now only some that supersede the others
  pub record PrunesPlace (p : ℕ) (fewer : ℕ → List Word) : Type 0 where
    pub whole : kept p ≡ words p
    pub elsewhere : (q : ℕ) → (q ≡ p → ⊥) → kept q ≡ fewer q
    pub part : ArePartOf (words p) (fewer p)
    pub serves : (v : Word) (vs : List Word) → Contains (words p) v → IsChainTo kept vs p
        → (u : Word) × (us : List Word) × Contains (fewer p) u × IsChainTo kept us p × (u.end ≡ v.end) × (u.right ≡ v.right) × IsNoWorseThan words (cost_to conn (u ∷ us)) (u ∷ us) (cost_to conn (v ∷ vs)) (v ∷ vs)

  module _ (p : ℕ) (fewer : ℕ → List Word) (prunes : PrunesPlace p fewer) where
    fewer_part : (q : ℕ) → ArePartOf (words q) (fewer q)
    fewer_part q = elim (cases_order q p) [
      | inl one ↦ subst (λ (r : ℕ). ArePartOf (words r) (fewer r)) (sym one) prunes.part
      | inr (inl before) ↦ subst (ArePartOf (words q)) (prunes.elsewhere q (λ e. omega (arith, e))) (pruned.part q)
      | inr (inr after) ↦ subst (ArePartOf (words q)) (prunes.elsewhere q (λ e. omega (arith, e))) (pruned.part q)
    ]

    -- a word at the position
    reach_here : (w : Word) (ws : List Word) (to : ℕ) → w.place ≡ p → IsChainTo kept (w ∷ ws) to → IsSuperseded words fewer conn (w ∷ ws) to
    reach_here w ws to one h =
        let there : Contains (words p) w = subst (λ (xs : List Word). Contains xs w) prunes.whole (subst (λ (q : ℕ). Contains (kept q) w) one h.1) in
        let s = prunes.serves w ws there (subst (IsChainTo kept ws) one h.2) in
        let at : s.0.place ≡ p = are.places p s.0 (prunes.part.among s.0 s.2) in
        let following = chain_moves kept fewer len p kept_words (λ q less. prunes.elsewhere q (λ e. omega (arith, e, less))) s.1 p (omega arith) s.3 in
        record {
          chain = s.0 ∷ s.1;
          leads = (s.4 ∙ h.0, subst (λ (q : ℕ). Contains (fewer q) s.0) (sym at) s.2, subst (IsChainTo fewer s.1) (sym at) following);
          right = s.5;
          no_worse = s.6;
        }

    -- a word at another position, with a superseding chain before it
    reach_there : (w : Word) (ws : List Word) (to : ℕ) → (w.place ≡ p → ⊥) → IsChainTo kept (w ∷ ws) to → IsSuperseded words fewer conn ws w.place → IsSuperseded words fewer conn (w ∷ ws) to
    reach_there w ws to other h s =
        let same = ap (λ (r : ℕ). conn r w.left) s.right in
        record {
          chain = w ∷ s.chain;
          leads = (h.0, subst (λ (xs : List Word). Contains xs w) (prunes.elsewhere w.place other) h.1, s.leads);
          right = refl;
          no_worse = elim s.no_worse [
            | inl less ↦ inl (omega (arith, ints, same, less))
            | inr equal ↦ inr (omega (arith, ints, same, equal.0), elim equal.1 [ inl e ↦ inl (ap (λ (us : List Word). w ∷ us) e) | inr tie ↦ inr (inr (refl, tie)) ])
          ];
        }

    reach : (ws : List Word) (to : ℕ) → IsChainTo kept ws to → IsSuperseded words fewer conn ws to
    reach [] to h = record { chain = []; leads = h; right = refl; no_worse = inr (refl, inl refl) }
    reach (w ∷ ws) to h = elim (cases_order w.place p) [
      | inl one ↦ reach_here w ws to one h
      | inr (inl before) ↦ reach_there w ws to (λ e. omega (arith, e)) h (reach ws w.place h.2)
      | inr (inr after) ↦ reach_there w ws to (λ e. omega (arith, e)) h (reach ws w.place h.2)
    ]

    pub prunes_more : ArePruned words fewer conn
    prunes_more = record {
      part = fewer_part;
      served = λ ws to h.
          let s = pruned.served ws to h in
          let r = reach s.chain to s.leads in
          record {
            chain = r.chain;
            leads = r.leads;
            right = r.right ∙ s.right;
            no_worse = no_worse_through words conn len are r.chain s.chain ws _ _ _ r.no_worse s.no_worse;
          };
    }
