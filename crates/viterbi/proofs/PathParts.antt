-- A path at one of its words: a chain up to and with the word, and what follows it. Their costs add
-- up to the path's.
use Rattle.std.proofs.Common.{◌≡◌, ℕ, zero, suc, ◌+◌, ◌-◌, ◌*◌, ◌^◌, ◌≤◌, List, [], ◌∷◌, Contains, Option, Some, refl, sym, ◌∙◌, subst, arith, slice_get}
use Rattle.std.specs.Prelude.{ℤ, ◌+ℤ◌}
use Rattle.std.proofs.lemmas.Int.{ints}
use Rattle.std.proofs.lemmas.Option.{same_Some}
use mathlib.Core.List.{reverse_aux}
use Rattle.mj_model.specs.Bounds.{IsWithin}
use Rattle.mj_model.specs.declared.word.Word.{Word}
use Rattle.mj_model.specs.Best.{AreWords, IsSource}
use Rattle.mj_model.specs.ReversedChains.{IsChainTo, cost_to, last_right}
use Rattle.mj_model.specs.Cost.{cost_after, path_cost}
use Rattle.mj_model.specs.Paths.{IsChain}
use Rattle.viterbi.proofs.Choice.{small_cost}
use Rattle.viterbi.proofs.Pushed.{get_from_Contains}
use Rattle.viterbi.specs.Nodes.LatticeNodes.{CostsThrough, CostsUpTo}
use Rattle.viterbi.specs.Nodes.Least.{IsLeastOf}
use Rattle.viterbi.specs.Nodes.BackwardCosts.{CostsToEos}
use Rattle.viterbi.proofs.LeastLemmas.{least_sum, plus}

contains_more : (xs : List Word) (x w : Word) → Contains xs w → Contains (x ∷ xs) w
contains_more xs x w h = (suc h.0, (let l = h.1 in omega (arith, l)), h.2)

contains_joined : (vs ws : List Word) (w : Word) → Contains ws w → Contains (reverse_aux vs ws) w
contains_joined [] ws w h = h
contains_joined (v ∷ vs) ws w h = contains_joined vs (v ∷ ws) w (contains_more ws v w h)

module _ (words : ℕ → List Word) (conn : ℕ → ℕ → ℤ) (len : ℕ) (are : AreWords words len) where
  chain_joined : (vs ws : List Word) (at to : ℕ) → IsChainTo words vs at → IsChain words at ws to → IsChain words 0 (reverse_aux vs ws) to
  chain_joined [] ws at to v h = subst (λ (q : ℕ). IsChain words q ws to) v h
  chain_joined (v ∷ vs) ws at to c h = chain_joined vs (v ∷ ws) v.place to c.2 (c.1, subst (λ (q : ℕ). IsChain words q ws to) (sym c.0) h)

  cost_joined : (vs ws : List Word) → path_cost conn (reverse_aux vs ws) ≡ cost_to conn vs +ℤ cost_after conn (last_right vs) ws
  cost_joined [] ws = omega (arith, ints)
  cost_joined (v ∷ vs) ws = let more = cost_joined vs (v ∷ ws) in omega (arith, ints, more)

  -- a chain at one of its words
  record PartsAt (w : Word) (to : ℕ) (cost : ℤ) : Type 0 where
    before : List Word
    after : List Word
    prefix_chain : IsChainTo words (w ∷ before) w.end
    suffix_chain : IsChain words w.end after to
    cost_is : cost ≡ cost_to conn (w ∷ before) +ℤ cost_after conn w.right after

  parts_from : (ws vs : List Word) (at to i : ℕ) (w : Word) → IsChainTo words vs at → IsChain words at ws to → slice_get ws i ≡ Some w → PartsAt w to (cost_to conn vs +ℤ cost_after conn (last_right vs) ws)
  parts_from [] vs at to i w v h g = absurd (cc)
  parts_from (u ∷ ws) vs at to zero w v h g =
      let p = are.places at u h.0 in
      subst (λ (x : Word). PartsAt x to (cost_to conn vs +ℤ cost_after conn (last_right vs) (u ∷ ws))) (same_Some u w g) (record {
        before = vs;
        after = ws;
        prefix_chain = (refl, subst (λ (q : ℕ). Contains (words q) u) (sym p) h.0, subst (IsChainTo words vs) (sym p) v);
        suffix_chain = h.1;
        cost_is = omega (arith, ints);
      })
  parts_from (u ∷ ws) vs at to (suc i) w v h g =
      let p = are.places at u h.0 in
      let prefix_chain : IsChainTo words (u ∷ vs) u.end = (refl, subst (λ (q : ℕ). Contains (words q) u) (sym p) h.0, subst (IsChainTo words vs) (sym p) v) in
      let r = parts_from ws (u ∷ vs) u.end to i w prefix_chain h.1 g in
      record {
        before = r.before;
        after = r.after;
        prefix_chain = r.prefix_chain;
        suffix_chain = r.suffix_chain;
        cost_is = let e = r.cost_is in omega (arith, ints, e);
      }

  parts_of : (path : List Word) (to : ℕ) (w : Word) → IsChain words 0 path to → Contains path w → PartsAt w to (path_cost conn path)
  parts_of path to w h c =
      let g = get_from_Contains path w c in
      let r = parts_from path [] 0 to g.0 w refl h g.1 in
      record {
        before = r.before;
        after = r.after;
        prefix_chain = r.prefix_chain;
        suffix_chain = r.suffix_chain;
        cost_is = let e = r.cost_is in omega (arith, ints, e);
      }

  pub path_through : (w : Word) (a b : ℤ) → CostsUpTo words conn w a → CostsToEos words conn w b → CostsThrough words conn w (a +ℤ b)
  path_through w a b p q = (
    reverse_aux (w ∷ p.0) q.0,
    q.1,
    record { chain = chain_joined (w ∷ p.0) q.0 w.end q.1 p.1 q.2; longest = q.3 },
    contains_joined p.0 (w ∷ q.0) w (0, omega arith, refl),
    (let e = cost_joined (w ∷ p.0) q.0 in let f = p.2 in let g = q.4 in omega (arith, ints, e, f, g)),
  )

  pub parts_through : (w : Word) (c : ℤ) → CostsThrough words conn w c → (a : ℤ) × (b : ℤ) × CostsUpTo words conn w a × CostsToEos words conn w b × (c ≡ a +ℤ b)
  parts_through w c r =
      let s = parts_of r.0 r.1 w r.2.chain r.3 in
      (cost_to conn (w ∷ s.before), cost_after conn w.right s.after, (s.before, s.prefix_chain, refl), (s.after, r.1, s.suffix_chain, r.2.longest, refl), r.4 ∙ s.cost_is)

  -- the least cost up to and with a word and the least of what follows it add up to the least of
  -- the paths that have it
  pub least_through : (w : Word) (x : ℤ) (o : Option ℤ) → IsLeastOf (CostsUpTo words conn w) (Some x) → IsLeastOf (CostsToEos words conn w) o → IsLeastOf (CostsThrough words conn w) (plus x o)
  least_through w x o h k = least_sum (CostsUpTo words conn w) (CostsToEos words conn w) (CostsThrough words conn w) x o (path_through w) (parts_through w) h k

-- ---- no cost is near overflow

module _ (words : ℕ → List Word) (conn : ℕ → ℕ → ℤ) (len : ℕ) (source : IsSource words conn len) where
  -- what follows a position costs at most 2 ^ 16 for each remaining byte, and the connection to EOS
  small_from : (ws : List Word) (p to right n : ℕ) → p + n ≡ len → IsChain words p ws to → IsWithin (2 ^ 16 * n + 2 ^ 15) (cost_after conn right ws)
  small_from [] p to right n e h = let c = source.connections right 0 in (omega (arith, ints, c.0), omega (arith, ints, c.1))
  small_from (w ∷ ws) p to right n e h =
      let on = source.are.go_on p w h.0 in
      let end = source.are.within p w h.0 in
      let left : w.end + (len - w.end) ≡ len = omega (arith, end) in
      let more = small_from ws w.end to w.right (len - w.end) left h.1 in
      let c = source.connections right w.left in
      let own = source.costs p w h.0 in
      (omega (arith, ints, more.0, c.0, own.0, on, left, e), omega (arith, ints, more.1, c.1, own.1, on, left, e))

  pub small_on : (w : Word) (c : ℤ) → len ≤ 2 ^ 20 → w.end ≤ len → CostsToEos words conn w c → IsWithin (2 ^ 40) c
  small_on w c short end p =
      let left : w.end + (len - w.end) ≡ len = omega (arith, end) in
      let s = small_from p.0 w.end p.1 w.right (len - w.end) left p.2 in
      let e = p.4 in
      (omega (arith, ints, s.0, e, short, left), omega (arith, ints, s.1, e, short, left))

  pub small_up_to : (w : Word) (c : ℤ) → len ≤ 2 ^ 20 → w.end ≤ len → CostsUpTo words conn w c → IsWithin (2 ^ 40) c
  small_up_to w c short end p =
      let s = small_cost words conn len source (w ∷ p.0) w.end p.1 in
      let e = p.2 in
      (omega (arith, ints, s.0, e, short, end), omega (arith, ints, s.1, e, short, end))
