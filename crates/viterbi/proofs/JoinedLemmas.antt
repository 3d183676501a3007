-- Chains one after another, their costs and steps; and a path split at one of its words.
use Rattle.std.proofs.Common.{◌≡◌, ℕ, zero, suc, List, [], ◌∷◌, ◌++◌, reverse, Contains, Some, refl, sym, ap, ◌∙◌, subst, arith, slice_get}
use Rattle.std.specs.Prelude.{ℤ, ◌+ℤ◌}
use Rattle.std.proofs.lemmas.Grind.{reverse_onto}
use Rattle.std.proofs.lemmas.Int.{ints}
use Rattle.std.proofs.lemmas.List.{append_assoc, map-append}
use Rattle.std.proofs.lemmas.Option.{same_Some}
use Rattle.mj_model.specs.declared.word.Word.{Word}
use Rattle.mj_model.specs.Best.{AreWords}
use Rattle.mj_model.specs.ReversedChains.{IsChainTo, cost_to, last_right}
use Rattle.mj_model.specs.Cost.{cost_after, path_cost}
use Rattle.mj_model.specs.Paths.{IsChain}
use Rattle.viterbi.proofs.Pushed.{get_from_Contains}
use Rattle.viterbi.specs.Rivals.PathSteps.{right_after, steps_after, total_after, words_of}
use Rattle.viterbi.specs.Rivals.RivalPaths.{AreOff}
use Rattle.viterbi.specs.declared.rivals.step.PathStep.{PathStep}

-- ---- chains

pub chain_append : (words : ℕ → List Word) (us ws : List Word) (p q to : ℕ) → IsChain words p us q → IsChain words q ws to → IsChain words p (us ++ ws) to
chain_append words [] ws p q to h g = subst (λ (x : ℕ). IsChain words x ws to) (sym h) g
chain_append words (u ∷ us) ws p q to h g = (h.0, chain_append words us ws u.end q to h.1 g)

-- one more word before the end of a prefix
pub turned : (w : Word) (vs ws : List Word) → reverse vs ++ (w ∷ ws) ≡ reverse (w ∷ vs) ++ ws
turned w vs ws = sym (append_assoc (reverse vs) (w ∷ []) ws) ∙ ap (λ (us : List Word). us ++ ws) (sym (reverse_onto vs w []))

abbrev pub step_of : Word → ℤ → ℤ → PathStep
step_of w c z = record { word = w; connection = c; total = z }

pub step_is : (s : PathStep) (w : Word) (c z : ℤ) → s.word ≡ w → s.connection ≡ c → s.total ≡ z → s ≡ step_of w c z
step_is s w c z word connection total =
    ap (λ (x : Word). step_of x s.connection s.total) word
    ∙ ap (λ (x : ℤ). step_of w x s.total) connection
    ∙ ap (λ (x : ℤ). step_of w c x) total

-- ---- costs

module _ (conn : ℕ → ℕ → ℤ) where
  pub cost_tail : (ws tail : List Word) (right : ℕ) (total : ℤ) → total +ℤ cost_after conn right (ws ++ tail) ≡ total_after conn right total ws +ℤ cost_after conn (right_after right ws) tail
  cost_tail [] tail right total = refl
  cost_tail (w ∷ ws) tail right total =
      let more = cost_tail ws tail w.right ((total +ℤ conn right w.left) +ℤ w.cost) in
      omega (arith, ints, more)

  pub cost_prefix : (vs ws : List Word) → path_cost conn (reverse vs ++ ws) ≡ cost_to conn vs +ℤ cost_after conn (last_right vs) ws
  cost_prefix [] ws = omega (arith, ints)
  cost_prefix (v ∷ vs) ws =
      let more = cost_prefix vs (v ∷ ws) in
      let turn = ap (path_cost conn) (turned v vs ws) in
      omega (arith, ints, more, turn)

  -- ---- steps

  pub steps_append : (us ws : List Word) (right : ℕ) (total : ℤ) → steps_after conn right total (us ++ ws) ≡ steps_after conn right total us ++ steps_after conn (right_after right us) (total_after conn right total us) ws
  steps_append [] ws right total = refl
  steps_append (u ∷ us) ws right total =
      let sum = (total +ℤ conn right u.left) +ℤ u.cost in
      ap (λ (xs : List PathStep). step_of u (conn right u.left) sum ∷ xs) (steps_append us ws u.right sum)

  -- a step before steps that follow its word
  pub steps_cons : (right : ℕ) (total : ℤ) (s : PathStep) (rest : List PathStep) → s.connection ≡ conn right s.word.left → s.total ≡ (total +ℤ conn right s.word.left) +ℤ s.word.cost
      → rest ≡ steps_after conn s.word.right s.total (words_of rest) → s ∷ rest ≡ steps_after conn right total (words_of (s ∷ rest))
  steps_cons right total s rest connection sum are =
      let same = step_is s s.word (conn right s.word.left) ((total +ℤ conn right s.word.left) +ℤ s.word.cost) refl connection sum in
      ap (λ (x : PathStep). x ∷ rest) same
      ∙ ap (λ (xs : List PathStep). step_of s.word (conn right s.word.left) ((total +ℤ conn right s.word.left) +ℤ s.word.cost) ∷ xs)
      (are ∙ ap (λ (z : ℤ). steps_after conn s.word.right z (words_of rest)) sum)

  -- steps one after another
  pub steps_joined : (xs ys : List PathStep) (right : ℕ) (total : ℤ) → xs ≡ steps_after conn right total (words_of xs) → ys ≡ steps_after conn (right_after right (words_of xs)) (total_after conn right total (words_of xs)) (words_of ys)
      → xs ++ ys ≡ steps_after conn right total (words_of (xs ++ ys))
  steps_joined xs ys right total first second =
      ap (λ (zs : List PathStep). zs ++ ys) first
      ∙ ap (λ (zs : List PathStep). steps_after conn right total (words_of xs) ++ zs) second
      ∙ sym (steps_append (words_of xs) (words_of ys) right total)
      ∙ ap (steps_after conn right total) (sym (map-append (λ (s : PathStep). s.word) xs ys))

pub right_append : (us ws : List Word) (right : ℕ) → right_after right (us ++ ws) ≡ right_after (right_after right us) ws
right_append [] ws right = refl
right_append (u ∷ us) ws right = right_append us ws u.right

pub total_append : (conn : ℕ → ℕ → ℤ) (us ws : List Word) (right : ℕ) (total : ℤ) → total_after conn right total (us ++ ws) ≡ total_after conn (right_after right us) (total_after conn right total us) ws
total_append conn [] ws right total = refl
total_append conn (u ∷ us) ws right total = total_append conn us ws u.right ((total +ℤ conn right u.left) +ℤ u.cost)

pub off_append : (best : List Word) (xs ys : List PathStep) → AreOff best xs → AreOff best ys → AreOff best (xs ++ ys)
off_append best [] ys h g = g
off_append best (x ∷ xs) ys h g = (h.0, off_append best xs ys h.1 g)

-- ---- a path at one of its words

pub record IsSplit (words : ℕ → List Word) (path : List Word) (w : Word) (to : ℕ) : Type 0 where
  pub before : List Word
  pub after : List Word
  pub is : path ≡ reverse (w ∷ before) ++ after
  pub prefix_chain : IsChainTo words (w ∷ before) w.end
  pub suffix_chain : IsChain words w.end after to

module _ (words : ℕ → List Word) (len : ℕ) (are : AreWords words len) where
  split_from : (ws vs : List Word) (at to i : ℕ) (w : Word) → IsChainTo words vs at → IsChain words at ws to → slice_get ws i ≡ Some w → IsSplit words (reverse vs ++ ws) w to
  split_from [] vs at to i w v h g = absurd (cc)
  split_from (u ∷ ws) vs at to zero w v h g =
      let p = are.places at u h.0 in
      subst (λ (x : Word). IsSplit words (reverse vs ++ (u ∷ ws)) x to) (same_Some u w g) (record {
        before = vs;
        after = ws;
        is = turned u vs ws;
        prefix_chain = (refl, subst (λ (q : ℕ). Contains (words q) u) (sym p) h.0, subst (IsChainTo words vs) (sym p) v);
        suffix_chain = h.1;
      })
  split_from (u ∷ ws) vs at to (suc i) w v h g =
      let p = are.places at u h.0 in
      let prefix_chain : IsChainTo words (u ∷ vs) u.end = (refl, subst (λ (q : ℕ). Contains (words q) u) (sym p) h.0, subst (IsChainTo words vs) (sym p) v) in
      subst (λ (us : List Word). IsSplit words us w to) (sym (turned u vs ws)) (split_from ws (u ∷ vs) u.end to i w prefix_chain h.1 g)

  pub split_at : (path : List Word) (to : ℕ) (w : Word) → IsChain words 0 path to → Contains path w → IsSplit words path w to
  split_at path to w h c =
      let g = get_from_Contains path w c in
      split_from path [] 0 to g.0 w refl h g.1
