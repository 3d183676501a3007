-- The best rivals of all words of a path, as nodes are visited. A node can only replace words that
-- start inside it, and these are consecutive.
use Rattle.std.proofs.Common.{◌≡◌, ℕ, ◌+◌, ◌<◌, ◌≤◌, List, length, set, Option, None, Some, inl, inr, refl, sym, ap, ◌∙◌, subst, arith, get_or, slice_get}
use Rattle.std.specs.Prelude.{ℤ}
use Rattle.std.proofs.lemmas.Bool.{cases_lt}
use Rattle.std.proofs.lemmas.List.{length-set}
use Rattle.std.proofs.lemmas.Option.{get_or_from_slice_get, same_Some, slice_get-get_or, slice_get_within}
use Rattle.mj_model.specs.declared.word.Word.{Word}
use Rattle.viterbi.specs.declared.nodes.lattice_node.LatticeNode.{LatticeNode}
use Rattle.viterbi.specs.Nodes.OnPath.{AreByPlace, HaveRisingPlaces, IsFirstAt}
use Rattle.viterbi.proofs.Lists.{get_written}
use Rattle.viterbi.specs.Rivals.AllRivals.{AreBestRivals, AreBetter}
use Rattle.viterbi.specs.Rivals.Rivals.{AreOfLattice}
use Rattle.viterbi.specs.Rivals.Steps.{IsBetter}
use Rattle.viterbi.specs.declared.rivals.rival.Rival.{Rival}
use Rattle.viterbi.proofs.RivalLemmas.{SoFar, best_of_all, none_yet, one_further}

-- ---- one node

-- it was offered to the words before a number
pub record IsOfferedTo (path : List Word) (number : ℕ) (n : LatticeNode) (first : ℕ) (bests : List (Option Rival)) (count : ℕ) (result : List (Option Rival)) : Type 0 where
  pub from : first ≤ count
  pub long : length result ≡ length bests
  pub past : (k : ℕ) (w : Word) (best after : Option Rival) → k < count → slice_get path k ≡ Some w → slice_get bests k ≡ Some best → slice_get result k ≡ Some after → IsBetter best number n w after
  pub rest : (k : ℕ) (best after : Option Rival) → count ≤ k → slice_get bests k ≡ Some best → slice_get result k ≡ Some after → after ≡ best

module _ (path : List Word) (rising : HaveRisingPlaces path) (number : ℕ) (n : LatticeNode) (first : ℕ) (is_first : IsFirstAt path 0 n.word.place first) (bests : List (Option Rival)) where
  -- it doesn't replace a word that starts before it
  before_it : (k : ℕ) (w : Word) (best after : Option Rival) → k < first → slice_get path k ≡ Some w → after ≡ best → IsBetter best number n w after
  before_it k w best after less at same = inr (record {
    no_less = λ cost through takes. let low = is_first.before k w (omega arith) less at in let up = takes.0.0 in absurd (omega (arith, low, up));
    is = same;
  })

  pub offered_none : IsOfferedTo path number n first bests first bests
  offered_none = record {
    from = omega arith;
    long = refl;
    past = λ k w best after less at_w at_best at_after. before_it k w best after less at_w (same_Some after best (sym at_after ∙ at_best));
    rest = λ k best after low at_best at_after. same_Some after best (sym at_after ∙ at_best);
  }

  pub offered_more : (count : ℕ) (w : Word) (best found : Option Rival) (result after : List (Option Rival)) → slice_get path count ≡ Some w → slice_get result count ≡ Some best → IsBetter best number n w found → after ≡ set result count found → IsOfferedTo path number n first bests count result
      → IsOfferedTo path number n first bests (count + 1) after
  offered_more count w best found result after at_w at_best better written so_far = subst (IsOfferedTo path number n first bests (count + 1)) (sym written) (record {
    from = let low = so_far.from in omega (arith, low);
    long = length-set result count found ∙ so_far.long;
    past = λ k v old new less at_v at_old at_new. elim (get_written result count k found new at_new) [
      | inl here ↦
          (let is_w : w ≡ v = same_Some w v (sym at_w ∙ ap (slice_get path) (sym here.0) ∙ at_v) in
          let is_best : best ≡ old = so_far.rest count old best (omega arith) (ap (slice_get bests) (sym here.0) ∙ at_old) at_best in
          subst (IsBetter old number n v) here.1 (subst (λ (x : Word). IsBetter old number n x found) is_w (subst (λ (o : Option Rival). IsBetter o number n w found) is_best better)))
      | inr there ↦ (let differs = there.0 in so_far.past k v old new (omega (arith, less, differs)) at_v at_old there.1)
    ];
    rest = λ k old new low at_old at_new. elim (get_written result count k found new at_new) [
      | inl here ↦ (let e = here.0 in absurd (omega (arith, e, low)))
      | inr there ↦ so_far.rest k old new (omega (arith, low)) at_old there.1
    ];
  })

  -- nor a word that starts after it
  pub offered_all : (count : ℕ) (result : List (Option Rival)) → ((w : Word) → slice_get path count ≡ Some w → n.word.end ≤ w.place) → length bests ≡ length path → IsOfferedTo path number n first bests count result → AreBetter path bests number n result
  offered_all count result next_ones long so_far = record {
    long = so_far.long;
    each = λ k w best after at_w at_best at_after. elim (cases_lt k count) [
      | inl less ↦ so_far.past k w best after less at_w at_best at_after
      | inr more ↦ inr (record {
        no_less = λ cost through takes.
            let within = slice_get_within path k w at_w in
            let v = get_or path count w in
            let at_v = slice_get-get_or path count w (omega (arith, more, within)) in
            let high = next_ones v at_v in
            let up = takes.0.1 in
            absurd (elim (cases_lt count k) [
              | inl less ↦ (let rise = rising count k v w less at_v at_w in omega (arith, high, rise, up))
              | inr le ↦
                  (let same : v ≡ w = same_Some v w (sym at_v ∙ ap (slice_get path) (omega (arith, more, le)) ∙ at_w) in
                  let e = ap (λ (x : Word). x.place) same in
                  omega (arith, high, e, up))
            ]);
        is = so_far.rest k best after more at_best at_after;
      })
    ];
  }

-- ---- all nodes

module _ (nodes : List LatticeNode) (path : List Word) where
  -- for each word the best rival among the nodes before a number, and the number of the first word
  -- that does not start before these
  pub record AreBestTo (count next : ℕ) (bests : List (Option Rival)) : Type 0 where
    pub long : length bests ≡ length path
    pub each : (k : ℕ) (w : Word) (o : Option Rival) → slice_get path k ≡ Some w → slice_get bests k ≡ Some o → SoFar nodes w count o
    pub within : next ≤ length path
    pub next_ones : (k i : ℕ) (w : Word) (n : LatticeNode) → k < next → count ≤ i → slice_get path k ≡ Some w → slice_get nodes i ≡ Some n → w.place < n.word.place

  pub best_none : (bests : List (Option Rival)) → length bests ≡ length path → ((k : ℕ) → k < length path → get_or bests k None ≡ None) → AreBestTo 0 0 bests
  best_none bests long none = record {
    long = long;
    each = λ k w o at_w at_o. subst (SoFar nodes w 0) (sym (none k (slice_get_within path k w at_w)) ∙ get_or_from_slice_get bests k o None at_o) (none_yet nodes w);
    within = omega arith;
    next_ones = λ k i w n less low at_w at_n. absurd (omega (arith, less));
  }

  module _ (by_place : AreByPlace nodes) (count next found : ℕ) (n : LatticeNode) (bests : List (Option Rival)) (here : slice_get nodes count ≡ Some n) (is : IsFirstAt path next n.word.place found) (so_far : AreBestTo count next bests) where
    before_place : (k : ℕ) (w : Word) → k < found → slice_get path k ≡ Some w → w.place < n.word.place
    before_place k w less at = elim (cases_lt k next) [
      | inl low ↦ so_far.next_ones k count w n low (omega arith) at here
      | inr high ↦ is.before k w high less at
    ]

    pub first_of_all : IsFirstAt path 0 n.word.place found
    first_of_all = record { low = omega arith; within = is.within; before = λ k w low less at. before_place k w less at; there = is.there }

    pub best_more : (after : List (Option Rival)) → AreBetter path bests count n after → AreBestTo (count + 1) found after
    best_more after better = record {
      long = better.long ∙ so_far.long;
      each = λ k w o at_w at_o.
          let low = slice_get_within path k w at_w in
          let long = so_far.long in
          let old = get_or bests k None in
          let at_old = slice_get-get_or bests k None (omega (arith, low, long)) in
          one_further nodes w count n old o here (better.each k w old o at_w at_old at_o) (so_far.each k w old at_w at_old);
      within = is.within;
      next_ones = λ k i w m less low at_w at_m.
          let a = before_place k w less at_w in
          let b = by_place count i n m (omega (arith, low)) here at_m in
          omega (arith, a, b);
    }

  pub best_all : (words : ℕ → List Word) (conn : ℕ → ℕ → ℤ) (len : ℕ) → AreOfLattice words conn len nodes → (next : ℕ) (bests : List (Option Rival)) → AreBestTo (length nodes) next bests → AreBestRivals words conn nodes path bests
  best_all words conn len lattice next bests all = record {
    long = all.long;
    each = λ k w o at_w at_o. best_of_all words conn len nodes lattice w o (all.each k w o at_w at_o);
  }
