-- Nodes and a path visited together: the words before the next one are at positions before that of
-- any remaining node.
use Rattle.std.proofs.Common.{◌≡◌, ℕ, zero, suc, ◌+◌, ◌<◌, ◌≤◌, List, [], ◌∷◌, ◌++◌, Bool, true, length, map, Contains, Some, inl, inr, refl, sym, ap, ◌∙◌, subst, arith, get_or, slice_get}
use Rattle.std.specs.Prelude.{◌↔◌}
use Rattle.std.specs.Option.{option_map}
use Rattle.std.proofs.lemmas.Bool.{cases_lt, cases_order}
use Rattle.std.proofs.lemmas.List.{length_push}
use Rattle.std.proofs.lemmas.Option.{same_Some, slice_get-get_or, slice_get-map, slice_get_within}
use Rattle.mj_model.specs.declared.word.Word.{Word}
use Rattle.mj_model.specs.Best.{AreWords}
use Rattle.mj_model.specs.Paths.{IsChain}
use Rattle.viterbi.proofs.Pushed.{Contains_from_get, get_from_Contains, get_push_cases}
use Rattle.viterbi.proofs.WordNumbers.{no_word}
use Rattle.viterbi.specs.declared.nodes.lattice_node.LatticeNode.{LatticeNode}
use Rattle.viterbi.specs.Nodes.LatticeNodes.{AreReachableBefore}
use Rattle.viterbi.specs.Nodes.OnPath.{AreByPlace, AreOnPath, HaveRisingPlaces, IsFirstAt, IsWordAt}

-- ---- the next word

pub before_more : (path : List Word) (from place number : ℕ) → number < length path → (get_or path number no_word).place < place
    → ((k : ℕ) (w : Word) → from ≤ k → k < number → slice_get path k ≡ Some w → w.place < place) → (k : ℕ) (w : Word) → from ≤ k → k < number + 1 → slice_get path k ≡ Some w → w.place < place
before_more path from place number within here before k w low less at = elim (cases_lt k number) [
  | inl earlier ↦ before k w low earlier at
  | inr more ↦
      let same : number ≡ k = omega (arith, less, more) in
      let is : get_or path number no_word ≡ w = same_Some (get_or path number no_word) w (sym (slice_get-get_or path number no_word within) ∙ ap (slice_get path) same ∙ at) in
      subst (λ (x : Word). x.place < place) is here
]

pub first_there : (path : List Word) (from place number : ℕ) → from ≤ number → number < length path → place ≤ (get_or path number no_word).place
    → ((k : ℕ) (w : Word) → from ≤ k → k < number → slice_get path k ≡ Some w → w.place < place) → IsFirstAt path from place number
first_there path from place number low within here before = record {
  low = low;
  within = omega (arith, within);
  before = before;
  there = λ w at.
      let is : get_or path number no_word ≡ w = same_Some (get_or path number no_word) w (sym (slice_get-get_or path number no_word within) ∙ at) in
      subst (λ (x : Word). place ≤ x.place) is here;
}

pub first_past : (path : List Word) (from place number : ℕ) → from ≤ number → number ≤ length path → length path ≤ number
    → ((k : ℕ) (w : Word) → from ≤ k → k < number → slice_get path k ≡ Some w → w.place < place) → IsFirstAt path from place number
first_past path from place number low within past before = record {
  low = low;
  within = within;
  before = before;
  there = λ w at. let l = slice_get_within path number w at in absurd (omega (arith, l, past));
}

-- ---- nodes and path

module _ (nodes : List LatticeNode) (path : List Word) where
  -- the first nodes are marked, and the words before a number are at positions before that of each
  -- other node
  pub record AreMarkedTo (count next : ℕ) (on : List Bool) : Type 0 where
    pub long : length on ≡ count
    pub each : (i : ℕ) (n : LatticeNode) (b : Bool) → slice_get nodes i ≡ Some n → slice_get on i ≡ Some b → (b ≡ true) ↔ Contains path n.word
    pub within : next ≤ length path
    pub next_ones : (k i : ℕ) (w : Word) (n : LatticeNode) → k < next → count ≤ i → slice_get path k ≡ Some w → slice_get nodes i ≡ Some n → w.place < n.word.place

  pub reported_none : AreMarkedTo 0 0 []
  reported_none = record {
    long = refl;
    each = λ i n b at_n at_b. absurd (cc);
    within = omega arith;
    next_ones = λ k i w n less low at_w at_n. absurd (omega (arith, less));
  }

  module _ (by_place : AreByPlace nodes) (rising : HaveRisingPlaces path) (count next found : ℕ) (on after : List Bool) (n : LatticeNode) (outcome : Bool) (at : slice_get nodes count ≡ Some n) (first : IsFirstAt path next n.word.place found) (is : IsWordAt path found n.word outcome) (pushed : after ≡ on ++ outcome ∷ []) (reported : AreMarkedTo count next on) where
    -- a word before it is at an earlier position
    before_it : (k : ℕ) (w : Word) → k < found → slice_get path k ≡ Some w → w.place < n.word.place
    before_it k w less at_w = elim (cases_lt k next) [
      | inl low ↦ reported.next_ones k count w n low (omega arith) at_w at
      | inr high ↦ first.before k w high less at_w
    ]

    -- a later one is at a later position
    after_it : (k : ℕ) → found < k → slice_get path k ≡ Some n.word → ⊥
    after_it k more at_k =
        let long = slice_get_within path k n.word at_k in
        let v = get_or path found n.word in
        let here = slice_get-get_or path found n.word (omega (arith, more, long)) in
        let low = first.there v here in
        let rise = rising found k v n.word more here at_k in
        omega (arith, low, rise)

    -- so if the node's word is on the path, it is found
    found_at : Contains path n.word → slice_get path found ≡ Some n.word
    found_at c =
        let g = get_from_Contains path n.word c in
        elim (cases_order g.0 found) [
          | inl same ↦ ap (slice_get path) (sym same) ∙ g.1
          | inr (inl less) ↦ (let low = before_it g.0 n.word less g.1 in absurd (omega (arith, low)))
          | inr (inr more) ↦ absurd (after_it g.0 more g.1)
        ]

    pub reported_more : AreMarkedTo (count + 1) found after
    reported_more = record {
      long = let e = reported.long in ap length pushed ∙ (let more = length_push on outcome in omega (arith, more, e));
      each = λ i m b at_m at_b. elim (get_push_cases on outcome i b (ap (λ (xs : List Bool). slice_get xs i) (sym pushed) ∙ at_b)) [
        | inl old ↦ reported.each i m b at_m old
        | inr new ↦
            (let same : n ≡ m = same_Some n m (sym at ∙ ap (slice_get nodes) (sym (new.0 ∙ reported.long)) ∙ at_m) in
            subst (λ (x : LatticeNode). (b ≡ true) ↔ Contains path x.word) same
            (subst (λ (x : Bool). (x ≡ true) ↔ Contains path n.word) new.1
            (λ yes_it_is. Contains_from_get path found n.word (is.0 yes_it_is), λ c. is.1 (found_at c))))
      ];
      within = first.within;
      next_ones = λ k i w m less low at_w at_m.
          let a = before_it k w less at_w in
          let b = by_place count i n m (omega (arith, low)) at at_m in
          omega (arith, a, b);
    }

  -- all nodes
  pub reported_all : (next : ℕ) (on : List Bool) → AreMarkedTo (length nodes) next on → AreOnPath nodes path on
  reported_all next on reported = record { long = reported.long; each = reported.each }

-- ---- the nodes of a lattice and the words of a path are in order

pub lattice_by_place : (words : ℕ → List Word) (p : ℕ) (nodes : List LatticeNode) → AreReachableBefore words p (map (λ (n : LatticeNode). n.word) nodes) → AreByPlace nodes
lattice_by_place words p nodes are i j m n less at_m at_n =
    let word = λ (x : LatticeNode). x.word in
    let a = slice_get-map word nodes i ∙ ap (option_map word) at_m in
    let b = slice_get-map word nodes j ∙ ap (option_map word) at_n in
    elim (are.in_order i j m.word n.word less a b) [ inl earlier ↦ omega (arith, earlier) | inr same ↦ (let e = same.0 in omega (arith, e)) ]

module _ (words : ℕ → List Word) (len : ℕ) (are : AreWords words len) where
  not_before : (ws : List Word) (p to k : ℕ) (w : Word) → IsChain words p ws to → slice_get ws k ≡ Some w → p ≤ w.place
  not_before [] p to k w h at = absurd (cc)
  not_before (v ∷ vs) p to zero w h at = let e = ap (λ (x : Word). x.place) (same_Some v w at) in let f = are.places p v h.0 in omega (arith, e, f)
  not_before (v ∷ vs) p to (suc k) w h at =
      let on = are.go_on p v h.0 in
      let more = not_before vs v.end to k w h.1 at in
      omega (arith, on, more)

  pub path_rises : (ws : List Word) (p to : ℕ) → IsChain words p ws to → HaveRisingPlaces ws
  path_rises [] p to h i j v w less at_v at_w = absurd (cc)
  path_rises (u ∷ us) p to h i zero v w less at_v at_w = absurd (omega (arith, less))
  path_rises (u ∷ us) p to h zero (suc j) v w less at_v at_w =
      let e = ap (λ (x : Word). x.place) (same_Some u v at_v) in
      let f = are.places p u h.0 in
      let on = are.go_on p u h.0 in
      let more = not_before us u.end to j w h.1 at_w in
      omega (arith, e, f, on, more)
  path_rises (u ∷ us) p to h (suc i) (suc j) v w less at_v at_w = path_rises us u.end to h.1 i j v w (omega (arith, less)) at_v at_w
