-- The end nodes that are left are those whose rank is recorded for their right id: the first of
-- least forward cost that has it.
use Rattle.std.proofs.Common.{◌≡◌, ℕ, ◌+◌, ◌<◌, List, [], ◌∷◌, ◌++◌, set, length, get_or, Some, inl, inr, sym, ap, ◌∙◌, subst, arith, slice_get}
use Rattle.std.specs.Prelude.{◌≤ℤ◌}
use Rattle.std.proofs.lemmas.Int.{ints, by_lt_z}
use Rattle.std.proofs.lemmas.Bool.{cases_lt, cases_eq}
use Rattle.std.proofs.lemmas.List.{length_push}
use Rattle.std.proofs.lemmas.Option.{same_Some, slice_get_within, get_or_from_slice_get, slice_get-get_or}
use Rattle.viterbi.specs.declared.search.node.EndNode.{EndNode}
use Rattle.viterbi.specs.Search.Slots.{KeepsSlots}
use Rattle.viterbi.specs.Search.PrunedEndNodes.{ArePrunedFrom, AreRecorded, HaveDistinctRightIds, IsNotCostlier, IsSuperseded, RecordedEndNodes, Supersedes}
use Rattle.viterbi.proofs.Pushed.{get_push_cases, get_push_new, get_push_old}
use Rattle.viterbi.proofs.SlotLemmas.{other_slot, slot_written}

-- ---- recording

module _ (ends : List EndNode) where
  -- with more slots
  pub recorded_kept : (count : ℕ) (ranks after : List ℕ) → KeepsSlots ranks after → AreRecorded ends count ranks → AreRecorded ends count after
  recorded_kept count ranks after kept are i x less at =
      let s = are i x less at in
      record { rank = s.rank; end = s.end; recorded = kept x.right s.rank s.recorded; within = s.within; here = s.here; serves = s.serves }

  -- among more end nodes
  served_among : (count : ℕ) (ranks : List ℕ) (i : ℕ) (x : EndNode) → IsSuperseded ends count ranks i x → IsSuperseded ends (count + 1) ranks i x
  served_among count ranks i x s = record { rank = s.rank; end = s.end; recorded = s.recorded; within = (let w = s.within in omega (arith, w)); here = s.here; serves = s.serves }

  -- the recorded end node replaces one more
  pub record_stays : (count : ℕ) (ranks : List ℕ) (x : EndNode) (recorded : ℕ) → slice_get ends count ≡ Some x → slice_get ranks x.right ≡ Some recorded → IsNotCostlier ends recorded count → AreRecorded ends count ranks → AreRecorded ends (count + 1) ranks
  record_stays count ranks x recorded at slot no_more are i y less got = elim (cases_lt i count) [
    | inl before ↦ served_among count ranks i y (are i y before got)
    | inr after ↦
        let same : count ≡ i = omega (arith, less, after) in
        let is : no_more.other ≡ y = same_Some no_more.other y (sym no_more.there ∙ ap (slice_get ends) same ∙ got) in
        let slot_of : x ≡ y = same_Some x y (sym at ∙ ap (slice_get ends) same ∙ got) in
        let early = no_more.before in
        let cost : no_more.end.total ≤ℤ y.total = subst (λ (e : EndNode). no_more.end.total ≤ℤ e.total) is no_more.cost in
        record {
          rank = recorded;
          end = no_more.end;
          recorded = ap (λ (e : EndNode). slice_get ranks e.right) (sym slot_of) ∙ slot;
          within = omega (arith, early);
          here = no_more.here;
          serves = record {
            right = no_more.right ∙ ap (λ (e : EndNode). e.right) is;
            cost = by_lt_z no_more.end.total y.total (λ l. inl l) (λ m. inr (omega (arith, ints, cost, m), omega (arith, early, same)));
          };
        }
  ]

  -- otherwise one more is recorded itself
  pub record_set : (count : ℕ) (ranks : List ℕ) (x : EndNode) (recorded : ℕ) → slice_get ends count ≡ Some x → slice_get ranks x.right ≡ Some recorded → (IsNotCostlier ends recorded count → ⊥) → AreRecorded ends count ranks → AreRecorded ends (count + 1) (set ranks x.right count)
  record_set count ranks x recorded at slot more are i y less got =
      let room = slice_get_within ranks x.right recorded slot in
      elim (cases_eq y.right x.right) [
        | inl same ↦ record {
          rank = count;
          end = x;
          recorded = ap (slice_get (set ranks x.right count)) same ∙ slot_written ranks x.right count room;
          within = omega arith;
          here = at;
          serves = record {
            right = sym same;
            cost = elim (cases_lt i count) [
              | inl before ↦
                  let s = are i y before got in
                  let rank_is : s.rank ≡ recorded = same_Some s.rank recorded (sym s.recorded ∙ ap (slice_get ranks) same ∙ slot) in
                  let within : recorded < count = let w = s.within in omega (arith, w, rank_is) in
                  let here : slice_get ends recorded ≡ Some s.end = ap (slice_get ends) (sym rank_is) ∙ s.here in
                  let right : s.end.right ≡ x.right = s.serves.right ∙ same in
                  by_lt_z x.total s.end.total (λ l. elim s.serves.cost [ inl k ↦ inl (omega (arith, ints, l, k)) | inr k ↦ let e = k.0 in inl (omega (arith, ints, l, e)) ])
                  (λ m. absurd (more (record { end = s.end; other = x; before = within; here = here; there = at; right = right; cost = m })))
              | inr after ↦
                  let place : count ≡ i = omega (arith, less, after) in
                  let is : x ≡ y = same_Some x y (sym at ∙ ap (slice_get ends) place ∙ got) in
                  inr (ap (λ (e : EndNode). e.total) is, omega (arith, place))
            ];
          };
        }
        | inr differs ↦
            let before : i < count = elim (cases_lt i count) [
              | inl l ↦ l
              | inr after ↦
                  let place : count ≡ i = omega (arith, less, after) in
                  let is : x ≡ y = same_Some x y (sym at ∙ ap (slice_get ends) place ∙ got) in
                  absurd (differs (ap (λ (e : EndNode). e.right) (sym is)))
            ] in
            let s = are i y before got in
            record {
              rank = s.rank;
              end = s.end;
              recorded = other_slot ranks x.right count y.right s.rank differs s.recorded;
              within = (let w = s.within in omega (arith, w));
              here = s.here;
              serves = s.serves;
            }
      ]

-- ---- keeping

module _ (all : List EndNode) (recorded : List ℕ) where
  -- an end node whose rank is not recorded is dropped
  pub kept_past : (count : ℕ) (kept : List EndNode) (x : EndNode) → slice_get all count ≡ Some x → (slice_get recorded x.right ≡ Some count → ⊥) → RecordedEndNodes all recorded count kept → RecordedEndNodes all recorded (count + 1) kept
  kept_past count kept x at differs k = record {
    ranks = k.ranks;
    each = λ r q here. let o = k.each r q here in record { end = o.end; low = (let l = o.low in omega (arith, l)); here = o.here; there = o.there; slot = o.slot };
    long = k.long;
    rising = k.rising;
    found = λ q y less got slot. elim (cases_lt q count) [
      | inl before ↦ k.found q y before got slot
      | inr after ↦
          let same : q ≡ count = omega (arith, less, after) in
          let is : y ≡ x = same_Some y x (sym got ∙ ap (slice_get all) same ∙ at) in
          absurd (differs (ap (λ (e : EndNode). slice_get recorded e.right) (sym is) ∙ slot ∙ ap Some same))
    ];
  }

  -- an end node whose rank is recorded is kept
  pub kept_more : (count : ℕ) (kept after : List EndNode) (x : EndNode) → slice_get all count ≡ Some x → slice_get recorded x.right ≡ Some count → after ≡ kept ++ x ∷ [] → RecordedEndNodes all recorded count kept → RecordedEndNodes all recorded (count + 1) after
  kept_more count kept after x at slot pushed k = subst (RecordedEndNodes all recorded (count + 1)) (sym pushed) (record {
    ranks = k.ranks ++ count ∷ [];
    each = λ r q here. elim (get_push_cases k.ranks count r q here) [
      | inl old ↦ let o = k.each r q old in record { end = o.end; low = (let l = o.low in omega (arith, l)); here = get_push_old kept x r o.end o.here; there = o.there; slot = o.slot }
      | inr new ↦ record {
        end = x;
        low = (let same = new.1 in omega (arith, same));
        here = subst (λ (n : ℕ). slice_get (kept ++ x ∷ []) n ≡ Some x) (sym (new.0 ∙ k.long)) (get_push_new kept x);
        there = ap (slice_get all) (sym new.1) ∙ at;
        slot = slot ∙ ap Some new.1;
      }
    ];
    long = let a = length_push k.ranks count in let b = length_push kept x in let c = k.long in omega (arith, a, b, c);
    rising = λ a b i j less at_a at_b. elim (get_push_cases k.ranks count b j at_b) [
      | inl old_b ↦ elim (get_push_cases k.ranks count a i at_a) [
        | inl old_a ↦ k.rising a b i j less old_a old_b
        | inr new_a ↦ let w = slice_get_within k.ranks b j old_b in let z = new_a.0 in absurd (omega (arith, w, z, less))
      ]
      | inr new_b ↦ elim (get_push_cases k.ranks count a i at_a) [
        | inl old_a ↦ let low = (k.each a i old_a).low in let z = new_b.1 in omega (arith, low, z)
        | inr new_a ↦ let w = new_b.0 in let z = new_a.0 in absurd (omega (arith, w, z, less))
      ]
    ];
    found = λ q y less got here. elim (cases_lt q count) [
      | inl before ↦ let o = k.found q y before got here in (o.0, get_push_old k.ranks count o.0 q o.1, get_push_old kept x o.0 y o.2)
      | inr later ↦
          let same : count ≡ q = omega (arith, less, later) in
          let is : x ≡ y = same_Some x y (sym at ∙ ap (slice_get all) same ∙ got) in (
            length k.ranks,
            get_push_new k.ranks count ∙ ap Some same,
            subst (λ (n : ℕ). slice_get (kept ++ x ∷ []) n ≡ Some y) (sym k.long) (get_push_new kept x ∙ ap Some is),
          )
    ];
  })

  module _ (kept : List EndNode) (k : RecordedEndNodes all recorded (length all) kept) where
    abbrev rank_of : ℕ → ℕ
    rank_of r = get_or k.ranks r 0

    ranked : (r : ℕ) → r < length kept → slice_get k.ranks r ≡ Some (rank_of r)
    ranked r within = let long = k.long in slice_get-get_or k.ranks r 0 (omega (arith, within, long))

    -- a kept end node has its rank among all, and it is recorded
    of_kept : (r : ℕ) (e : EndNode) → slice_get kept r ≡ Some e → (slice_get all (rank_of r) ≡ Some e) × (slice_get recorded e.right ≡ Some (rank_of r))
    of_kept r e at =
        let o = k.each r (rank_of r) (ranked r (slice_get_within kept r e at)) in
        let is : o.end ≡ e = same_Some o.end e (sym o.here ∙ at) in
        (o.there ∙ ap Some is, ap (λ (x : EndNode). slice_get recorded x.right) (sym is) ∙ o.slot)

    pub kept_left : AreRecorded all (length all) recorded → ArePrunedFrom all kept
    kept_left are = record {
      rank = rank_of;
      each = λ r e at. (of_kept r e at).0;
      rising = λ a b less within. k.rising a b (rank_of a) (rank_of b) less (ranked a (omega (arith, less, within))) (ranked b within);
      served = λ i x at.
          let s = are i x (slice_get_within all i x at) at in
          let o = k.found s.rank s.end s.within s.here (ap (slice_get recorded) s.serves.right ∙ s.recorded) in
          let is : s.rank ≡ rank_of o.0 = sym (get_or_from_slice_get k.ranks o.0 s.rank 0 o.1) in
          (o.0, s.end, o.2, subst (λ (q : ℕ). Supersedes q s.end i x) is s.serves);
    }

    pub kept_once : HaveDistinctRightIds kept
    kept_once a b x y at_a at_b same =
        let p = (of_kept a x at_a).1 in
        let q = (of_kept b y at_b).1 in
        let equal : rank_of a ≡ rank_of b = same_Some (rank_of a) (rank_of b) (sym p ∙ ap (slice_get recorded) same ∙ q) in
        let low = slice_get_within kept a x at_a in
        let high = slice_get_within kept b y at_b in
        elim (cases_lt a b) [
          | inl less ↦ let rise = k.rising a b (rank_of a) (rank_of b) less (ranked a low) (ranked b high) in absurd (omega (arith, rise, equal))
          | inr more ↦ elim (cases_lt b a) [
            | inl less ↦ let rise = k.rising b a (rank_of b) (rank_of a) less (ranked b high) (ranked a low) in absurd (omega (arith, rise, equal))
            | inr le ↦ omega (arith, more, le)
          ]
        ]
