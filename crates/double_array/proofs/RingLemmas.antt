-- The ring of free cells, after a cell is removed or linked.
use Rattle.std.proofs.Common.{◌≡◌, ◌≢◌, ℕ, zero, suc, ◌<◌, pos, negsuc, neg_ℤ, List, length, ◌⊎◌, inl, inr, sym, ap, ◌∙◌, refl, arith, subst}
use Rattle.std.proofs.lemmas.Bool.{cases_eq, cases_lt}
use Rattle.std.proofs.lemmas.List.{get_or_past}
use Rattle.mj_model.specs.CellMap.{Cell, free_cell, base, check}
use Rattle.mj_model.proofs.Basics.{same_pos}
use Rattle.double_array.specs.Ring.{HasLinks, IsOnRing, IsRing}
use Rattle.double_array.specs.Ring.IsOnRing.{first, further}

pub same_neg : (m n : ℕ) → neg_ℤ (pos m) ≡ neg_ℤ (pos n) → m ≡ n
same_neg zero zero h = refl
same_neg zero (suc n) h = absurd (let e : pos 0 ≡ negsuc n = h in cc)
same_neg (suc m) zero h = absurd (let e : negsuc m ≡ pos 0 = h in cc)
same_neg (suc m) (suc n) h = let e : negsuc m ≡ negsuc n = h in cc

pub linked_within : (cells : List Cell) (i : ℕ) → HasLinks cells i → i < length cells
linked_within cells i l = elim (cases_lt i (length cells)) [
  | inl less ↦ less
  | inr past ↦
      let e : base cells i ≡ pos 0 = ap (λ (x : Cell). x.0) (get_or_past cells i free_cell past) in
      let z = same_pos l.next 0 (sym l.next_is ∙ e) in let a = l.next_above in absurd (omega (arith, z, a))
]

pub next_of : (cells : List Cell) (i : ℕ) → IsRing cells → (l : HasLinks cells i) → HasLinks cells l.next × (check cells l.next ≡ neg_ℤ (pos i))
next_of cells i ring l = ring.next i l.next l l.next_is

pub before_of : (cells : List Cell) (i : ℕ) → IsRing cells → (l : HasLinks cells i) → HasLinks cells l.before × (base cells l.before ≡ pos i)
before_of cells i ring l = ring.before i l.before l l.before_is

pub on_ring_linked : (cells : List Cell) (i : ℕ) → IsRing cells → IsOnRing cells i → HasLinks cells i
on_ring_linked cells i ring first = ring.first
on_ring_linked cells j ring (further {i} on e) = (ring.next i j (on_ring_linked cells i ring on) e).0

-- no cell but the first is its own next one
no_loop : (cells : List Cell) (i j : ℕ) → IsRing cells → (l : HasLinks cells i) → l.next ≡ i → (i ≡ 1 → ⊥) → IsOnRing cells j → j ≡ i → ⊥
no_loop cells i j ring l loop inner first same = inner (sym same)
no_loop cells i j ring l loop inner (further {i = k} on e) same =
    let at_k : check cells i ≡ neg_ℤ (pos k) = subst (λ (x : ℕ). check cells x ≡ neg_ℤ (pos k)) same (ring.next k j (on_ring_linked cells k ring on) e).1 in
    let at_i : check cells i ≡ neg_ℤ (pos i) = subst (λ (x : ℕ). check cells x ≡ neg_ℤ (pos i)) loop (next_of cells i ring l).1 in
    no_loop cells i k ring l loop inner on (same_neg k i (sym at_k ∙ at_i))

pub next_is_other : (cells : List Cell) (i : ℕ) → IsRing cells → (l : HasLinks cells i) → (i ≡ 1 → ⊥) → l.next ≡ i → ⊥
next_is_other cells i ring l inner loop = no_loop cells i i ring l loop inner (ring.reached i l) refl

-- ---- a cell is removed from the ring

module _ (old new : List Cell) (i : ℕ) (ring : IsRing old) (l : HasLinks old i) (inner : i ≡ 1 → ⊥)
    (gone : HasLinks new i → ⊥)
    (base_before : base new l.before ≡ pos l.next)
    (base_rest : (j : ℕ) → j ≢ i → j ≢ l.before → base new j ≡ base old j)
    (check_next : check new l.next ≡ neg_ℤ (pos l.before))
    (check_rest : (j : ℕ) → j ≢ i → j ≢ l.next → check new j ≡ check old j) where
  n_links : HasLinks old l.next × (check old l.next ≡ neg_ℤ (pos i))
  n_links = next_of old i ring l

  p_links : HasLinks old l.before × (base old l.before ≡ pos i)
  p_links = before_of old i ring l

  n_other : l.next ≢ i
  n_other = next_is_other old i ring l inner

  p_other : l.before ≢ i
  p_other e =
      let at : base old i ≡ pos i = subst (λ (k : ℕ). base old k ≡ pos i) e p_links.1 in
      n_other (same_pos l.next i (sym l.next_is ∙ at))

  stays : (j : ℕ) → j ≢ i → HasLinks old j → HasLinks new j
  stays j other k =
      let next : (n : ℕ) × (0 < n) × (base new j ≡ pos n) = elim (cases_eq j l.before) [
        | inl e ↦ (l.next, l.next_above, subst (λ (x : ℕ). base new x ≡ pos l.next) (sym e) base_before)
        | inr no_p ↦ (k.next, k.next_above, base_rest j other no_p ∙ k.next_is)
      ] in
      let before : (p : ℕ) × (0 < p) × (check new j ≡ neg_ℤ (pos p)) = elim (cases_eq j l.next) [
        | inl e ↦ (l.before, l.before_above, subst (λ (x : ℕ). check new x ≡ neg_ℤ (pos l.before)) (sym e) check_next)
        | inr no_n ↦ (k.before, k.before_above, check_rest j other no_n ∙ k.before_is)
      ] in
      record { above = k.above; next = next.0; before = before.0; next_above = next.1; before_above = before.1; next_is = next.2; before_is = before.2 }

  was : (j : ℕ) → HasLinks new j → (j ≢ i) × HasLinks old j
  was j k =
      let other : j ≢ i = λ e. gone (subst (HasLinks new) e k) in (
        other,
        elim (cases_eq j l.before) [
          | inl e ↦ subst (HasLinks old) (sym e) p_links.0
          | inr no_p ↦ elim (cases_eq j l.next) [
            | inl e ↦ subst (HasLinks old) (sym e) n_links.0
            | inr no_n ↦ record { above = k.above; next = k.next; before = k.before; next_above = k.next_above; before_above = k.before_above; next_is = sym (base_rest j other no_p) ∙ k.next_is; before_is = sym (check_rest j other no_n) ∙ k.before_is }
          ]
        ],
      )

  next_in : (j n : ℕ) → HasLinks new j → base new j ≡ pos n → HasLinks new n × (check new n ≡ neg_ℤ (pos j))
  next_in j n k at =
      let o = was j k in
      elim (cases_eq j l.before) [
        | inl e ↦
            let n_is : l.next ≡ n = same_pos l.next n (sym base_before ∙ subst (λ (x : ℕ). base new x ≡ pos n) e at) in
            subst (λ (x : ℕ). HasLinks new x × (check new x ≡ neg_ℤ (pos j))) n_is
            (stays l.next n_other n_links.0, subst (λ (x : ℕ). check new l.next ≡ neg_ℤ (pos x)) (sym e) check_next)
        | inr no_p ↦
            let old_next = ring.next j n o.1 (sym (base_rest j o.0 no_p) ∙ at) in
            let no_i : n ≢ i = λ e. no_p (sym (same_neg l.before j (sym l.before_is ∙ subst (λ (x : ℕ). check old x ≡ neg_ℤ (pos j)) e old_next.1))) in
            let no_n : n ≢ l.next = λ e. o.0 (sym (same_neg i j (sym n_links.1 ∙ subst (λ (x : ℕ). check old x ≡ neg_ℤ (pos j)) e old_next.1))) in
            (stays n no_i old_next.0, check_rest n no_i no_n ∙ old_next.1)
      ]

  before_in : (j p : ℕ) → HasLinks new j → check new j ≡ neg_ℤ (pos p) → HasLinks new p × (base new p ≡ pos j)
  before_in j p k at =
      let o = was j k in
      elim (cases_eq j l.next) [
        | inl e ↦
            let p_is : l.before ≡ p = same_neg l.before p (sym check_next ∙ subst (λ (x : ℕ). check new x ≡ neg_ℤ (pos p)) e at) in
            subst (λ (x : ℕ). HasLinks new x × (base new x ≡ pos j)) p_is
            (stays l.before p_other p_links.0, subst (λ (x : ℕ). base new l.before ≡ pos x) (sym e) base_before)
        | inr no_n ↦
            let old_before = ring.before j p o.1 (sym (check_rest j o.0 no_n) ∙ at) in
            let no_i : p ≢ i = λ e. no_n (sym (same_pos l.next j (sym l.next_is ∙ subst (λ (x : ℕ). base old x ≡ pos j) e old_before.1))) in
            let no_p : p ≢ l.before = λ e. o.0 (sym (same_pos i j (sym p_links.1 ∙ subst (λ (x : ℕ). base old x ≡ pos j) e old_before.1))) in
            (stays p no_i old_before.0, base_rest p no_i no_p ∙ old_before.1)
      ]

  abbrev StillOn : ℕ → Type 0
  StillOn j = (j ≢ i → IsOnRing new j) × (j ≡ i → IsOnRing new l.before)

  still_on : (j : ℕ) → IsOnRing old j → StillOn j
  still_on j first = ((λ h. first), (λ e. absurd (inner (sym e))))
  still_on j (further {i = k} on e) =
      let ih = still_on k on in
      let k_links = on_ring_linked old k ring on in
      let j_check = (ring.next k j k_links e).1 in (
        (λ no_i. elim (cases_eq k i) [
          | inl same ↦
              let j_is : l.next ≡ j = same_pos l.next j (sym l.next_is ∙ subst (λ (x : ℕ). base old x ≡ pos j) same e) in
              further (ih.1 same) (base_before ∙ ap pos j_is)
          | inr other ↦
              let no_p : k ≢ l.before = λ same. no_i (same_pos j i (sym (subst (λ (x : ℕ). base old x ≡ pos j) same e) ∙ p_links.1)) in
              further (ih.0 other) (base_rest k other no_p ∙ e)
        ]),
        (λ is_i. elim (cases_eq k i) [
          | inl same ↦ ih.1 same
          | inr other ↦
              let k_is : k ≡ l.before = same_neg k l.before (sym (subst (λ (x : ℕ). check old x ≡ neg_ℤ (pos k)) is_i j_check) ∙ l.before_is) in
              subst (IsOnRing new) k_is (ih.0 other)
        ]),
      )

  pub ring_without : IsRing new
  ring_without = record {
    first = stays 1 (λ e. inner (sym e)) ring.first;
    next = next_in;
    before = before_in;
    reached = λ j k. let o = was j k in (still_on j (ring.reached j o.1)).0 o.0;
  }

  pub links_without : (j : ℕ) → j ≢ i → HasLinks old j → HasLinks new j
  links_without = stays

-- ---- a cell is linked into the ring

module _ (old new : List Cell) (i a n : ℕ) (ring : IsRing old) (l : HasLinks old a) (next_is : base old a ≡ pos n) (outside : HasLinks old i → ⊥) (above : 0 < i)
    (base_new : base new i ≡ pos n)
    (base_after : base new a ≡ pos i)
    (base_rest : (j : ℕ) → j ≢ i → j ≢ a → base new j ≡ base old j)
    (check_new : check new i ≡ neg_ℤ (pos a))
    (check_next : check new n ≡ neg_ℤ (pos i))
    (check_rest : (j : ℕ) → j ≢ i → j ≢ n → check new j ≡ check old j) where
  a_next : HasLinks old n × (check old n ≡ neg_ℤ (pos a))
  a_next = ring.next a n l next_is

  inside_is_other : (j : ℕ) → HasLinks old j → j ≢ i
  inside_is_other j k e = outside (subst (HasLinks old) e k)

  keeps : (j : ℕ) → HasLinks old j → HasLinks new j
  keeps j k =
      let other = inside_is_other j k in
      let next : (m : ℕ) × (0 < m) × (base new j ≡ pos m) = elim (cases_eq j a) [
        | inl e ↦ (i, above, subst (λ (x : ℕ). base new x ≡ pos i) (sym e) base_after)
        | inr no_a ↦ (k.next, k.next_above, base_rest j other no_a ∙ k.next_is)
      ] in
      let before : (p : ℕ) × (0 < p) × (check new j ≡ neg_ℤ (pos p)) = elim (cases_eq j n) [
        | inl e ↦ (i, above, subst (λ (x : ℕ). check new x ≡ neg_ℤ (pos i)) (sym e) check_next)
        | inr no_n ↦ (k.before, k.before_above, check_rest j other no_n ∙ k.before_is)
      ] in
      record { above = k.above; next = next.0; before = before.0; next_above = next.1; before_above = before.1; next_is = next.2; before_is = before.2 }

  joined : HasLinks new i
  joined = record { above = above; next = n; before = a; next_above = a_next.0.above; before_above = l.above; next_is = base_new; before_is = check_new }

  had : (j : ℕ) → HasLinks new j → (j ≡ i) ⊎ HasLinks old j
  had j k = elim (cases_eq j i) [
    | inl e ↦ inl e
    | inr other ↦ inr (elim (cases_eq j a) [
      | inl e ↦ subst (HasLinks old) (sym e) l
      | inr no_a ↦ elim (cases_eq j n) [
        | inl e ↦ subst (HasLinks old) (sym e) a_next.0
        | inr no_n ↦ record { above = k.above; next = k.next; before = k.before; next_above = k.next_above; before_above = k.before_above; next_is = sym (base_rest j other no_a) ∙ k.next_is; before_is = sym (check_rest j other no_n) ∙ k.before_is }
      ]
    ])
  ]

  next_on : (j m : ℕ) → HasLinks new j → base new j ≡ pos m → HasLinks new m × (check new m ≡ neg_ℤ (pos j))
  next_on j m k at = elim (had j k) [
    | inl e ↦
        let m_is : n ≡ m = same_pos n m (sym base_new ∙ subst (λ (x : ℕ). base new x ≡ pos m) e at) in
        subst (λ (x : ℕ). HasLinks new x × (check new x ≡ neg_ℤ (pos j))) m_is
        (keeps n a_next.0, subst (λ (x : ℕ). check new n ≡ neg_ℤ (pos x)) (sym e) check_next)
    | inr o ↦ elim (cases_eq j a) [
      | inl e ↦
          let m_is : i ≡ m = same_pos i m (sym base_after ∙ subst (λ (x : ℕ). base new x ≡ pos m) e at) in
          subst (λ (x : ℕ). HasLinks new x × (check new x ≡ neg_ℤ (pos j))) m_is
          (joined, subst (λ (x : ℕ). check new i ≡ neg_ℤ (pos x)) (sym e) check_new)
      | inr no_a ↦
          let old_next = ring.next j m o (sym (base_rest j (inside_is_other j o) no_a) ∙ at) in
          let no_n : m ≢ n = λ e. no_a (sym (same_neg a j (sym a_next.1 ∙ subst (λ (x : ℕ). check old x ≡ neg_ℤ (pos j)) e old_next.1))) in
          (keeps m old_next.0, check_rest m (inside_is_other m old_next.0) no_n ∙ old_next.1)
    ]
  ]

  before_on : (j p : ℕ) → HasLinks new j → check new j ≡ neg_ℤ (pos p) → HasLinks new p × (base new p ≡ pos j)
  before_on j p k at = elim (had j k) [
    | inl e ↦
        let p_is : a ≡ p = same_neg a p (sym check_new ∙ subst (λ (x : ℕ). check new x ≡ neg_ℤ (pos p)) e at) in
        subst (λ (x : ℕ). HasLinks new x × (base new x ≡ pos j)) p_is
        (keeps a l, subst (λ (x : ℕ). base new a ≡ pos x) (sym e) base_after)
    | inr o ↦ elim (cases_eq j n) [
      | inl e ↦
          let p_is : i ≡ p = same_neg i p (sym check_next ∙ subst (λ (x : ℕ). check new x ≡ neg_ℤ (pos p)) e at) in
          subst (λ (x : ℕ). HasLinks new x × (base new x ≡ pos j)) p_is
          (joined, subst (λ (x : ℕ). base new i ≡ pos x) (sym e) base_new)
      | inr no_n ↦
          let old_before = ring.before j p o (sym (check_rest j (inside_is_other j o) no_n) ∙ at) in
          let no_a : p ≢ a = λ e. no_n (sym (same_pos n j (sym next_is ∙ subst (λ (x : ℕ). base old x ≡ pos j) e old_before.1))) in
          (keeps p old_before.0, base_rest p (inside_is_other p old_before.0) no_a ∙ old_before.1)
    ]
  ]

  on_still : (j : ℕ) → IsOnRing old j → IsOnRing new j
  on_still j first = first
  on_still j (further {i = k} on e) =
      let k_links = on_ring_linked old k ring on in
      elim (cases_eq k a) [
        | inl same ↦
            let j_is : n ≡ j = same_pos n j (sym next_is ∙ subst (λ (x : ℕ). base old x ≡ pos j) same e) in
            let at_a : IsOnRing new a = subst (IsOnRing new) same (on_still k on) in
            further (further at_a base_after) (base_new ∙ ap pos j_is)
        | inr other ↦ further (on_still k on) (base_rest k (inside_is_other k k_links) other ∙ e)
      ]

  pub ring_with : IsRing new
  ring_with = record {
    first = keeps 1 ring.first;
    next = next_on;
    before = before_on;
    reached = λ j k. elim (had j k) [
      | inl e ↦ subst (IsOnRing new) (sym e) (further (on_still a (ring.reached a l)) base_after)
      | inr o ↦ on_still j (ring.reached j o)
    ];
  }

  pub links_with : (j : ℕ) → HasLinks old j → HasLinks new j
  links_with = keeps

  pub link_with : HasLinks new i
  link_with = joined
