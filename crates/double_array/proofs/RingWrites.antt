-- The writes that remove a cell from the ring or link it there.
use Rattle.std.proofs.Common.{◌≡◌, ◌≢◌, ℕ, zero, suc, ◌+◌, ◌<◌, ◌≤◌, ℤ, pos, negsuc, neg_ℤ, List, length, set, inl, inr, sym, ap, ◌∙◌, refl, arith, subst}
use Rattle.std.proofs.lemmas.Bool.{cases_eq}
use Rattle.std.proofs.lemmas.List.{length-set, set-get_or}
use Rattle.mj_model.specs.CellMap.{Cell, free_cell, cell_at, base, check}
use Rattle.mj_model.proofs.Basics.{same_pos}
use Rattle.double_array.specs.Views.{hide, cell_views}
use Rattle.double_array.specs.Ring.{HasLinks, IsRing, AreLinked}
use Rattle.double_array.proofs.ViewLemmas.{at_same, at_other, seen_set, seen_at, seen_root, seen_free, length-seen}
use Rattle.double_array.proofs.RingLemmas.{same_neg, linked_within, next_of, before_of, next_is_other, ring_without, links_without, ring_with, links_with, link_with}

-- the links of a cell by the numbers that were read
pub links_by : (cells : List Cell) (i n p : ℕ) → HasLinks cells i → base cells i ≡ pos n → check cells i ≡ neg_ℤ (pos p) → HasLinks cells i
links_by cells i n p l at_n at_p = record {
  above = l.above;
  next = n;
  before = p;
  next_above = subst (λ (x : ℕ). 0 < x) (same_pos l.next n (sym l.next_is ∙ at_n)) l.next_above;
  before_above = subst (λ (x : ℕ). 0 < x) (same_neg l.before p (sym l.before_is ∙ at_p)) l.before_above;
  next_is = at_n;
  before_is = at_p;
}

-- a write of a base
base-set_next : (cells : List Cell) (i n j : ℕ) → j ≢ i → base (set cells i (pos n, check cells i)) j ≡ base cells j
base-set_next cells i n j other = ap (λ (x : Cell). x.0) (at_other cells i j (pos n, check cells i) other)

check-set_next : (cells : List Cell) (i n j : ℕ) → i < length cells → check (set cells i (pos n, check cells i)) j ≡ check cells j
check-set_next cells i n j within = elim (cases_eq j i) [
  | inl e ↦ ap (check (set cells i (pos n, check cells i))) e ∙ ap (λ (x : Cell). x.1) (at_same cells i (pos n, check cells i) within) ∙ ap (check cells) (sym e)
  | inr other ↦ ap (λ (x : Cell). x.1) (at_other cells i j (pos n, check cells i) other)
]

-- a write of a check
check-set_before : (cells : List Cell) (i p j : ℕ) → j ≢ i → check (set cells i (base cells i, neg_ℤ (pos p))) j ≡ check cells j
check-set_before cells i p j other = ap (λ (x : Cell). x.1) (at_other cells i j (base cells i, neg_ℤ (pos p)) other)

base-set_before : (cells : List Cell) (i p j : ℕ) → i < length cells → base (set cells i (base cells i, neg_ℤ (pos p))) j ≡ base cells j
base-set_before cells i p j within = elim (cases_eq j i) [
  | inl e ↦ ap (base (set cells i (base cells i, neg_ℤ (pos p)))) e ∙ ap (λ (x : Cell). x.0) (at_same cells i (base cells i, neg_ℤ (pos p)) within) ∙ ap (base cells) (sym e)
  | inr other ↦ ap (λ (x : Cell). x.0) (at_other cells i j (base cells i, neg_ℤ (pos p)) other)
]

pub same_base_and_check : (old new : List Cell) (j : ℕ) → base new j ≡ base old j → check new j ≡ check old j → cell_at new j ≡ cell_at old j
same_base_and_check old new j at_b at_k = ap (λ (b : ℤ). (b, check new j)) at_b ∙ ap (λ (k : ℤ). (base old j, k)) at_k

-- the state after a cell is removed from the ring and filled
pub record IsTaken (old new : List Cell) (i : ℕ) (x : Cell) : Type 0 where
  pub ring : IsRing new
  pub links : (j : ℕ) → j ≢ i → HasLinks old j → HasLinks new j
  pub seen_is : cell_views new ≡ set (cell_views old) i x

pub no_links : (cells : List Cell) (i s : ℕ) → check cells i ≡ pos s → HasLinks cells i → ⊥
no_links cells i s at l = from_neg l.before l.before_above (sym l.before_is ∙ at) where
  from_neg : (p : ℕ) → 0 < p → neg_ℤ (pos p) ≡ pos s → ⊥
  from_neg zero above e = omega (arith, above)
  from_neg (suc p) above e = let f : negsuc p ≡ pos s = e in cc

pub seen_link : (old new : List Cell) (j : ℕ) → HasLinks old j → HasLinks new j → cell_at (cell_views new) j ≡ cell_at (cell_views old) j
seen_link old new j k l = seen_free new j l.before l.above l.before_above l.before_is ∙ sym (seen_free old j k.before k.above k.before_above k.before_is)

pub seen_same : (old new : List Cell) (j : ℕ) → cell_at new j ≡ cell_at old j → cell_at (cell_views new) j ≡ cell_at (cell_views old) j
seen_same old new zero e = seen_root new ∙ e ∙ sym (seen_root old)
seen_same old new (suc j) e = seen_at new (suc j) (omega arith) ∙ ap hide e ∙ sym (seen_at old (suc j) (omega arith))

pub taken_by_writes : (old one two new : List Cell) (i n p s : ℕ) (b : ℤ) → IsRing old → HasLinks old i → base old i ≡ pos n → check old i ≡ neg_ℤ (pos p) → 2 ≤ i
    → one ≡ set old p (pos n, check old p) → two ≡ set one n (base one n, neg_ℤ (pos p)) → new ≡ set two i (b, pos s) → IsTaken old new i (b, pos s)
unfolding links_by
taken_by_writes old one two new i n p s b ring k at_n at_p inner e1 e2 e3 =
    let l : HasLinks old i = links_by old i n p k at_n at_p in
    let no_one : i ≡ 1 → ⊥ = λ e. omega (arith, e, inner) in
    let next = next_of old i ring l in
    let before = before_of old i ring l in
    let p_in : p < length old = linked_within old p before.0 in
    let n_in : n < length one = let w = linked_within old n next.0 in rw (e1, length-set) w in
    let i_in : i < length two = let w = linked_within old i k in rw (e2, length-set, e1, length-set) w in
    let base_two : (j : ℕ) → base two j ≡ base one j = λ j. rw e2 (base-set_before one n p j n_in) in
    let check_one : (j : ℕ) → check one j ≡ check old j = λ j. rw e1 (check-set_next old p n j p_in) in
    let cell_new : (j : ℕ) → j ≢ i → cell_at new j ≡ cell_at two j = λ j other. rw e3 (at_other two i j (b, pos s) other) in
    let at_i : cell_at new i ≡ (b, pos s) = rw e3 (at_same two i (b, pos s) i_in) in
    let gone : HasLinks new i → ⊥ = no_links new i s (ap (λ (x : Cell). x.1) at_i) in
    let base_p : p ≢ i → base new p ≡ pos n = λ other. ap (λ (x : Cell). x.0) (cell_new p other) ∙ base_two p ∙ rw e1 (ap (λ (x : Cell). x.0) (at_same old p (pos n, check old p) p_in)) in
    let base_rest : (j : ℕ) → j ≢ i → j ≢ p → base new j ≡ base old j = λ j other no_p. ap (λ (x : Cell). x.0) (cell_new j other) ∙ base_two j ∙ rw e1 (base-set_next old p n j no_p) in
    let check_n : n ≢ i → check new n ≡ neg_ℤ (pos p) = λ other. ap (λ (x : Cell). x.1) (cell_new n other) ∙ rw e2 (ap (λ (x : Cell). x.1) (at_same one n (base one n, neg_ℤ (pos p)) n_in)) in
    let check_rest : (j : ℕ) → j ≢ i → j ≢ n → check new j ≡ check old j = λ j other no_n. ap (λ (x : Cell). x.1) (cell_new j other) ∙ rw e2 (check-set_before one n p j no_n) ∙ check_one j in
    let n_other : n ≢ i = next_is_other old i ring l no_one in
    let p_other : p ≢ i = λ e. let at : base old i ≡ pos i = subst (λ (x : ℕ). base old x ≡ pos i) e before.1 in n_other (same_pos n i (sym at_n ∙ at)) in
    let links : (j : ℕ) → j ≢ i → HasLinks old j → HasLinks new j = links_without old new i ring l no_one gone (base_p p_other) base_rest (check_n n_other) check_rest in
    let long : length new ≡ length old = rw (e3, length-set, e2, length-set, e1, length-set) refl in
    record {
      ring = ring_without old new i ring l no_one gone (base_p p_other) base_rest (check_n n_other) check_rest;
      links = links;
      seen_is = seen_set old new i (b, pos s) long (linked_within old i k) (seen_at new i k.above ∙ ap hide at_i) (λ j other. elim (cases_eq j p) [
        | inl e ↦ let h : HasLinks old j = subst (HasLinks old) (sym e) before.0 in seen_link old new j h (links j other h)
        | inr no_p ↦ elim (cases_eq j n) [
          | inl e ↦ let h : HasLinks old j = subst (HasLinks old) (sym e) next.0 in seen_link old new j h (links j other h)
          | inr no_n ↦ seen_same old new j (same_base_and_check old new j (base_rest j other no_p) (check_rest j other no_n))
        ]
      ]);
    }

-- the state after a cell is linked into the ring
pub record IsJoined (old new : List Cell) (i : ℕ) : Type 0 where
  pub ring : IsRing new
  pub links : (j : ℕ) → HasLinks old j → HasLinks new j
  pub linked : HasLinks new i
  pub others : (j : ℕ) → j ≢ i → (HasLinks old j → ⊥) → cell_at new j ≡ cell_at old j
  pub seen_is : cell_views new ≡ set (cell_views old) i free_cell

pub joined_by_writes : (old one two new : List Cell) (i a n : ℕ) → IsRing old → (HasLinks old i → ⊥) → HasLinks old a → base old a ≡ pos n → 0 < i → i < length old
    → one ≡ set old a (pos i, check old a) → two ≡ set one i (pos n, neg_ℤ (pos a)) → new ≡ set two n (base two n, neg_ℤ (pos i)) → IsJoined old new i
joined_by_writes old one two new i a n ring outside l at_n above within e1 e2 e3 =
    let next = ring.next a n l at_n in
    let n_other : n ≢ i = λ e. outside (subst (HasLinks old) e next.0) in
    let a_other : a ≢ i = λ e. outside (subst (HasLinks old) e l) in
    let a_in : a < length old = linked_within old a l in
    let i_in : i < length one = rw (e1, length-set) within in
    let n_in : n < length two = let w = linked_within old n next.0 in rw (e2, length-set, e1, length-set) w in
    let base_new : (j : ℕ) → base new j ≡ base two j = λ j. rw e3 (base-set_before two n i j n_in) in
    let check_one : (j : ℕ) → check one j ≡ check old j = λ j. rw e1 (check-set_next old a i j a_in) in
    let cell_two : (j : ℕ) → j ≢ i → cell_at two j ≡ cell_at one j = λ j other. rw e2 (at_other one i j (pos n, neg_ℤ (pos a)) other) in
    let at_two : cell_at two i ≡ (pos n, neg_ℤ (pos a)) = rw e2 (at_same one i (pos n, neg_ℤ (pos a)) i_in) in
    let base_i : base new i ≡ pos n = base_new i ∙ ap (λ (x : Cell). x.0) at_two in
    let base_a : base new a ≡ pos i = base_new a ∙ ap (λ (x : Cell). x.0) (cell_two a a_other) ∙ rw e1 (ap (λ (x : Cell). x.0) (at_same old a (pos i, check old a) a_in)) in
    let base_rest : (j : ℕ) → j ≢ i → j ≢ a → base new j ≡ base old j = λ j other no_a. base_new j ∙ ap (λ (x : Cell). x.0) (cell_two j other) ∙ rw e1 (base-set_next old a i j no_a) in
    let check_new : (j : ℕ) → j ≢ n → check new j ≡ check two j = λ j no_n. rw e3 (check-set_before two n i j no_n) in
    let check_i : check new i ≡ neg_ℤ (pos a) = check_new i (λ e. n_other (sym e)) ∙ ap (λ (x : Cell). x.1) at_two in
    let check_n : check new n ≡ neg_ℤ (pos i) = rw e3 (ap (λ (x : Cell). x.1) (at_same two n (base two n, neg_ℤ (pos i)) n_in)) in
    let check_rest : (j : ℕ) → j ≢ i → j ≢ n → check new j ≡ check old j = λ j other no_n. check_new j no_n ∙ ap (λ (x : Cell). x.1) (cell_two j other) ∙ check_one j in
    let links : (j : ℕ) → HasLinks old j → HasLinks new j = links_with old new i a n ring l at_n outside above base_i base_a base_rest check_i check_n check_rest in
    let linked : HasLinks new i = link_with old new i a n ring l at_n outside above base_i base_a base_rest check_i check_n check_rest in
    let long : length new ≡ length old = rw (e3, length-set, e2, length-set, e1, length-set) refl in
    record {
      ring = ring_with old new i a n ring l at_n outside above base_i base_a base_rest check_i check_n check_rest;
      links = links;
      linked = linked;
      others = λ j other out. same_base_and_check old new j (base_rest j other (λ e. out (subst (HasLinks old) (sym e) l))) (check_rest j other (λ e. out (subst (HasLinks old) (sym e) next.0)));
      seen_is = seen_set old new i free_cell long within (seen_free new i linked.before linked.above linked.before_above linked.before_is) (λ j other. elim (cases_eq j a) [
        | inl e ↦ let h : HasLinks old j = subst (HasLinks old) (sym e) l in seen_link old new j h (links j h)
        | inr no_a ↦ elim (cases_eq j n) [
          | inl e ↦ let h : HasLinks old j = subst (HasLinks old) (sym e) next.0 in seen_link old new j h (links j h)
          | inr no_n ↦ seen_same old new j (same_base_and_check old new j (base_rest j other no_a) (check_rest j other no_n))
        ]
      ]);
    }

-- ---- cells are linked one after another

free_has_no_links : (cells : List Cell) (i : ℕ) → cell_at cells i ≡ free_cell → HasLinks cells i → ⊥
free_has_no_links cells i free l = let a = l.next_above in let z = same_pos l.next 0 (sym l.next_is ∙ ap (λ (x : Cell). x.0) free) in omega (arith, a, z)

pub record IsLinkedUpTo (old cells : List Cell) (i : ℕ) : Type 0 where
  pub ring : IsRing cells
  pub linked : AreLinked cells i
  pub free : (j : ℕ) → i ≤ j → cell_at cells j ≡ free_cell
  pub links : (j : ℕ) → HasLinks old j → HasLinks cells j
  pub seen_is : cell_views cells ≡ cell_views old
  pub long : length cells ≡ length old

pub linked_one_more : (old cells new : List Cell) (i : ℕ) → 0 < i → i < length cells → IsLinkedUpTo old cells i → IsJoined cells new i → IsLinkedUpTo old new (i + 1)
linked_one_more old cells new i above within k j =
    let free_i : cell_at (cell_views cells) i ≡ free_cell = seen_at cells i above ∙ ap hide (k.free i (omega arith)) in
    let same : cell_views new ≡ cell_views cells = j.seen_is ∙ ap (set (cell_views cells) i) (sym free_i) ∙ set-get_or (cell_views cells) i free_cell in
    record {
      ring = j.ring;
      linked = λ m up less free. elim (cases_eq m i) [
        | inl e ↦ subst (HasLinks new) (sym e) j.linked
        | inr other ↦ j.links m (k.linked m up (omega (arith, less, other)) (sym (ap (λ (xs : List Cell). cell_at xs m) same) ∙ free))
      ];
      free = λ m more. let fm = k.free m (omega (arith, more)) in j.others m (λ e. omega (arith, e, more)) (free_has_no_links cells m fm) ∙ fm;
      links = λ m h. j.links m (k.links m h);
      seen_is = same ∙ k.seen_is;
      long = sym (length-seen new) ∙ ap length same ∙ length-seen cells ∙ k.long;
    }
