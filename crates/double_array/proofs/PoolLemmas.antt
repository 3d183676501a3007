-- A pool of cells after each change: exactly its free cells are on the ring.
use lib.Signed.{lt_z, le_z}
use mir.Val.{SFits}
use Rattle.std.proofs.Common.{Bool, true, false, ltb, get_or, to_z, of_z, w32}
use Rattle.std.proofs.lemmas.Int.{to_z-of_z}
use Rattle.std.proofs.lemmas.Bool.{ltb-true, le-leb}
use Rattle.std.proofs.Common.{◌≡◌, ◌≢◌, ℕ, ◌+◌, ◌-◌, ◌<◌, ◌≤◌, ◌^◌, max, ℤ, pos, negsuc, neg_ℤ, List, ◌++◌, length, set, replicate, slice_get, Some, ◌⊎◌, inl, inr, sym, ap, ◌∙◌, refl, arith, subst}
use Rattle.std.proofs.lemmas.Bool.{cases_eq, cases_lt}
use Rattle.std.proofs.lemmas.List.{length-set, length-append, length-replicate, get_or_append_left, get_or-append_right, get_or-replicate, get_or_past}
use Rattle.std.proofs.lemmas.Option.{slice_get-get_or, get_or_from_slice_get, slice_get_within}
use Rattle.mj_model.specs.CellMap.{Cell, free_cell, cell_at, base, check}
use Rattle.mj_model.proofs.Basics.{same_pos}
use Rattle.double_array.specs.Views.{cell_view, hide, cell_views}
use Rattle.double_array.specs.Ring.{HasLinks, IsOnRing, IsRing, AreLinked}
use Rattle.double_array.specs.Ring.IsOnRing.{first, further}
use Rattle.double_array.specs.Pool.{IsLowered, IsPool, IsInUse, IsGrown, IsEmpty, IsNew}
use Rattle.double_array.specs.Pool.IsInUse.{is_root, is_named}
use Rattle.double_array.proofs.ViewLemmas.{at_same, at_other, seen_set, seen_at, seen_root, seen_free, length-seen, used_seen}
use Rattle.double_array.proofs.RingLemmas.{same_neg, on_ring_linked}
use Rattle.double_array.proofs.RingWrites.{IsTaken, IsJoined, no_links, seen_same}

-- ---- the ring with the same links

module _ (old new : List Cell) (same : (j : ℕ) → HasLinks old j → cell_at new j ≡ cell_at old j) (was : (j : ℕ) → HasLinks new j → HasLinks old j) (ring : IsRing old) where
  links_same : (j : ℕ) → HasLinks old j → HasLinks new j
  links_same j l =
      let e = same j l in
      record { above = l.above; next = l.next; before = l.before; next_above = l.next_above; before_above = l.before_above; next_is = ap (λ (x : Cell). x.0) e ∙ l.next_is; before_is = ap (λ (x : Cell). x.1) e ∙ l.before_is }

  on_same : (j : ℕ) → IsOnRing old j → IsOnRing new j
  on_same j first = first
  on_same j (further {i = k} on e) = further (on_same k on) (ap (λ (x : Cell). x.0) (same k (on_ring_linked old k ring on)) ∙ e)

  pub ring_same : IsRing new
  ring_same = record {
    first = links_same 1 ring.first;
    next = λ i n l at.
        let o = was i l in
        let r = ring.next i n o (sym (ap (λ (x : Cell). x.0) (same i o)) ∙ at) in
        (links_same n r.0, ap (λ (x : Cell). x.1) (same n r.0) ∙ r.1);
    before = λ i p l at.
        let o = was i l in
        let r = ring.before i p o (sym (ap (λ (x : Cell). x.1) (same i o)) ∙ at) in
        (links_same p r.0, ap (λ (x : Cell). x.0) (same p r.0) ∙ r.1);
    reached = λ i l. on_same i (ring.reached i (was i l));
  }

  pub links_of_same : (j : ℕ) → HasLinks old j → HasLinks new j
  links_of_same = links_same

-- ---- reads

pub linked_if_free : (cells view : List Cell) (top start i : ℕ) → IsPool cells top start → cell_views cells ≡ view → cell_at view i ≡ free_cell → 0 < i → i < length view → HasLinks cells i
linked_if_free cells view top start i pool e free above within =
    pool.linked i above (let l = length-seen cells in let m = ap length e in omega (arith, l, m, within)) (ap (λ (xs : List Cell). cell_at xs i) e ∙ free)

pub long_seen : (cells view : List Cell) → cell_views cells ≡ view → length view ≡ length cells
long_seen cells view e = sym (ap length e) ∙ length-seen cells

-- ---- a free cell is used

pub pool_taken : (old new view : List Cell) (top start other i s : ℕ) (b : ℤ) → IsPool old top start → cell_views old ≡ view → IsTaken old new i (b, pos s) → HasLinks old other → other ≢ i → i < length old → i + 257 < length view
    → IsPool new (max top (i + 1)) other
pool_taken old new view top start other i s b pool e taken linked apart within room =
    let long : length new ≡ length old = sym (length-seen new) ∙ ap length taken.seen_is ∙ length-set (cell_views old) i (b, pos s) ∙ length-seen old in
    let view_long = long_seen old view e in
    let stays : (j : ℕ) → j ≢ i → cell_at (cell_views new) j ≡ cell_at (cell_views old) j = λ j no_i. rw taken.seen_is (at_other (cell_views old) i j (b, pos s) no_i) in
    let at_i : cell_at (cell_views new) i ≡ (b, pos s) = rw taken.seen_is (at_same (cell_views old) i (b, pos s) (let l = length-seen old in omega (arith, l, within))) in
    let used : (j : ℕ) → cell_at (cell_views new) j ≡ free_cell → j ≢ i = λ j free is_i. let k : pos s ≡ negsuc 0 = ap (λ (x : Cell). x.1) (sym at_i ∙ ap (cell_at (cell_views new)) (sym is_i) ∙ free) in absurd (cc) in
    record {
      ring = taken.ring;
      linked = λ j above less free. taken.links j (used j free) (pool.linked j above (omega (arith, less, long)) (sym (stays j (used j free)) ∙ free));
      start_free = taken.links other apart linked;
      beyond = λ j past. stays j (λ is_i. omega (arith, past, is_i)) ∙ pool.beyond j (omega (arith, past));
      room = let r = pool.room in omega (arith, long, view_long, r, room);
      low = let l = pool.low in omega (arith, l);
      few = let f = pool.few in omega (arith, f, long);
    }

-- ---- a used cell is put back

pub pool_joined : (old new view : List Cell) (top start i s : ℕ) → IsPool old top start → cell_views old ≡ view → IsJoined old new i → check view i ≡ pos s → IsPool new top start
pool_joined old new view top start i s pool e joined used =
    let seen_used : check (cell_views old) i ≡ pos s = ap (λ (xs : List Cell). check xs i) e ∙ used in
    let long : length new ≡ length old = sym (length-seen new) ∙ ap length joined.seen_is ∙ length-set (cell_views old) i free_cell ∙ length-seen old in
    let stays : (j : ℕ) → j ≢ i → cell_at (cell_views new) j ≡ cell_at (cell_views old) j = λ j no_i. rw joined.seen_is (at_other (cell_views old) i j free_cell no_i) in
    record {
      ring = joined.ring;
      linked = λ j above less free. elim (cases_eq j i) [
        | inl is_i ↦ subst (HasLinks new) (sym is_i) joined.linked
        | inr no_i ↦ joined.links j (pool.linked j above (omega (arith, less, long)) (sym (stays j no_i) ∙ free))
      ];
      start_free = joined.links start pool.start_free;
      beyond = λ j past. stays j (λ is_i. let k : negsuc 0 ≡ pos s = sym (ap (λ (x : Cell). x.1) (pool.beyond j past)) ∙ ap (check (cell_views old)) is_i ∙ seen_used in cc) ∙ pool.beyond j past;
      room = let r = pool.room in omega (arith, long, r);
      low = pool.low;
      few = let f = pool.few in omega (arith, f, long);
    }

pub used_no_links : (cells view : List Cell) (i s : ℕ) → cell_views cells ≡ view → check view i ≡ pos s → 0 < i → HasLinks cells i → ⊥
used_no_links cells view i s e used above =
    let seen_used : check (cell_views cells) i ≡ pos s = ap (λ (xs : List Cell). check xs i) e ∙ used in
    no_links cells i s (ap (λ (x : Cell). x.1) (used_seen cells i s seen_used above) ∙ seen_used)

pub used_within : (cells view : List Cell) (i s : ℕ) → cell_views cells ≡ view → check view i ≡ pos s → i < length cells
used_within cells view i s e used = elim (cases_lt i (length cells)) [
  | inl less ↦ less
  | inr past ↦ absurd (let k : check view i ≡ negsuc 0 = ap (λ (x : Cell). x.1) (get_or_past view i free_cell (let l = long_seen cells view e in omega (arith, l, past))) in cc)
]

-- ---- a used cell or the root is changed

-- the root or a used cell gets a new base and a new check
pub record IsRefilled (old new : List Cell) (top i : ℕ) (x : Cell) : Type 0 where
  pub none : HasLinks old i → ⊥
  pub none_new : HasLinks new i → ⊥
  pub filled : cell_at new i ≡ x
  pub others : (j : ℕ) → j ≢ i → cell_at new j ≡ cell_at old j
  pub long : length new ≡ length old
  pub shown : cell_at (cell_views new) i ≡ x
  pub within : i < length old
  pub below : i < top
  pub used : 0 < i → x ≡ free_cell → ⊥

pub refilled_seen : (old new view : List Cell) (top i : ℕ) (x : Cell) → cell_views old ≡ view → IsRefilled old new top i x → cell_views new ≡ set view i x
refilled_seen old new view top i x e r =
    seen_set old new i x r.long r.within r.shown (λ j other. seen_same old new j (r.others j other)) ∙ ap (λ (xs : List Cell). set xs i x) e

pub pool_refilled : (old new : List Cell) (top start i : ℕ) (x : Cell) → IsPool old top start → IsRefilled old new top i x → IsPool new top start
pool_refilled old new top start i x pool r =
    let long = r.long in
    let kept : (j : ℕ) → HasLinks old j → cell_at new j ≡ cell_at old j = λ j l. r.others j (λ e. r.none (subst (HasLinks old) e l)) in
    let was : (j : ℕ) → HasLinks new j → HasLinks old j = λ j l.
    let e = r.others j (λ is_i. r.none_new (subst (HasLinks new) is_i l)) in
    record { above = l.above; next = l.next; before = l.before; next_above = l.next_above; before_above = l.before_above; next_is = sym (ap (λ (y : Cell). y.0) e) ∙ l.next_is; before_is = sym (ap (λ (y : Cell). y.1) e) ∙ l.before_is } in
    let links = links_of_same old new kept was pool.ring in
    let stays : (j : ℕ) → j ≢ i → cell_at (cell_views new) j ≡ cell_at (cell_views old) j = λ j other. seen_same old new j (r.others j other) in
    record {
      ring = ring_same old new kept was pool.ring;
      linked = λ j above less free.
          let other : j ≢ i = λ is_i. r.used (subst (λ (k : ℕ). 0 < k) is_i above) (sym r.shown ∙ ap (cell_at (cell_views new)) (sym is_i) ∙ free) in
          links j (pool.linked j above (omega (arith, less, long)) (sym (stays j other) ∙ free));
      start_free = links start pool.start_free;
      beyond = λ j past. stays j (λ is_i. let b = r.below in omega (arith, past, is_i, b)) ∙ pool.beyond j past;
      room = let m = pool.room in omega (arith, long, m);
      low = pool.low;
      few = let f = pool.few in omega (arith, f, long);
    }

pub root_rebased : (old new view : List Cell) (top start : ℕ) (b : ℤ) → IsPool old top start → cell_views old ≡ view → 0 < length view → new ≡ set old 0 (b, check old 0) → IsRefilled old new top 0 (b, check view 0)
root_rebased old new view top start b pool e within filled =
    let same : check old 0 ≡ check view 0 = ap (λ (x : Cell). x.1) (sym (seen_root old)) ∙ ap (λ (xs : List Cell). check xs 0) e in
    let less : 0 < length old = let l = long_seen old view e in omega (arith, l, within) in
    let there : cell_at new 0 ≡ (b, check view 0) = rw filled (at_same old 0 (b, check old 0) less) ∙ ap (λ (k : ℤ). (b, k)) same in
    record {
      none = λ l. let a = l.above in omega (arith, a);
      none_new = λ l. let a = l.above in omega (arith, a);
      filled = there;
      others = λ j other. rw filled (at_other old 0 j (b, check old 0) other);
      long = ap length filled ∙ length-set old 0 (b, check old 0);
      shown = seen_root new ∙ there;
      within = less;
      below = let l = pool.low in omega (arith, l);
      used = λ above f. omega (arith, above);
    }

pub used_refilled : (old new view : List Cell) (top start i s t : ℕ) (b : ℤ) → IsPool old top start → cell_views old ≡ view → check view i ≡ pos s → 0 < i → new ≡ set old i (b, pos t) → IsRefilled old new top i (b, pos t)
used_refilled old new view top start i s t b pool e used above filled =
    let less = used_within old view i s e used in
    let there : cell_at new i ≡ (b, pos t) = rw filled (at_same old i (b, pos t) less) in
    record {
      none = used_no_links old view i s e used above;
      none_new = no_links new i t (ap (λ (x : Cell). x.1) there);
      filled = there;
      others = λ j other. rw filled (at_other old i j (b, pos t) other);
      long = ap length filled ∙ length-set old i (b, pos t);
      shown = seen_at new i above ∙ ap hide there;
      within = less;
      below = elim (cases_lt i top) [
        | inl below ↦ below
        | inr past ↦ absurd (let f = pool.beyond i past in let k : negsuc 0 ≡ pos s = sym (ap (λ (x : Cell). x.1) f) ∙ ap (λ (xs : List Cell). check xs i) e ∙ used in cc)
      ];
      used = λ up f. let k : pos t ≡ negsuc 0 = ap (λ (x : Cell). x.1) f in absurd (cc);
    }

-- the view of a used cell is the cell
pub seen_as_is : (cells view : List Cell) (i s : ℕ) → cell_views cells ≡ view → check view i ≡ pos s → 0 < i → cell_at cells i ≡ cell_at view i
seen_as_is cells view i s e used above =
    let seen_used : check (cell_views cells) i ≡ pos s = ap (λ (xs : List Cell). check xs i) e ∙ used in
    used_seen cells i s seen_used above ∙ ap (λ (xs : List Cell). cell_at xs i) e

pub based : (old new view : List Cell) (top start i : ℕ) (b : ℤ) → IsPool old top start → cell_views old ≡ view → IsInUse view i → i < length view → new ≡ set old i (b, check old i) → IsRefilled old new top i (b, check view i)
based old new view top start i b pool e is_root within filled = root_rebased old new view top start b pool e within filled
based old new view top start i b pool e (is_named {s = s} used) within filled = elim (cases_eq i 0) [
  | inl is_0 ↦
      subst (λ (k : ℕ). IsRefilled old new top k (b, check view k)) (sym is_0)
      (root_rebased old new view top start b pool e (omega (arith, within)) (subst (λ (k : ℕ). new ≡ set old k (b, check old k)) is_0 filled))
  | inr other ↦
      let above : 0 < i = omega (arith, other) in
      let same : check old i ≡ pos s = ap (λ (x : Cell). x.1) (seen_as_is old view i s e used above) ∙ used in
      subst (λ (k : ℤ). IsRefilled old new top i (b, k)) (sym used)
      (used_refilled old new view top start i s s b pool e used above (filled ∙ ap (λ (k : ℤ). set old i (b, k)) same))
]

pub rechecked : (old new view : List Cell) (top start i s t : ℕ) → IsPool old top start → cell_views old ≡ view → check view i ≡ pos s → 0 < i → new ≡ set old i (base old i, pos t) → IsRefilled old new top i (base view i, pos t)
rechecked old new view top start i s t pool e used above filled =
    let same : base old i ≡ base view i = ap (λ (x : Cell). x.0) (seen_as_is old view i s e used above) in
    used_refilled old new view top start i s t (base view i) pool e used above (filled ∙ ap (λ (b : ℤ). set old i (b, pos t)) same)

-- ---- growth

pub at_append_free : (cells : List Cell) (n i : ℕ) → cell_at (cells ++ replicate n free_cell) i ≡ cell_at cells i
at_append_free cells n i = elim (cases_lt i (length cells)) [
  | inl less ↦ get_or_append_left cells (replicate n free_cell) free_cell i less
  | inr past ↦
      get_or-append_right cells (replicate n free_cell) (length cells) i free_cell refl past ∙ free_there (i - length cells) ∙ sym (get_or_past cells i free_cell past)
] where
  free_there : (k : ℕ) → cell_at (replicate n free_cell) k ≡ free_cell
  free_there k = elim (cases_lt k n) [
    | inl less ↦ get_or-replicate n k free_cell free_cell less
    | inr past ↦ get_or_past (replicate n free_cell) k free_cell (let l = length-replicate n free_cell in omega (arith, l, past))
  ]

links_at : (old new : List Cell) (j : ℕ) → cell_at new j ≡ cell_at old j → HasLinks new j → HasLinks old j
links_at old new j e l = record { above = l.above; next = l.next; before = l.before; next_above = l.next_above; before_above = l.before_above; next_is = sym (ap (λ (y : Cell). y.0) e) ∙ l.next_is; before_is = sym (ap (λ (y : Cell). y.1) e) ∙ l.before_is }

module _ (old more : List Cell) (top start n : ℕ) (pool : IsPool old top start) (grown : more ≡ old ++ replicate n free_cell) where
  pub same_cells : (i : ℕ) → cell_at more i ≡ cell_at old i
  same_cells i = rw grown (at_append_free old n i)

  pub grown_ring : IsRing more
  grown_ring = ring_same old more (λ j l. same_cells j) (λ j l. links_at old more j (same_cells j) l) pool.ring

  grown_links : (j : ℕ) → HasLinks old j → HasLinks more j
  grown_links = links_of_same old more (λ j l. same_cells j) (λ j l. links_at old more j (same_cells j) l) pool.ring

  pub grown_linked : (from : ℕ) → from ≡ length old → AreLinked more from
  grown_linked from at j above less free = grown_links j (pool.linked j above (omega (arith, less, at)) (sym (seen_same old more j (same_cells j)) ∙ free))

  pub pool_grown : (new : List Cell) → IsRing new → AreLinked new (length new) → ((j : ℕ) → HasLinks more j → HasLinks new j) → cell_views new ≡ cell_views more → length old + n ≤ 2 ^ 30 → IsPool new top start
  pool_grown new ring linked links seen_is few =
      let long_more : length more ≡ length old + n = rw grown (length-append old (replicate n free_cell) ∙ ap (λ (k : ℕ). length old + k) (length-replicate n free_cell)) in
      let long : length new ≡ length old + n = sym (length-seen new) ∙ ap length seen_is ∙ length-seen more ∙ long_more in
      record {
        ring = ring;
        linked = linked;
        start_free = links start (grown_links start pool.start_free);
        beyond = λ j past. ap (λ (xs : List Cell). cell_at xs j) seen_is ∙ seen_same old more j (same_cells j) ∙ pool.beyond j past;
        room = let r = pool.room in omega (arith, long, r);
        low = pool.low;
        few = omega (arith, long, few);
      }

  pub grown_view : (new view : List Cell) (m : ℕ) → cell_views old ≡ view → cell_views new ≡ cell_views more → length old + n ≡ m → IsGrown view (cell_views new) m
  grown_view new view m e seen_is at =
      let long_more : length more ≡ length old + n = rw grown (length-append old (replicate n free_cell) ∙ ap (λ (k : ℕ). length old + k) (length-replicate n free_cell)) in
      record {
        same = λ i. ap (λ (xs : List Cell). cell_at xs i) seen_is ∙ seen_same old more i (same_cells i) ∙ ap (λ (xs : List Cell). cell_at xs i) e;
        long = ap length seen_is ∙ length-seen more ∙ long_more ∙ at;
      }

-- ---- a new pool

pub new_pool : (cells : List Cell) → IsNew cells 515 → IsPool cells 258 1
new_pool cells new =
    let long = new.long in
    record {
      ring = new.ring;
      linked = λ j above less free. new.linked j above (omega (arith, less, long)) free;
      start_free = new.ring.first;
      beyond = λ j past. new.free j (omega (arith, past));
      room = omega (arith, long);
      low = omega arith;
      few = omega (arith, long);
    }

pub new_view : (cells : List Cell) → IsNew cells 515 → IsEmpty (record { cells = cell_views cells; top = 258 })
new_view cells new = record { root = new.root; free = new.free; long = length-seen cells ∙ new.long; top_is = refl }

module _ (zero_cells one two : List Cell) (n : ℕ) (some : 2 ≤ n) (made : zero_cells ≡ replicate n free_cell) (rooted : one ≡ set zero_cells 0 (pos 2, negsuc 1)) (listed : two ≡ set one 1 (pos 1, negsuc 0)) where
  zero_free : (i : ℕ) → cell_at zero_cells i ≡ free_cell
  zero_free i = elim (cases_lt i n) [
    | inl less ↦ rw made (get_or-replicate n i free_cell free_cell less)
    | inr past ↦ rw made (get_or_past (replicate n free_cell) i free_cell (let l = length-replicate n free_cell in omega (arith, l, past)))
  ]

  pub two_long : length two ≡ n
  two_long = ap length listed ∙ length-set one 1 (pos 1, negsuc 0) ∙ ap length rooted ∙ length-set zero_cells 0 (pos 2, negsuc 1) ∙ ap length made ∙ length-replicate n free_cell

  one_long : length one ≡ n
  one_long = ap length rooted ∙ length-set zero_cells 0 (pos 2, negsuc 1) ∙ ap length made ∙ length-replicate n free_cell

  at_root : cell_at two 0 ≡ (pos 2, negsuc 1)
  at_root =
      ap (λ (xs : List Cell). cell_at xs 0) listed ∙ at_other one 1 0 (pos 1, negsuc 0) (λ e. omega (arith, e))
      ∙ ap (λ (xs : List Cell). cell_at xs 0) rooted ∙ (at_same zero_cells 0 (pos 2, negsuc 1) (let l = ap length made ∙ length-replicate n free_cell in omega (arith, l, some)))

  at_list : cell_at two 1 ≡ (pos 1, negsuc 0)
  at_list = rw listed (at_same one 1 (pos 1, negsuc 0) (let l = one_long in omega (arith, l, some)))

  pub at_rest : (i : ℕ) → 2 ≤ i → cell_at two i ≡ free_cell
  at_rest i above =
      ap (λ (xs : List Cell). cell_at xs i) listed ∙ at_other one 1 i (pos 1, negsuc 0) (λ e. omega (arith, e, above))
      ∙ ap (λ (xs : List Cell). cell_at xs i) rooted ∙ at_other zero_cells 0 i (pos 2, negsuc 1) (λ e. omega (arith, e, above)) ∙ zero_free i

  first_links : HasLinks two 1
  first_links = record { above = omega arith; next = 1; before = 1; next_above = omega arith; before_above = omega arith; next_is = ap (λ (x : Cell). x.0) at_list; before_is = ap (λ (x : Cell). x.1) at_list }

  only_first : (i : ℕ) → HasLinks two i → i ≡ 1
  only_first i l = elim (cases_lt i 2) [
    | inl less ↦ let a = l.above in omega (arith, a, less)
    | inr above ↦ absurd (let a = l.next_above in let z = same_pos l.next 0 (sym l.next_is ∙ ap (λ (x : Cell). x.0) (at_rest i above)) in omega (arith, a, z))
  ]

  pub one_ring : IsRing two
  one_ring = record {
    first = first_links;
    next = λ i m l at.
        let i_is = only_first i l in
        let m_is : m ≡ 1 = same_pos m 1 (sym at ∙ ap (base two) i_is ∙ ap (λ (x : Cell). x.0) at_list) in
        (subst (HasLinks two) (sym m_is) first_links, ap (check two) m_is ∙ ap (λ (x : Cell). x.1) at_list ∙ ap (λ (k : ℕ). neg_ℤ (pos k)) (sym i_is));
    before = λ i p l at.
        let i_is = only_first i l in
        let p_is : p ≡ 1 = same_neg p 1 (sym at ∙ ap (check two) i_is ∙ ap (λ (x : Cell). x.1) at_list) in
        (subst (HasLinks two) (sym p_is) first_links, ap (base two) p_is ∙ ap (λ (x : Cell). x.0) at_list ∙ ap pos (sym i_is));
    reached = λ i l. subst (IsOnRing two) (sym (only_first i l)) first;
  }

  pub one_linked : AreLinked two 2
  one_linked i above less free = subst (HasLinks two) (let e : 1 ≡ i = omega (arith, above, less) in e) first_links

  pub new_is : (cells : List Cell) → IsRing cells → AreLinked cells (length cells) → cell_views cells ≡ cell_views two → IsNew cells n
  new_is cells ring linked seen_is =
      let long : length cells ≡ n = sym (length-seen cells) ∙ ap length seen_is ∙ length-seen two ∙ two_long in
      record {
        ring = ring;
        linked = λ i above less free. linked i above (omega (arith, less, long)) free;
        root = ap (λ (xs : List Cell). cell_at xs 0) seen_is ∙ seen_root two ∙ at_root;
        free = λ i above. ap (λ (xs : List Cell). cell_at xs i) seen_is ∙ elim (cases_lt i 2) [
          | inl less ↦ seen_free two i 1 above (omega arith) (let e : i ≡ 1 = omega (arith, above, less) in ap (check two) e ∙ ap (λ (x : Cell). x.1) at_list)
          | inr up ↦ seen_at two i above ∙ ap hide (at_rest i up)
        ];
        long = long;
      }

-- ---- a cell that is read

shown_free : (cells view : List Cell) (i : ℕ) (b k : ℤ) → cell_views cells ≡ view → (i ≡ 0 → ⊥) → slice_get cells i ≡ Some (b, k) → (p : ℕ) × (k ≡ negsuc p) → slice_get view i ≡ Some free_cell
shown_free cells view i b k e other at negative =
    let within : i < length view = let w = slice_get_within cells i (b, k) at in let l = long_seen cells view e in omega (arith, w, l) in
    let there : cell_at cells i ≡ (b, k) = get_or_from_slice_get cells i (b, k) free_cell at in
    let above : 0 < i = omega (arith, other) in
    let free : cell_at view i ≡ free_cell = ap (λ (xs : List Cell). cell_at xs i) (sym e) ∙ seen_at cells i above ∙ ap hide there ∙ ap (cell_view b) negative.1 in
    slice_get-get_or view i free_cell within ∙ ap Some free

negative_of : (k : ℤ) → lt_z k (pos 0) ≡ true → (p : ℕ) × (k ≡ negsuc p)
negative_of (pos n) h = absurd (let f : ltb n 0 ≡ true = h in let less = ltb-true n 0 f in omega (arith, less))
negative_of (negsuc p) h = (p, refl)

positive_of : (k : ℤ) → lt_z k (pos 0) ≡ false → (s : ℕ) × (k ≡ pos s)
positive_of (pos n) h = (n, refl)
positive_of (negsuc p) h = absurd (let f : true ≡ false = h in cc)

pub read_free : (cells view : List Cell) (i : ℕ) (x : Cell) → cell_views cells ≡ view → (i ≡ 0 → ⊥) → slice_get cells i ≡ Some x → lt_z (to_z w32 (of_z w32 x.1)) (pos 0) ≡ true → SFits w32 x.1 → slice_get view i ≡ Some free_cell
read_free cells view i x e other at below fits =
    let k : lt_z x.1 (pos 0) ≡ true = ap (λ (z : ℤ). lt_z z (pos 0)) (sym (to_z-of_z w32 x.1 fits)) ∙ below in shown_free cells view i x.0 x.1 e other at (negative_of x.1 k)

pub read_used : (cells view : List Cell) (i : ℕ) (x : Cell) → cell_views cells ≡ view → (i ≡ 0) ⊎ (lt_z (to_z w32 (of_z w32 x.1)) (pos 0) ≡ false) → slice_get cells i ≡ Some x → SFits w32 x.0 → SFits w32 x.1 → slice_get view i ≡ Some (to_z w32 (of_z w32 x.0), to_z w32 (of_z w32 x.1))
read_used cells view i x e used at fits_b fits_k =
    let within : i < length view = let w = slice_get_within cells i x at in let l = long_seen cells view e in omega (arith, w, l) in
    let there : cell_at cells i ≡ x = get_or_from_slice_get cells i x free_cell at in
    let same : cell_at view i ≡ x = ap (λ (xs : List Cell). cell_at xs i) (sym e) ∙ elim used [
      | inl is_0 ↦ ap (cell_at (cell_views cells)) is_0 ∙ seen_root cells ∙ ap (cell_at cells) (sym is_0) ∙ there
      | inr above ↦ elim (cases_eq i 0) [
        | inl is_0 ↦ ap (cell_at (cell_views cells)) is_0 ∙ seen_root cells ∙ ap (cell_at cells) (sym is_0) ∙ there
        | inr other ↦
            let p = positive_of x.1 (ap (λ (z : ℤ). lt_z z (pos 0)) (sym (to_z-of_z w32 x.1 fits_k)) ∙ above) in
            seen_at cells i (omega (arith, other)) ∙ ap hide there ∙ ap (cell_view x.0) p.1 ∙ ap (λ (k : ℤ). (x.0, k)) (sym p.1)
      ]
    ] in
    slice_get-get_or view i free_cell within ∙ ap Some same ∙ ap (λ (b : ℤ). Some (b, x.1)) (sym (to_z-of_z w32 x.0 fits_b)) ∙ ap (λ (k : ℤ). Some (to_z w32 (of_z w32 x.0), k)) (sym (to_z-of_z w32 x.1 fits_k))

negative_by : (k : ℤ) → le_z (pos 0) k ≡ false → (p : ℕ) × (k ≡ negsuc p)
negative_by (pos n) h = absurd (let t : le_z (pos 0) (pos n) ≡ true = le-leb 0 n (omega arith) in cc)
negative_by (negsuc p) h = (p, refl)

-- the view of a cell with a negative check is a free cell
pub free_by_check : (cells : List Cell) (i : ℕ) (x : Cell) → slice_get cells i ≡ Some x → 0 < i → le_z (pos 0) (to_z w32 (of_z w32 x.1)) ≡ false → SFits w32 x.1 → cell_at (cell_views cells) i ≡ free_cell
free_by_check cells i x at above below fits =
    let there : cell_at cells i ≡ x = get_or_from_slice_get cells i x free_cell at in
    let p = negative_by x.1 (ap (le_z (pos 0)) (sym (to_z-of_z w32 x.1 fits)) ∙ below) in
    seen_at cells i above ∙ ap hide there ∙ ap (cell_view x.0) p.1

pub linked_is_free : (cells : List Cell) (i : ℕ) → HasLinks cells i → cell_at (cell_views cells) i ≡ free_cell
linked_is_free cells i l = seen_free cells i l.before l.above l.before_above l.before_is

pub no_code : (family : List Bool) (k : ℕ) → get_or family k false ≡ false → slice_get family k ≡ Some true → ⊥
no_code family k at h = absurd (let e = get_or_from_slice_get family k true false h in let f : true ≡ false = sym e ∙ at in cc)

-- ---- the cell before the top

module _ (cells : List Cell) (top start : ℕ) (x : Cell) (pool : IsPool cells top start) (at : slice_get cells (top - 1) ≡ Some x) (fits : SFits w32 x.1) where
  last_is : cell_at (cell_views cells) (top - 1) ≡ cell_view x.0 x.1
  last_is = let l = pool.low in seen_at cells (top - 1) (omega (arith, l)) ∙ ap hide (get_or_from_slice_get cells (top - 1) x free_cell at)

  sign : {b : Bool} → lt_z (to_z w32 (of_z w32 x.1)) (pos 0) ≡ b → lt_z x.1 (pos 0) ≡ b
  sign h = ap (λ (z : ℤ). lt_z z (pos 0)) (sym (to_z-of_z w32 x.1 fits)) ∙ h

  -- it is free, so that the top may be lower
  pub pool_lowered : 258 < top → lt_z (to_z w32 (of_z w32 x.1)) (pos 0) ≡ true → IsPool cells (top - 1) start
  pool_lowered more negative = record {
    ring = pool.ring;
    linked = pool.linked;
    start_free = pool.start_free;
    beyond = λ i up. elim (cases_eq i (top - 1)) [
      | inl e ↦ ap (cell_at (cell_views cells)) e ∙ last_is ∙ ap (cell_view x.0) (negative_of x.1 (sign negative)).1
      | inr other ↦ pool.beyond i (omega (arith, up, other))
    ];
    room = let r = pool.room in omega (arith, r);
    low = omega (arith, more);
    few = pool.few;
  }

  -- it is used
  pub last_used : lt_z (to_z w32 (of_z w32 x.1)) (pos 0) ≡ false → IsLowered (cell_views cells) top
  last_used positive =
      let s = positive_of x.1 (sign positive) in
      let l = pool.low in
      inr (top - 1, s.0, omega (arith, l), ap (λ (c : Cell). c.1) (last_is ∙ ap (cell_view x.0) s.1))
