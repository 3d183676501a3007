-- The end of a new key is added code by code.
use Rattle.std.proofs.Common.{◌≡◌, ◌≢◌, ℕ, suc, ◌+◌, ◌<◌, ◌≤◌, max, ℤ, pos, negsuc, List, [], length, set, take, drop, get_or, Some, inl, inr, sym, ap, ◌∙◌, refl, arith, subst}
use Rattle.std.proofs.lemmas.Bool.{cases_eq}
use Rattle.std.proofs.lemmas.List.{length-set, set-set}
use Rattle.mj_model.specs.CellMap.{Cell, free_cell, cell_at, base, check, walk, codes_of, HasSameMap, IsMapWith}
use Rattle.mj_model.specs.CellRules.{IsBaseAfter}
use Rattle.mj_model.proofs.Basics.{same_pos}
use Rattle.double_array.specs.Pool.{Pool}
use Rattle.double_array.specs.Built.{values, AreBases, MeetsInvariants}
use Rattle.double_array.specs.Tail.{IsReady, IsStateAdded}
use Rattle.double_array.proofs.ViewLemmas.{at_same, at_other}
use Rattle.mj_model.proofs.KeyWalks.{length-codes_of, code_of_byte, code_of_end, split_at, codes_end, walk_take_more}
use Rattle.double_array.proofs.Leaf.{leaf_at, leaf_others, leaf_step, walk_stays, leaf_rules, state_keeps_map, value_is_set, leaf_on_way, on_way_is_on_key}

-- ---- a state is added

pub state_added : (old taken new : Pool) (state wanted code next from : ℕ) (z : ℤ) → taken.cells ≡ set old.cells wanted (z, pos state) → new.cells ≡ set taken.cells wanted (pos from, check taken.cells wanted) → wanted < length old.cells
    → taken.top ≡ max old.top (wanted + 1) → new.top ≡ taken.top → 2 ≤ from → next ≡ from + code → from + code ≤ taken.top → cell_at taken.cells (from + code) ≡ free_cell → IsStateAdded old new state wanted code next
state_added old taken new state wanted code next from z e1 e2 within top1 top2 least next_is low free =
    let at : cell_at taken.cells wanted ≡ (z, pos state) = ap (λ (xs : List Cell). cell_at xs wanted) e1 ∙ at_same old.cells wanted (z, pos state) within in
    let other : from + code ≢ wanted = λ e. let k : pos state ≡ negsuc 0 = ap (λ (x : Cell). x.1) (sym at ∙ ap (cell_at taken.cells) (sym e) ∙ free) in absurd (cc) in
    record {
      from = from;
      cells = e2 ∙ ap (λ (k : ℤ). set taken.cells wanted (pos from, k)) (ap (λ (x : Cell). x.1) at) ∙ ap (λ (xs : List Cell). set xs wanted (pos from, pos state)) e1 ∙ set-set old.cells wanted (z, pos state) (pos from, pos state);
      least = least;
      next_is = next_is;
      low = omega (arith, next_is, low, top2);
      free = ap (cell_at new.cells) next_is ∙ ap (λ (xs : List Cell). cell_at xs (from + code)) e2 ∙ at_other taken.cells wanted (from + code) (pos from, check taken.cells wanted) other ∙ free;
      top = top2 ∙ top1;
    }

-- ---- one code further

module _ (pool new : Pool) (key : List ℕ) (i s t next_code next from : ℕ) (ready : IsReady pool key i s t) (more : i < length key) (near : get_or (codes_of key) i 0 ≤ 256) (next_at : next_code ≡ get_or (codes_of key) (i + 1) 0)
    (cells_is : new.cells ≡ set pool.cells t (pos from, pos s)) (least : 2 ≤ from) (next_is : next ≡ from + next_code) (low : next ≤ new.top) (free_next : cell_at new.cells next ≡ free_cell) (top_is : new.top ≡ max pool.top (t + 1)) where
  code : ℕ
  code = get_or (codes_of key) i 0

  coded : i < length (codes_of key)
  coded = let e = length-codes_of key in omega (arith, e, more)

  some : 1 ≤ ready.based.0
  some = let l = ready.based.2 in omega (arith, l)

  within : t < length pool.cells
  within = let r = ready.room_wanted in omega (arith, r)

  content : IsBaseAfter values (get_or (codes_of key) i 0) (pos from)
  content =
      let e : get_or key i 0 + 1 ≡ suc (get_or key i 0) = let x = get_or key i 0 in omega arith in
      subst (λ (c : ℕ). IsBaseAfter values c (pos from)) (sym (code_of_byte key i more ∙ e)) (from, omega (arith, least), refl)

  led_on : walk new.cells 0 (take (i + 1) (codes_of key)) ≡ Some t
  led_on =
      walk_take_more new.cells (codes_of key) i s (get_or (codes_of key) i 0) t coded refl
      (walk_stays values pool.cells s (get_or (codes_of key) i 0) t ready.based.0 (pos from) ready.rules ready.based.1 some near ready.based.3 ready.free within content new.cells cells_is 0 (take i (codes_of key)) s ready.led)
      (leaf_step values pool.cells s (get_or (codes_of key) i 0) t ready.based.0 (pos from) ready.rules ready.based.1 some near ready.based.3 ready.free within content new.cells cells_is)

  at_t : cell_at new.cells t ≡ (pos from, pos s)
  at_t = leaf_at values pool.cells s (get_or (codes_of key) i 0) t ready.based.0 (pos from) ready.rules ready.based.1 some near ready.based.3 ready.free within content new.cells cells_is

  rest : (j : ℕ) → j ≢ t → cell_at new.cells j ≡ cell_at pool.cells j
  rest = leaf_others values pool.cells s (get_or (codes_of key) i 0) t ready.based.0 (pos from) ready.rules ready.based.1 some near ready.based.3 ready.free within content new.cells cells_is

  inner : 2 ≤ t
  inner = let l = ready.based.2 in let e = ready.based.3 in omega (arith, l, e)

  long : length new.cells ≡ length pool.cells
  long = ap length cells_is ∙ length-set pool.cells t (pos from, pos s)

  bases_on : AreBases new
  bases_on j b at above = elim (cases_eq j t) [
    | inl e ↦
        let b_is : from ≡ b = same_pos from b (sym (ap (λ (x : Cell). x.0) at_t) ∙ ap (base new.cells) (sym e) ∙ at) in
        (omega (arith, b_is, least), omega (arith, b_is, low, next_is))
    | inr other ↦
        let r = ready.bases j b (sym (ap (λ (x : Cell). x.0) (rest j other)) ∙ at) above in
        (r.0, (let l = r.1 in omega (arith, l, top_is)))
  ]

  pub ready_more : IsReady new key (i + 1) t next
  ready_more = record {
    rules = leaf_rules values pool.cells s (get_or (codes_of key) i 0) t ready.based.0 (pos from) ready.rules ready.based.1 some near ready.based.3 ready.free within content new.cells cells_is;
    keys = leaf_on_way values pool.cells s (get_or (codes_of key) i 0) t ready.based.0 (pos from) ready.rules ready.based.1 some near ready.based.3 ready.free within content new.cells cells_is
        (codes_of key) (take i (codes_of key)) (drop (i + 1) (codes_of key)) (split_at (codes_of key) i coded) ready.led ready.keys;
    bases = bases_on;
    root = (ready.root.0, ap (λ (x : Cell). x.0) (rest 0 (λ e. omega (arith, e, inner))) ∙ ready.root.1, ready.root.2);
    some_left = omega (arith, more);
    led = led_on;
    based = (from, ap (λ (x : Cell). x.0) at_t, least, next_is ∙ ap (λ (c : ℕ). from + c) next_at);
    free = free_next;
    room_wanted = let a = ready.room_wanted in let b = ready.room_top in omega (arith, a, b, low, top_is, long, more);
    room_top = let a = ready.room_wanted in let b = ready.room_top in omega (arith, a, b, top_is, long, more);
    few = let f = ready.few in omega (arith, f, long);
  }

  pub map_on : HasSameMap pool.cells new.cells
  map_on = state_keeps_map values pool.cells s (get_or (codes_of key) i 0) t ready.based.0 (pos from) ready.rules ready.based.1 some near ready.based.3 ready.free within content new.cells cells_is from refl

  pub long_on : length new.cells ≡ length pool.cells
  long_on = long

-- ---- the last code

module _ (pool new : Pool) (key : List ℕ) (s t value : ℕ) (ready : IsReady pool key (length key) s t) (some_key : 0 < length key) (below : value < values)
    (cells_is : new.cells ≡ set pool.cells t (negsuc value, pos s)) (top_is : new.top ≡ max pool.top (t + 1)) where
  end_some : 1 ≤ ready.based.0
  end_some = let l = ready.based.2 in omega (arith, l)

  end_place : t ≡ ready.based.0 + 0
  end_place = ready.based.3 ∙ ap (λ (c : ℕ). ready.based.0 + c) (code_of_end key)

  end_within : t < length pool.cells
  end_within = let r = ready.room_wanted in omega (arith, r)

  end_content : IsBaseAfter values 0 (negsuc value)
  end_content = (value, below, refl)

  end_at : cell_at new.cells t ≡ (negsuc value, pos s)
  end_at = leaf_at values pool.cells s 0 t ready.based.0 (negsuc value) ready.rules ready.based.1 end_some (omega arith) end_place ready.free end_within end_content new.cells cells_is

  end_rest : (j : ℕ) → j ≢ t → cell_at new.cells j ≡ cell_at pool.cells j
  end_rest = leaf_others values pool.cells s 0 t ready.based.0 (negsuc value) ready.rules ready.based.1 end_some (omega arith) end_place ready.free end_within end_content new.cells cells_is

  end_long : length new.cells ≡ length pool.cells
  end_long = ap length cells_is ∙ length-set pool.cells t (negsuc value, pos s)

  pub value_added : IsMapWith pool.cells new.cells key value
  value_added =
      value_is_set values pool.cells s 0 t ready.based.0 (negsuc value) ready.rules ready.based.1 end_some (omega arith) end_place ready.free end_within end_content new.cells cells_is
      key (take (length key) (codes_of key)) value refl some_key (codes_end key) ready.led

  pub built_again : MeetsInvariants new
  built_again = record {
    rules = leaf_rules values pool.cells s 0 t ready.based.0 (negsuc value) ready.rules ready.based.1 end_some (omega arith) end_place ready.free end_within end_content new.cells cells_is;
    on_keys = on_way_is_on_key new.cells key value value_added.there
        (leaf_on_way values pool.cells s 0 t ready.based.0 (negsuc value) ready.rules ready.based.1 end_some (omega arith) end_place ready.free end_within end_content new.cells cells_is
        (codes_of key) (take (length key) (codes_of key)) [] (codes_end key) ready.led ready.keys);
    bases = λ j b at above. elim (cases_eq j t) [
      | inl e ↦ absurd (let k : negsuc value ≡ pos b = sym (ap (λ (x : Cell). x.0) end_at) ∙ ap (base new.cells) (sym e) ∙ at in cc)
      | inr other ↦
          let r = ready.bases j b (sym (ap (λ (x : Cell). x.0) (end_rest j other)) ∙ at) above in
          (r.0, (let l = r.1 in omega (arith, l, top_is)))
    ];
    root = (ready.root.0, ap (λ (x : Cell). x.0) (end_rest 0 (λ e. let l = ready.based.2 in let p = ready.based.3 in omega (arith, e, l, p))) ∙ ready.root.1, ready.root.2);
    started = inl (t, s, ap (λ (x : Cell). x.1) end_at);
    room = let a = ready.room_wanted in let b = ready.room_top in let l = end_long in omega (arith, a, b, l, top_is);
    few = let f = ready.few in let l = end_long in omega (arith, f, l);
  }

pub map_then : (old mid new : List Cell) (key : List ℕ) (v : ℕ) → HasSameMap old mid → IsMapWith mid new key v → IsMapWith old new key v
map_then old mid new key v same with_key = record { there = with_key.there; others = λ other apart. with_key.others other apart ∙ same other }
