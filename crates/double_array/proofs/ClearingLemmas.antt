-- A wanted cell is free after one of two families has moved.
use Rattle.std.proofs.Common.{◌≡◌, ◌≢◌, ℕ, zero, suc, ◌+◌, ◌-◌, ◌≤◌, pos, negsuc, Bool, true, List, [], ◌∷◌, ◌++◌, length, set, Some, None, ◌⊎◌, inl, inr, sym, ap, ◌∙◌, refl, arith}
use Rattle.std.proofs.lemmas.List.{append-nil}
use Rattle.std.proofs.lemmas.Option.{same_Some, none-some}
use Rattle.mj_model.specs.CellMap.{Cell, free_cell, cell_at, base, check, step, walk, codes_of, value_of}
use Rattle.double_array.specs.CellMoves.{IsMove, IsApart, IsKept}
use Rattle.mj_model.proofs.CellWalks.{step_named, step_place, IsChild, child_of, walk_none, walk_first, walk_append, value_parts}
use Rattle.double_array.proofs.CellMoveLaw.{free_no_check, free_no_base, Renames, renamed_base, all_is_kept, walk_renamed}
use Rattle.double_array.specs.Pool.{Pool}
use Rattle.double_array.specs.Family.{HasCode, FitsAt}
use Rattle.double_array.specs.Built.{values, AreBases, HasUsed, MeetsInvariants, IsCleared}
use Rattle.double_array.specs.Moves.{IsFamilyOf}
use Rattle.double_array.proofs.FamilyLemmas.{relocation, with_code, set_here}
use Rattle.double_array.proofs.Moving.{based_within, no_self_child}

-- ---- a state with a base has a child

on_after : (cells : List Cell) (s : ℕ) (front back key : List ℕ) (v from : ℕ) → front ++ back ≡ codes_of key → walk cells 0 front ≡ Some s → value_of cells key ≡ Some v → base cells s ≡ pos from → (c : ℕ) × (t : ℕ) × (step cells s c ≡ Some t)
on_after cells s front [] key v from whole led there at =
    let p = value_parts cells key v there in
    let end : walk cells 0 (codes_of key) ≡ Some s = ap (walk cells 0) (sym whole ∙ append-nil front) ∙ led in
    let same : p.0 ≡ s = same_Some p.0 s (sym p.1.led ∙ end) in
    absurd (let k : pos from ≡ negsuc v = sym at ∙ ap (base cells) (sym same) ∙ p.1.holds in cc)
on_after cells s front (c ∷ back) key v from whole led there at =
    let p = value_parts cells key v there in
    let on : walk cells s (c ∷ back) ≡ Some p.0 = sym (walk_append cells 0 front (c ∷ back) s led) ∙ ap (walk cells 0) whole ∙ p.1.led in
    let f = walk_first cells s c back p.0 on in
    (c, f.0, f.1)

-- every state but the root has a child
pub has_child_there : (pool : Pool) (n from : ℕ) → MeetsInvariants pool → base pool.cells (suc n) ≡ pos from → 2 ≤ from → (c : ℕ) × (u : ℕ) × (step pool.cells (suc n) c ≡ Some u)
has_child_there pool n from built at some =
    elim (built.rules.others (suc n) (omega arith) (based_within pool.cells (suc n) from at (omega (arith, some)))) [
      | inl free ↦ absurd (free_no_base pool.cells (suc n) from free at (omega (arith, some)))
      | inr u ↦
          let k = built.on_keys (suc n) u.state u.named in on_after pool.cells (suc n) k.front k.back k.key k.value from k.codes k.led k.there at
    ]

-- the root has one too, if some cell is used
pub has_child : (pool : Pool) (s from t q : ℕ) → MeetsInvariants pool → base pool.cells s ≡ pos from → 2 ≤ from → check pool.cells t ≡ pos q → (c : ℕ) × (u : ℕ) × (step pool.cells s c ≡ Some u)
has_child pool zero from t q built at some used =
    let k = built.on_keys t q used in
    on_after pool.cells 0 [] (codes_of k.key) k.key k.value from refl (walk_none pool.cells 0) k.there at
has_child pool (suc n) from t q built at some used = has_child_there pool n from built at some

pub has_code : (pool : Pool) (s from t q : ℕ) (family : List Bool) → MeetsInvariants pool → base pool.cells s ≡ pos from → 2 ≤ from → check pool.cells t ≡ pos q → IsFamilyOf pool.cells s from family → (c : ℕ) × HasCode family c
has_code pool s from t q family built at some used is =
    let h = has_child pool s from t q built at some used in
    let i = child_of values pool.cells s h.1 built.rules (step_named pool.cells s h.0 h.1 h.2) in
    let place = step_place pool.cells s h.0 h.1 from h.2 at in
    let same : i.code ≡ h.0 = let a = i.place in let b = step_place pool.cells s i.code h.1 from i.led at in omega (arith, b, place) in
    (h.0, is.complete h.0 (let n = i.near in omega (arith, n, same)) (ap (check pool.cells) (sym place) ∙ step_named pool.cells s h.0 h.1 h.2))

pub in_use : (pool : Pool) (s from : ℕ) → MeetsInvariants pool → base pool.cells s ≡ pos from → 2 ≤ from → (s ≡ 0) ⊎ ((q : ℕ) × (check pool.cells s ≡ pos q))
in_use pool zero from built at some = inl refl
in_use pool (suc n) from built at some =
    elim (built.rules.others (suc n) (omega arith) (based_within pool.cells (suc n) from at (omega (arith, some)))) [
      | inl free ↦ absurd (free_no_base pool.cells (suc n) from free at (omega (arith, some)))
      | inr u ↦ inr (u.state, u.named)
    ]

-- after a move its children are used
used_after : (old new : List Cell) (s to : ℕ) → IsMove old new s to → HasUsed new
used_after old new s to move =
    let c = move.some_child in
    (to + c.0, s, ap (λ (x : Cell). x.1) (move.child c.0 c.1 c.2) ∙ step_named old s c.0 c.1 c.2)

-- ---- the state's own children move

pub fits_less : (cells : List Cell) (family : List Bool) (code to : ℕ) → FitsAt cells (set family code true) to → FitsAt cells family to
fits_less cells family code to fits c h = fits c (with_code family code c h)

module _ (old new : Pool) (s from code to : ℕ) (family : List Bool) (built : MeetsInvariants old) (at : base old.cells s ≡ pos from) (some : 2 ≤ from) (near : code ≤ 256) (none : step old.cells s code ≡ None)
    (is : IsFamilyOf old.cells s from family) (fits : FitsAt old.cells (set family code true) to) (least : 2 ≤ to) (below : to ≤ old.top) (room : old.top + 514 ≤ length old.cells)
    (move : IsMove old.cells new.cells s to) (bases : AreBases new) (root : (b : ℕ) × (base new.cells 0 ≡ pos b) × (2 ≤ b)) (top : new.top ≤ old.top + 257) where
  own_kept : IsKept values old.cells new.cells
  own_kept = all_is_kept values old.cells new.cells s to built.rules built.on_keys move

  wanted_free : cell_at old.cells (to + code) ≡ free_cell
  wanted_free = fits code (set_here family code true (let l = is.long in omega (arith, l, near)))

  stays : Renames values old.cells new.cells s to built.rules built.on_keys move s s
  stays = inr (no_self_child (relocation built at some is (fits_less old.cells family code to fits)), refl)

  wanted_apart : IsApart old.cells s to (to + code)
  wanted_apart = record {
    no_state = λ e. free_no_base old.cells (to + code) from wanted_free (ap (base old.cells) e ∙ at) (omega (arith, some));
    no_child = λ c h. free_no_check old.cells (to + code) s wanted_free (step_named old.cells s c (to + code) h);
    no_new_child = λ c t h e. let same : c ≡ code = omega (arith, e) in none-some t (sym none ∙ ap (step old.cells s) (sym same) ∙ h);
    no_grandchild = λ c t h named. free_no_check old.cells (to + code) t wanted_free named;
  }

  pub cleared_by_own : IsCleared old new s code s (to + code)
  cleared_by_own = record {
    built = record {
      rules = own_kept.rules;
      on_keys = own_kept.on_keys;
      bases = bases;
      root = root;
      started = inl (used_after old.cells new.cells s to move);
      room = let l = move.same_length in omega (arith, l, top, room);
      few = let l = move.same_length in let f = built.few in omega (arith, l, f);
    };
    map = own_kept.map;
    led = λ front h. walk_renamed values old.cells new.cells s to built.rules built.on_keys move front s s h stays;
    based = (to, ap (λ (x : Cell). x.0) move.state, least, refl);
    free = move.apart (to + code) wanted_apart ∙ wanted_free;
    low = omega (arith, below, near);
    top = top;
    long = move.same_length;
  }

-- ---- the other state's children move, and with them the state, if it is one of them

module _ (old new : Pool) (s from code other other_from to follow : ℕ) (family : List Bool) (built : MeetsInvariants old) (at : base old.cells s ≡ pos from) (some : 2 ≤ from) (near : code ≤ 256) (used : check old.cells (from + code) ≡ pos other) (apart : s ≢ other)
    (room : old.top + 514 ≤ length old.cells)
    (move : IsMove old.cells new.cells other to) (bases : AreBases new) (root : (b : ℕ) × (base new.cells 0 ≡ pos b) × (2 ≤ b)) (top : new.top ≤ old.top + 257)
    (renames : Renames values old.cells new.cells other to built.rules built.on_keys move s follow) where
  other_kept : IsKept values old.cells new.cells
  other_kept = all_is_kept values old.cells new.cells other to built.rules built.on_keys move

  taken : IsChild values old.cells other (from + code)
  taken = child_of values old.cells other (from + code) built.rules used

  pub cleared_by_other : IsCleared old new s code follow (from + code)
  cleared_by_other = record {
    built = record {
      rules = other_kept.rules;
      on_keys = other_kept.on_keys;
      bases = bases;
      root = root;
      started = inl (used_after old.cells new.cells other to move);
      room = let l = move.same_length in omega (arith, l, top, room);
      few = let l = move.same_length in let f = built.few in omega (arith, l, f);
    };
    map = other_kept.map;
    led = λ front h. walk_renamed values old.cells new.cells other to built.rules built.on_keys move front s follow h renames;
    based = (from, renamed_base values old.cells new.cells other to built.rules built.on_keys move s follow (in_use old s from built at some) apart renames ∙ at, some, refl);
    free = move.freed taken.code (from + code) taken.led;
    low = let l = (built.bases s from at (omega (arith, some))).1 in omega (arith, l, near);
    top = top;
    long = move.same_length;
  }

-- the state's new number
pub goes_along : (old new : Pool) (s other other_from to : ℕ) (built : MeetsInvariants old) (move : IsMove old.cells new.cells other to) → base old.cells other ≡ pos other_from → check old.cells s ≡ pos other → Renames values old.cells new.cells other to built.rules built.on_keys move s (to + (s - other_from))
goes_along old new s other other_from to built move at named =
    let i = child_of values old.cells other s built.rules named in
    let place = step_place old.cells other i.code s other_from i.led at in
    inl (i.code, i.led, omega (arith, place))
