-- Room after the last used cell.
use Rattle.std.proofs.Common.{◌≡◌, ℕ, zero, suc, ◌+◌, ◌<◌, ◌≤◌, pos, List, length, Some, ◌⊎◌, inl, inr, sym, ap, ◌∙◌, arith, subst}
use Rattle.mj_model.proofs.Basics.{same_pos}
use Rattle.std.proofs.lemmas.Bool.{cases_lt}
use Rattle.mj_model.specs.CellMap.{Cell, free_cell, cell_at, base, step}
use Rattle.double_array.specs.Built.{HasUsed, MeetsInvariants}
use Rattle.std.specs.Prelude.{Result, Ok, Err}
use Rattle.std.specs.Result.{OnErr, OnOk}
use Rattle.double_array.specs.Insertion.{HasRoom}
use Rattle.double_array.specs.Moved.{HasSpaceAfterEachCell}
use Rattle.double_array.specs.Pool.{Pool, IsLowered}
use Rattle.double_array.specs.Pool.IsInUse.{is_root, is_named}
use Rattle.double_array.proofs.CellMoveLaw.{free_no_check}
use Rattle.mj_model.proofs.CellWalks.{step_named, step_place}
use Rattle.double_array.proofs.ClearingLemmas.{has_child, has_child_there}

pub started_same : (old new : List Cell) → ((i : ℕ) → cell_at new i ≡ cell_at old i) → HasUsed old ⊎ (base old 0 ≡ pos 2) → HasUsed new ⊎ (base new 0 ≡ pos 2)
started_same old new same (inl u) = inl (u.0, u.1, ap (λ (x : Cell). x.1) (same u.0) ∙ u.2)
started_same old new same (inr root) = inr (ap (λ (x : Cell). x.0) (same 0) ∙ root)

-- ---- a lower top

module _ (cells : List Cell) (high top : ℕ) (built : MeetsInvariants (record { cells = cells; top = high })) (low : top ≤ high) (least : 258 ≤ top) (beyond : (i : ℕ) → top ≤ i → cell_at cells i ≡ free_cell) where
  -- a state's base is at most its child's cell, which is below the top
  base_low : (t b c u : ℕ) → base cells t ≡ pos b → step cells t c ≡ Some u → b ≤ top
  base_low t b c u at child =
      let place = step_place cells t c u b child at in
      elim (cases_lt u top) [
        | inl below ↦ omega (arith, place, below)
        | inr above ↦ absurd (free_no_check cells u t (beyond u above) (step_named cells t c u child))
      ]

  bases_low : (t b : ℕ) → base cells t ≡ pos b → 0 < b → (2 ≤ b) × (b ≤ top)
  bases_low zero b at above =
      let l = (built.bases 0 b at above).0 in (
        l,
        elim built.started [
          | inl used ↦ let h = has_child (record { cells = cells; top = high }) 0 b used.0 used.1 built at l used.2 in base_low 0 b h.0 h.1 at h.2
          | inr two ↦ let e = same_pos b 2 (sym at ∙ two) in omega (arith, e, least)
        ],
      )
  bases_low (suc n) b at above =
      let l = (built.bases (suc n) b at above).0 in
      let h = has_child_there (record { cells = cells; top = high }) n b built at l in
      (l, base_low (suc n) b h.0 h.1 at h.2)

  lowered : MeetsInvariants (record { cells = cells; top = top })
  lowered = record {
    rules = built.rules;
    on_keys = built.on_keys;
    bases = bases_low;
    root = built.root;
    started = built.started;
    room = let r = built.room in omega (arith, r, low);
    few = built.few;
  }

pub lowered_built : (old new : Pool) → MeetsInvariants old → new.cells ≡ old.cells → new.top ≤ old.top → 258 ≤ new.top → ((i : ℕ) → new.top ≤ i → cell_at new.cells i ≡ free_cell) → MeetsInvariants new
lowered_built old new built same low least beyond =
    lowered new.cells old.top new.top (subst (λ (cells : List Cell). MeetsInvariants (record { cells = cells; top = old.top })) (sym same) built) low least beyond

-- if there is space after each used cell, there is room after the top
pub room_by_space : (cells : List Cell) (top long left : ℕ) → IsLowered cells top → HasSpaceAfterEachCell cells long → left ≤ long → top + 514 + left ≤ length cells
room_by_space cells top long left (inl least) space less = let s = space 0 is_root in omega (arith, s, least, less)
room_by_space cells top long left (inr used) space less = let s = space used.0 (is_named {s = used.1} used.3) in let e = used.2 in omega (arith, s, e, less)

-- unchanged cells with another top
pub room_of : (old now new : Pool) (long left : ℕ) → now.cells ≡ old.cells → HasRoom now new long left → HasRoom old new long left
room_of old now new long left same room = record {
  built = room.built;
  same = λ i. room.same i ∙ ap (λ (xs : List Cell). cell_at xs i) same;
  room = room.room;
  least = let m = room.least in let l = ap (length {A = Cell}) same in omega (arith, m, l);
  most = let m = room.most in let l = ap (length {A = Cell}) same in omega (arith, m, l);
}

pub room_here : (old now : Pool) (long left : ℕ) → MeetsInvariants now → now.cells ≡ old.cells → now.top + 514 + left ≤ length now.cells → HasRoom old now long left
room_here old now long left built same room = record {
  built = built;
  same = λ i. ap (λ (xs : List Cell). cell_at xs i) same;
  room = room;
  least = let l = ap (length {A = Cell}) same in omega (arith, l);
  most = let l = ap (length {A = Cell}) same in omega (arith, l);
}

pub by_result : {T E A B P : Type 0} (r : Result T E) → OnOk r A → OnErr r B → (A → P) → (B → P) → P
by_result (Ok x) a b f g = f a
by_result (Err e) a b f g = g b

pub on_both : {T E : Type 0} (A B : Type 0) (r : Result T E) → OnOk r A → OnOk r B → OnOk r (A × B)
on_both A B (Ok x) a b = (a, b)
on_both A B (Err e) a b = tt

pub on_err_by : {T E : Type 0} (r : Result T E) (P : Type 0) → P → OnErr r P
on_err_by (Ok x) P p = tt
on_err_by (Err e) P p = p
