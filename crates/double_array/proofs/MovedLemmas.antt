-- The number of cells that an insertion moves.
use Rattle.std.proofs.Common.{◌≡◌, ◌≢◌, ℕ, ◌+◌, ◌<◌, ◌≤◌, ℤ, pos, negsuc, List, length, set, map, Option, Some, inl, inr, sym, ap, ◌∙◌, refl, arith, subst, is_some, cond}
use Rattle.std.specs.List.{range_with_len, sum}
use Rattle.std.proofs.lemmas.Bool.{cases_eq}
use Rattle.std.proofs.lemmas.List.FromFn.{sum_by-map-range_with_len_more}
use Rattle.mj_model.specs.CellMap.{Cell, free_cell, cell_at, base, check, walk, codes_of}
use Rattle.double_array.specs.CellMoves.{IsMove}
use Rattle.double_array.specs.Moved.{child_on, children, AreInPlace, IsOneMoveOrNone, HaveMoved}
use Rattle.double_array.specs.Pool.{Pool, IsInUse}
use Rattle.double_array.specs.Pool.IsInUse.{is_root, is_named}
use Rattle.double_array.specs.Tail.{AreUnchanged, IsReady}
use Rattle.mj_model.proofs.CellWalks.{step_at}
use Rattle.double_array.proofs.ViewLemmas.{at_same, at_other}
use Rattle.mj_model.proofs.StepLemmas.{no_step}

-- ---- children, code by code

-- the children by the codes below n
abbrev pub children_below : List Cell → ℕ → ℕ → ℕ
children_below cells s n = sum (map (child_on cells s) (range_with_len 0 n))

below_more : (cells : List Cell) (s n : ℕ) → children_below cells s (n + 1) ≡ children_below cells s n + child_on cells s n
below_more cells s n = sum_by-map-range_with_len_more (λ (k : ℕ). k) (child_on cells s) 0 n n (omega arith)

abbrev one_if_some : Option ℕ → ℕ
one_if_some o = cond (is_some o) 1 0

pub child_more : (cells : List Cell) (s from n : ℕ) → base cells s ≡ pos from → check cells (from + n) ≡ pos s → children_below cells s (n + 1) ≡ children_below cells s n + 1
child_more cells s from n at named = below_more cells s n ∙ ap (λ (o : Option ℕ). children_below cells s n + one_if_some o) (step_at cells s n (from + n) from at refl named)

pub no_child_more : (cells : List Cell) (s from n : ℕ) → base cells s ≡ pos from → (check cells (from + n) ≡ pos s → ⊥) → children_below cells s (n + 1) ≡ children_below cells s n
no_child_more cells s from n at none =
    let e = below_more cells s n ∙ ap (λ (o : Option ℕ). children_below cells s n + one_if_some o) (no_step cells s n (from + n) from at refl none) in omega (arith, e)

pub all_children : (cells : List Cell) (s : ℕ) → children_below cells s 257 ≡ children cells s
unfolding children
all_children cells s = refl

-- ---- a family has moved

-- only a search preceded the move
pub one_move : (old found new : Pool) (s to count : ℕ) → found ≡ old → IsMove found.cells new.cells s to → count ≡ children found.cells s → IsOneMoveOrNone old.cells new.cells count
one_move old found new s to count same move all = subst (λ (p : Pool). IsOneMoveOrNone p.cells new.cells count) same (inr (record { state = s; to = to; move = move; all = all }))

-- ---- used cells are kept

kept_apart : (old now : List Cell) (t i : ℕ) → AreUnchanged old now → cell_at now t ≡ free_cell → 2 ≤ t → IsInUse old i → i ≢ t
kept_apart old now t i kept free inner is_root = λ e. omega (arith, e, inner)
kept_apart old now t i kept free inner (is_named {s = s} named) = λ e.
    let k : pos s ≡ negsuc 0 = sym named ∙ sym (ap (λ (c : Cell). c.1) (kept i (is_named {s = s} named))) ∙ ap (check now) e ∙ ap (λ (c : Cell). c.1) free in
    cc

pub kept_more : (old now new : List Cell) (t : ℕ) (x : Cell) → AreUnchanged old now → cell_at now t ≡ free_cell → 2 ≤ t → new ≡ set now t x → AreUnchanged old new
kept_more old now new t x kept free inner is i used = ap (λ (xs : List Cell). cell_at xs i) is ∙ at_other now t i x (kept_apart old now t i kept free inner used) ∙ kept i used

pub wanted_inner : (pool : Pool) (key : List ℕ) (used state wanted : ℕ) → IsReady pool key used state wanted → 2 ≤ wanted
wanted_inner pool key used state wanted ready = let l = ready.based.2 in let e = ready.based.3 in omega (arith, l, e)

-- the value of a key is replaced
pub in_place : (old new : List Cell) (key : List ℕ) (end : ℕ) (z : ℤ) → end < length old → walk old 0 (codes_of key) ≡ Some end → new ≡ set old end (z, check old end) → HaveMoved old new key 0
in_place old new key end z within led is = inl (refl, record { checks = λ i used. same i; bases = λ i used off. ap (λ (x : Cell). x.0) (other i (λ e. off (led ∙ ap Some (sym e)))) }) where
  other : (i : ℕ) → i ≢ end → cell_at new i ≡ cell_at old i
  other i apart = ap (λ (xs : List Cell). cell_at xs i) is ∙ at_other old end i (z, check old end) apart

  same : (i : ℕ) → check new i ≡ check old i
  same i = elim (cases_eq i end) [
    | inl e ↦ ap (check new) e ∙ ap (λ (xs : List Cell). check xs end) is ∙ ap (λ (x : Cell). x.1) (at_same old end (z, check old end) within) ∙ ap (check old) (sym e)
    | inr apart ↦ ap (λ (x : Cell). x.1) (other i apart)
  ]

-- ---- from the first cells to the last

in_use_still : (old new : List Cell) (i : ℕ) → ((j : ℕ) → cell_at new j ≡ cell_at old j) → IsInUse old i → IsInUse new i
in_use_still old new i same is_root = is_root
in_use_still old new i same (is_named {s = s} named) = is_named {s = s} (ap (λ (x : Cell). x.1) (same i) ∙ named)

kept_in_place : (old now new : List Cell) (key : List ℕ) → ((i : ℕ) → cell_at now i ≡ cell_at old i) → AreUnchanged now new → AreInPlace old new key
kept_in_place old now new key same kept = record { checks = λ i used. ap (λ (x : Cell). x.1) (stays i used); bases = λ i used off. ap (λ (x : Cell). x.0) (stays i used) } where
  stays : (i : ℕ) → IsInUse old i → cell_at new i ≡ cell_at old i
  stays i used = kept i (in_use_still old now i same used) ∙ same i

pub moved_in_all : (old roomy cleared new : List Cell) (key : List ℕ) (count : ℕ) → ((i : ℕ) → cell_at roomy i ≡ cell_at old i) → length new ≡ length roomy → AreUnchanged cleared new → IsOneMoveOrNone roomy cleared count → HaveMoved old new key count
moved_in_all old roomy cleared new key count same long kept (inl none) = inl (none.0, kept_in_place old cleared new key (λ i. ap (λ (xs : List Cell). cell_at xs i) none.1 ∙ same i) kept)
moved_in_all old roomy cleared new key count same long kept (inr move) = inr (record {
  longer = roomy;
  moved = cleared;
  grown = record { same = same; long = sym long };
  move = move;
  kept = kept;
})
