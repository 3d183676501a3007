-- Families of codes.
use Rattle.std.proofs.Common.{◌≡◌, ◌≢◌, ℕ, ◌+◌, ◌<◌, ◌≤◌, pos, Bool, true, false, List, length, set, get_or, slice_get, Some, inl, inr, ap, ◌∙◌, arith, subst}
use Rattle.std.proofs.lemmas.Bool.{cases_eq}
use Rattle.std.proofs.lemmas.List.{length-set, get_or-set_same, get_or-set_other}
use Rattle.std.proofs.lemmas.Option.{slice_get-get_or, get_or_from_slice_get, slice_get_within}
use Rattle.mj_model.specs.CellMap.{Cell, base, check}
use Rattle.double_array.specs.Built.{MeetsInvariants, values}
use Rattle.double_array.specs.Family.{FitsAt, HasCode}
use Rattle.double_array.specs.Moves.{IsFamilyOf, IsRelocation}
use Rattle.double_array.specs.Pool.{Pool}

-- below n the family has the codes of children
pub record IsFamilyBelow (cells : List Cell) (s from : ℕ) (family : List Bool) (n : ℕ) : Type 0 where
  pub long : length family ≡ 257
  pub sound : (k : ℕ) → k < n → HasCode family k → check cells (from + k) ≡ pos s
  pub complete : (k : ℕ) → k < n → check cells (from + k) ≡ pos s → HasCode family k

pub set_here : (family : List Bool) (n : ℕ) (b : Bool) → n < length family → slice_get (set family n b) n ≡ Some b
set_here family n b less = slice_get-get_or (set family n b) n false (let l = length-set family n b in omega (arith, l, less)) ∙ ap Some (get_or-set_same family n b false less)

pub set_other : (family : List Bool) (n k : ℕ) (b : Bool) → k ≢ n → HasCode family k → HasCode (set family n b) k
set_other family n k b other h =
    let within = slice_get_within family k true h in
    slice_get-get_or (set family n b) k false (let l = length-set family n b in omega (arith, l, within)) ∙ ap Some (get_or-set_other family n k b false other ∙ get_or_from_slice_get family k true false h)

-- a family with one more code
pub with_code : (family : List Bool) (code k : ℕ) → HasCode family k → HasCode (set family code true) k
with_code family code k h = elim (cases_eq k code) [
  | inl e ↦ ap (slice_get (set family code true)) e ∙ set_here family code true (subst (λ (i : ℕ). i < length family) e (slice_get_within family k true h))
  | inr other ↦ set_other family code k true other h
]

pub code_by : (family : List Bool) (k : ℕ) → length family ≡ 257 → k < 257 → get_or family k false ≡ true → HasCode family k
code_by family k long less at = slice_get-get_or family k false (omega (arith, long, less)) ∙ ap Some at

-- the family of a state of a built array may move to a base that it fits
pub relocation : {pool : Pool} {s from to : ℕ} {family : List Bool} → MeetsInvariants pool → base pool.cells s ≡ pos from → 2 ≤ from → IsFamilyOf pool.cells s from family
    → FitsAt pool.cells family to → IsRelocation values pool.cells s from to family
relocation built based least family fits = record { rules = built.rules; keys = built.on_keys; based = based; some = omega (arith, least); is = family; fits = fits }
