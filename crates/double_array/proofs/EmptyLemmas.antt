-- The empty array: the root and free cells.
use Rattle.std.proofs.Common.{◌≡◌, ℕ, zero, suc, ◌<◌, ◌≤◌, pos, negsuc, List, [], ◌∷◌, Some, None, inl, inr, sym, ap, ◌∙◌, arith}
use Rattle.std.proofs.lemmas.Option.{same_Some}
use Rattle.mj_model.specs.CellMap.{Cell, base, check, walk, codes_of, value_of}
use Rattle.mj_model.specs.CellRules.{MeetsRules}
use Rattle.mj_model.proofs.CellWalks.{step_named, walk_first, walk_none, value_parts, no_value}
use Rattle.double_array.proofs.CellMoveLaw.{free_no_check}
use Rattle.mj_model.proofs.Basics.{same_pos}
use Rattle.double_array.specs.Pool.{Pool, IsEmpty}
use Rattle.double_array.specs.Built.{values, MeetsInvariants}

no_cell_is_used : (pool : Pool) (t s : ℕ) → IsEmpty pool → check pool.cells t ≡ pos s → ⊥
no_cell_is_used pool zero s empty named = let e : negsuc 1 ≡ pos s = sym (ap (λ (x : Cell). x.1) empty.root) ∙ named in cc
no_cell_is_used pool (suc t) s empty named = free_no_check pool.cells (suc t) s (empty.free (suc t) (omega arith)) named

stays_at_root : (pool : Pool) (cs : List ℕ) (t : ℕ) → IsEmpty pool → walk pool.cells 0 cs ≡ Some t → t ≡ 0
stays_at_root pool [] t empty h = sym (same_Some 0 t (sym (walk_none pool.cells 0) ∙ h))
stays_at_root pool (c ∷ cs) t empty h = let f = walk_first pool.cells 0 c cs t h in absurd (no_cell_is_used pool f.0 0 empty (step_named pool.cells 0 c f.0 f.1))

pub empty_map : (pool : Pool) (key : List ℕ) → IsEmpty pool → value_of pool.cells key ≡ None
empty_map pool key empty = no_value pool.cells key (λ v h.
    let p = value_parts pool.cells key v h in
    let at = stays_at_root pool (codes_of key) p.0 empty p.1.led in
    let e : pos 2 ≡ negsuc v = sym (ap (λ (x : Cell). x.0) empty.root) ∙ ap (base pool.cells) (sym at) ∙ p.1.holds in cc)

empty_rules : (pool : Pool) → IsEmpty pool → MeetsRules values pool.cells
empty_rules pool empty = record {
  root_check = ap (λ (x : Cell). x.1) empty.root;
  root_base = (2, ap (λ (x : Cell). x.0) empty.root);
  others = λ t above less. inl (empty.free t above);
}

pub empty_is_built : (pool : Pool) → IsEmpty pool → MeetsInvariants pool
empty_is_built pool empty =
    let long = empty.long in
    let top = empty.top_is in
    record {
      rules = empty_rules pool empty;
      on_keys = λ t s named. absurd (no_cell_is_used pool t s empty named);
      bases = bases_of;
      root = (2, ap (λ (x : Cell). x.0) empty.root, omega arith);
      started = inr (ap (λ (x : Cell). x.0) empty.root);
      room = omega (arith, long, top);
      few = omega (arith, long);
    }
  where
    bases_of : (t b : ℕ) → base pool.cells t ≡ pos b → 0 < b → (2 ≤ b) × (b ≤ pool.top)
    bases_of zero b at above = let e = same_pos b 2 (sym at ∙ ap (λ (x : Cell). x.0) empty.root) in let top = empty.top_is in (omega (arith, e), omega (arith, e, top))
    bases_of (suc t) b at above = absurd (let e = same_pos b 0 (sym at ∙ ap (λ (x : Cell). x.0) (empty.free (suc t) (omega arith))) in omega (arith, e, above))
