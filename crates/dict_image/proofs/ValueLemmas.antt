-- One pass over the cells: the cell of each group's value.
use Rattle.std.proofs.Common.{◌≡◌, ◌⊎◌, ℕ, ◌<◌, pos, negsuc, Bool, true, false, List, length, slice_index, inl, inr, ap, ◌∙◌, arith, subst}
use Rattle.std.proofs.lemmas.Bool.{cases_lt}
use Rattle.std.proofs.lemmas.List.{get_or_past}
use Rattle.mj_model.specs.CellMap.{Cell, free_cell, base, check}
use Rattle.dict_image.specs.Validation.Values.{IsRoot, HoldEach, ArePlaces, IsScanned}

pub not_both : (b : Bool) → b ≡ true → b ≡ false → ⊥
not_both b is_true is_false = cc

module _ (cells : List Cell) (root : IsRoot cells) where
  pub root_within : 0 < length cells
  root_within = elim (cases_lt 0 (length cells)) [
    | inl some ↦ some
    | inr none ↦ let e : check cells 0 ≡ negsuc 0 = ap (λ (x : Cell). x.1) (get_or_past cells 0 free_cell none) in let r = root.root_check in absurd (cc)
  ]

  no_value_at_root : (group : ℕ) → base cells 0 ≡ negsuc group → ⊥
  no_value_at_root group h = let r = root.root_base.1 in cc

  pub value_within : (group j : ℕ) → base cells j ≡ negsuc group → j < length cells
  value_within group j h = elim (cases_lt j (length cells)) [
    | inl less ↦ less
    | inr past ↦ let e : base cells j ≡ pos 0 = ap (λ (x : Cell). x.0) (get_or_past cells j free_cell past) in absurd (cc)
  ]

  -- ---- from cell to cell

  pub appears_twice : (groups t group : ℕ) (places : List ℕ) → IsScanned groups cells t places → group < groups → base cells t ≡ negsuc group → (slice_index places group ≡ 0 → ⊥) → HoldEach groups cells → ⊥
  appears_twice groups t group places is below at found each = elim ((is.placed group below).held) [
    | inl none ↦ found none
    | inr before ↦
        let once = each.once group below in
        let e = once.only t at in
        let f = once.only (slice_index places group) before.1 in
        let less = before.0 in omega (arith, e, f, less)
  ]

  pub not_found : (groups group : ℕ) (places : List ℕ) → IsScanned groups cells (length cells) places → group < groups → slice_index places group ≡ 0 → HoldEach groups cells → ⊥
  not_found groups group places is below none each =
      let once = each.once group below in
      let at = (is.placed group below).only once.place (value_within group once.place once.holds) once.holds in no_value_at_root group (subst (λ (i : ℕ). base cells i ≡ negsuc group) (at ∙ none) once.holds)

  held_of : (t group place : ℕ) → (place ≡ 0) ⊎ ((place < t) × (base cells place ≡ negsuc group)) → (place ≡ 0 → ⊥) → base cells place ≡ negsuc group
  held_of t group place (inl e) some = absurd (some e)
  held_of t group place (inr h) some = h.1

  pub all_found : (groups : ℕ) (places : List ℕ) → IsScanned groups cells (length cells) places → ((g : ℕ) → g < groups → slice_index places g ≡ 0 → ⊥) → HoldEach groups cells × ArePlaces groups cells places
  all_found groups places is found =
      let hold : (g : ℕ) → g < groups → base cells (slice_index places g) ≡ negsuc g = λ g less. held_of (length cells) g (slice_index places g) (is.placed g less).held (found g less) in (
        record {
          rules = record { root_check = root.root_check; root_base = root.root_base; others = is.allowed };
          once = λ g less. record {
            place = slice_index places g;
            holds = hold g less;
            only = λ t at. (is.placed g less).only t (value_within g t at) at;
          };
        },
        record { many = is.many; hold = hold },
      )
