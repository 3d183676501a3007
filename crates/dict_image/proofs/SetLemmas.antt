-- One item of a list is set, and the others do not change.
use Rattle.std.proofs.Common.{◌≡◌, ℕ, ◌<◌, List, set, length, Some, inl, inr, sym, ap, ◌∙◌, arith, slice_get}
use Rattle.std.proofs.lemmas.Bool.{cases_lt}
use Rattle.std.proofs.lemmas.List.{length-set, get_or-set_same, get_or-set_other}
use Rattle.std.proofs.lemmas.Option.{slice_get-get_or, slice_get_past}

pub set_here : {X : Type 0} (xs : List X) (i : ℕ) (x : X) → i < length xs → slice_get (set xs i x) i ≡ Some x
set_here xs i x within = slice_get-get_or (set xs i x) i x (omega (arith, within, length-set xs i x)) ∙ ap Some (get_or-set_same xs i x x within)

pub set_elsewhere : {X : Type 0} (xs : List X) (i j : ℕ) (x : X) → (j ≡ i → ⊥) → slice_get (set xs i x) j ≡ slice_get xs j
set_elsewhere xs i j x differs =
    let long = length-set xs i x in
    elim (cases_lt j (length xs)) [
      | inl within ↦
          slice_get-get_or (set xs i x) j x (omega (arith, within, long)) ∙ ap Some (get_or-set_other xs i j x x differs)
          ∙ sym (slice_get-get_or xs j x within)
      | inr past ↦ slice_get_past (set xs i x) j (omega (arith, past, long)) ∙ sym (slice_get_past xs j past)
    ]
