-- Numbers in slots, with one slot written.
use Rattle.std.proofs.Common.{◌≡◌, ℕ, ◌<◌, List, set, length, Some, ap, ◌∙◌, arith, slice_get}
use Rattle.std.proofs.lemmas.List.{length-set, get_or-set_same, get_or-set_other}
use Rattle.std.proofs.lemmas.Option.{get_or_from_slice_get, slice_get_within, slice_get-get_or}

-- the slot that was written
pub slot_written : (slots : List ℕ) (id number : ℕ) → id < length slots → slice_get (set slots id number) id ≡ Some number
slot_written slots id number within = slice_get-get_or (set slots id number) id 0 (omega (arith, within, length-set slots id number)) ∙ ap Some (get_or-set_same slots id number 0 within)

-- each other one stays
pub other_slot : (slots : List ℕ) (id number other n : ℕ) → (other ≡ id → ⊥) → slice_get slots other ≡ Some n → slice_get (set slots id number) other ≡ Some n
other_slot slots id number other n differs at =
    let within = slice_get_within slots other n at in
    slice_get-get_or (set slots id number) other 0 (omega (arith, within, length-set slots id number)) ∙ ap Some (get_or-set_other slots id other number 0 differs ∙ get_or_from_slice_get slots other n 0 at)
