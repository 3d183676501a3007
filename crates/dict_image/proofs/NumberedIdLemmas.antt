-- An id that gets the next number.
use Rattle.std.proofs.Common.{◌≡◌, ℕ, zero, suc, ◌<◌, ◌≤◌, List, [], ◌∷◌, ◌++◌, set, length, Some, ◌⊎◌, inl, inr, refl, sym, ap, ◌∙◌, arith, subst, slice_get}
use Rattle.std.proofs.Math.ListN.{length-append}
use Rattle.std.proofs.lemmas.Bool.{cases_eq}
use Rattle.std.proofs.lemmas.Option.{same_Some, slice_get_within}
use Rattle.dict_image.specs.declared.numbered_ids.TheConstants.{NUMBERED_MAX}
use Rattle.dict_image.specs.NumberedIds.{AreNumbered}
use Rattle.dict_image.proofs.SetLemmas.{set_elsewhere, set_here}

-- ---- one id more

still : (ids : List ℕ) (id i x : ℕ) → slice_get ids i ≡ Some x → slice_get (ids ++ id ∷ []) i ≡ Some x
still [] id i x is = absurd (cc)
still (y ∷ ids) id zero x is = is
still (y ∷ ids) id (suc i) x is = still ids id i x is

last : (ids : List ℕ) (id : ℕ) → slice_get (ids ++ id ∷ []) (length ids) ≡ Some id
last [] id = refl
last (y ∷ ids) id = last ids id

-- an id is one from before, or the last one
earlier_or_last : (ids : List ℕ) (id i x : ℕ) → slice_get (ids ++ id ∷ []) i ≡ Some x → (slice_get ids i ≡ Some x) ⊎ ((i ≡ length ids) × (id ≡ x))
earlier_or_last [] id zero x is = inr (refl, same_Some id x is)
earlier_or_last [] id (suc i) x is = absurd (cc)
earlier_or_last (y ∷ ids) id zero x is = inl is
earlier_or_last (y ∷ ids) id (suc i) x is = elim (earlier_or_last ids id i x is) [ inl e ↦ inl e | inr l ↦ inr (ap suc l.0, l.1) ]

-- ---- its number

-- an id without a valid number gets the next one
pub numbered_more : (ids numbers : List ℕ) (id number : ℕ) → AreNumbered ids numbers → length ids < NUMBERED_MAX → slice_get numbers id ≡ Some number → length ids ≤ number
    → AreNumbered (ids ++ id ∷ []) (set numbers id (length ids))
numbered_more ids numbers id number are room at past =
    let within = slice_get_within numbers id number at in
    let longer = length-append ids (id ∷ []) in
    record {
      given = λ other n is below.
          elim (cases_eq other id) [
            | inl same ↦
                let first : slice_get (set numbers id (length ids)) id ≡ Some n = subst (λ (o : ℕ). slice_get (set numbers id (length ids)) o ≡ Some n) same is in
                let next : length ids ≡ n = same_Some (length ids) n (sym (set_here numbers id (length ids) within) ∙ first) in
                subst (λ (m : ℕ). slice_get (ids ++ id ∷ []) m ≡ Some other) next (last ids id ∙ ap Some (sym same))
            | inr differs ↦ still ids id n other (are.given other n (sym (set_elsewhere numbers id other (length ids) differs) ∙ is) below)
          ];
      there = λ other n is. elim (earlier_or_last ids id n other is) [
        | inl earlier ↦
            let had = are.there other n earlier in
            let differs : other ≡ id → ⊥ = λ same.
            let equal : n ≡ number = same_Some n number (sym had ∙ ap (slice_get numbers) same ∙ at) in
            let before = slice_get_within ids n other earlier in
            omega (arith, equal, before, past) in
            set_elsewhere numbers id other (length ids) differs ∙ had
        | inr new ↦
            subst (λ (o : ℕ). slice_get (set numbers id (length ids)) o ≡ Some n) new.1 (set_here numbers id (length ids) within ∙ ap Some (sym new.0))
      ];
      most = omega (arith, longer, room);
    }
