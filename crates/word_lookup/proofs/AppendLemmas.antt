-- What was appended to a list, and outcomes.
use Rattle.std.proofs.Common.{◌≡◌, ℕ, Bool, true, false, List, ◌++◌, length, take, sym, ap, ◌∙◌, arith}
use Rattle.std.specs.Prelude.{Result, Ok, Err, OnOk, OnErr, is_err}
use Rattle.std.proofs.lemmas.Bool.{true≢false}
use Rattle.std.proofs.lemmas.List.{length-take, length-append, take_at, take-take}

-- earlier elements stay in place
pub prefix_kept : {X : Type 0} (n m : ℕ) (before more all : List X) → n ≡ length before → take m all ≡ before ++ more → take n all ≡ before
prefix_kept n m before more all is front =
    let long = ap length front in
    let a = length-take m all in
    let b = length-append before more in
    sym (take-take n m all (omega (arith, long, a, b, is))) ∙ ap (take n) front ∙ take_at before more n (sym is)

-- ---- outcomes

pub on_ok_of_err : {T E : Type 0} (P : Type 0) (r : Result T E) (failed : Bool) → failed ≡ is_err r → failed ≡ true → OnOk r P
on_ok_of_err P (Ok x) failed is h = absurd (true≢false (sym h ∙ is))
on_ok_of_err P (Err e) failed is h = tt

pub on_err_of_ok : {T E : Type 0} (P : Type 0) (r : Result T E) (failed : Bool) → failed ≡ is_err r → failed ≡ false → OnErr r P
on_err_of_ok P (Ok x) failed is h = tt
on_err_of_ok P (Err e) failed is h = absurd (true≢false (sym is ∙ h))

pub on_err : {T E P : Type 0} (r : Result T E) → P → OnErr r P
on_err (Ok x) p = tt
on_err (Err e) p = p

pub on_ok_map : {T E P Q : Type 0} (r : Result T E) → OnOk r P → (P → Q) → OnOk r Q
on_ok_map (Ok x) p f = f p
on_ok_map (Err e) p f = tt
