-- Clauses on a `Result`, taken together.
use Rattle.std.proofs.Common.{◌≡◌, Result, Ok, Err, sym, subst}
use Rattle.std.specs.Result.{IsErrAnd}
use Rattle.std.proofs.lemmas.Result.{err_from_is_err_and}
use Rattle.std.specs.Prelude.{IfErr, IfOk, OnOk}

-- a result with a known value
pub ok_known : {T E A : Type 0} (r : Result T E) (x : T) (P : T → Type 0) → IfOk r (λ y. y ≡ x) → OnOk r A → (A → P x) → IfOk r P
ok_known (Ok y) x P is a f = subst P (sym is) (f a)
ok_known (Err e) x P is a f = tt

-- a fact about an error that is passed on
pub passed_on : {T E : Type 0} {x : E} (r : Result T E) (P : E → Type 0) → IsErrAnd r (λ y. y ≡ x) → P x → IfErr r P
passed_on r P same holds = let p = err_from_is_err_and r same in rw (p.1) (subst P (sym p.2) holds)
