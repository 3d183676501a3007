-- Results that are Ok.
use Rattle.std.specs.Prelude.{◌≡◌, false, Result, Ok, Err, OnOk}
use Rattle.std.specs.Result.{is_err}

-- what holds for an Ok result
pub when_ok : {T E : Type 0} (r : Result T E) (P : Type 0) → false ≡ is_err r → OnOk r P → P
when_ok (Ok x) P e h = h
when_ok (Err x) P e h = absurd (cc)
