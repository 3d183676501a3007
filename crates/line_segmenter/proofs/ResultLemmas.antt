-- Facts for one outcome of a call that is returned as it is.
use Rattle.std.specs.Prelude.{Result, Ok, Err, IfErr, OnOk}

pub on_ok : {T E : Type 0} (r : Result T E) (P : Type 0) → P → OnOk r P
on_ok (Ok x) P p = p
on_ok (Err e) P p = tt

-- what holds in any case holds for each error of a kind
pub each_err : {T E : Type 0} (r : Result T E) (Is : E → Type 0) (P : Type 0) → P → IfErr r (λ e. Is e → P)
each_err (Ok x) Is P p = tt
each_err (Err e) Is P p = λ _. p
