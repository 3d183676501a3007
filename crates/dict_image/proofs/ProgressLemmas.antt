-- Iterators over the list of remaining items terminate.
use Rattle.std.proofs.Common.{◌≡◌, suc, List, length, Option, Some, None, ap, arith}
use Rattle.std.specs.Iterator.{MakesProgress, YieldsFirstBy, item_count}

pub progress_of : {S A B : Type 0} (view : A → B) (rest : S → List B) (can : S → Type 0) (s : S) (r : Option A) (t : S) → can t → YieldsFirstBy view rest s r t → MakesProgress can (item_count rest) s r t
progress_of view rest can s None t may yields = record { on = λ _. tt; keeps = tt; rests = λ finite. finite }
progress_of view rest can s (Some x) t may yields =
    let longer : length (rest s) ≡ suc (length (rest t)) = ap length yields in
    record { on = λ finite. (may, finite, omega (arith, longer)); keeps = may; rests = λ _. tt }
