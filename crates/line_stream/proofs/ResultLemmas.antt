-- Facts for one outcome of a call that is returned as it is.
use Rattle.std.proofs.Common.{◌≡◌, ℕ, List, ◌++◌, length, take, sym, ap, ◌∙◌, arith}
use Rattle.std.specs.Prelude.{Result, Ok, Err, OnOk, OnErr}
use Rattle.std.proofs.lemmas.List.{take_all, take_at}

pub on_ok : {T E : Type 0} (r : Result T E) (P : Type 0) → P → OnOk r P
on_ok (Ok x) P p = p
on_ok (Err e) P p = tt

pub on_ok_by : {T E : Type 0} (r : Result T E) (P Q : Type 0) → (P → Q) → OnOk r P → OnOk r Q
on_ok_by (Ok x) P Q f p = f p
on_ok_by (Err e) P Q f p = tt

-- if one outcome appends and the other leaves the list unchanged, the old list is a prefix of the
-- new one
pub prefix_kept : {T E : Type 0} (r : Result T E) (Is : List ℕ → Type 0) (n : ℕ) (old new : List ℕ) → n ≡ length old
    → OnOk r ((more : List ℕ) × Is more × (new ≡ old ++ more)) → OnErr r (new ≡ old) → take n new ≡ old
prefix_kept (Ok x) Is n old new long grown same = ap (take n) grown.2 ∙ take_at old grown.0 n (sym long)
prefix_kept (Err e) Is n old new long grown same = ap (take n) same ∙ take_all n old (omega (arith, long))
