-- The state after a write that took some bytes.
use Rattle.std.proofs.Common.{◌≡◌, ℕ, ◌+◌, ◌-◌, ◌≤◌, ◌<◌, Bool, true, false, cond, ◌&&◌, List, ◌++◌, length, take, drop, sym, ap, ◌∙◌, subst, arith, take_all, take-add, length-drop, nat_eq, nat_lt}
use Rattle.std.proofs.lemmas.Bool.{ne_eqb, lt-ltb}
use Rattle.std.specs.Prelude.{Option}
use Rattle.std.specs.Io.KnownBytes.{Appends}
use Rattle.std.proofs.KnownBytes.{Appends-trans}

rest_is : (bytes : List ℕ) (sent : ℕ) → take (length bytes - sent) (drop sent bytes) ≡ drop sent bytes
rest_is bytes sent = take_all (length bytes - sent) (drop sent bytes) (let n = length-drop sent bytes in omega (arith, n))

pub appends_more : (a b c : Option (List ℕ)) (bytes : List ℕ) (sent n : ℕ) → Appends a b (take sent bytes)
    → Appends b c (take n (take (length bytes - sent) (drop sent bytes))) → Appends a c (take (sent + n) bytes)
appends_more a b c bytes sent n front next =
    subst (λ bs. Appends a c bs) (ap (λ r. take sent bytes ++ take n r) (rest_is bytes sent) ∙ sym (take-add sent n bytes)) (Appends-trans a b c (take sent bytes) (take n (take (length bytes - sent) (drop sent bytes))) front next)

pub within_more : (bytes : List ℕ) (sent n : ℕ) → sent ≤ length bytes → n ≤ length (take (length bytes - sent) (drop sent bytes)) → sent + n ≤ length bytes
within_more bytes sent n low h =
    let is = ap length (rest_is bytes sent) in
    let len = length-drop sent bytes in
    omega (arith, low, h, is, len)

no_failure_by : (is_none b : Bool) → is_none ≡ false → ◌≡◌ {A = ℕ} (cond (is_none && b) 1 0) 0
no_failure_by is_none b e = ap {B = ℕ} (λ c. cond (c && b) 1 0) e

pub no_failure : (n : ℕ) (b : Bool) → (n ≡ 0 → ⊥) → ◌≡◌ {A = ℕ} (cond (nat_eq n 0 && b) 1 0) 0
no_failure n b ne = no_failure_by (nat_eq n 0) b (ne_eqb n 0 ne)

one_end_by : (b : Bool) → b ≡ true → ◌≡◌ {A = ℕ} (cond b 1 0) 1
one_end_by b e = ap {B = ℕ} (λ c. cond c 1 0) e

-- a read of no bytes into a buffer that is not empty met the end
pub one_end : (n room : ℕ) → n ≡ 0 → 0 < room → ◌≡◌ {A = ℕ} (cond (nat_eq n 0 && nat_lt 0 room) 1 0) 1
one_end n room e h = one_end_by (nat_eq n 0 && nat_lt 0 room) (ap (λ m. nat_eq m 0 && nat_lt 0 room) e ∙ lt-ltb 0 room h)
