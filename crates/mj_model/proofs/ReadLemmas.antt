-- How many cells a walk reads, byte by byte.
use Rattle.std.proofs.Common.{◌≡◌, ℕ, zero, suc, ◌+◌, ◌-◌, ◌*◌, ◌<◌, ◌≤◌, ℤ, pos, negsuc, Bool, true, false, cond, List, [], length, get_or, take, Option, None, Some, sym, ap, ◌∙◌, arith, inl, inr, refl, ◌+ℤ◌, nat_lt}
use Rattle.std.proofs.lemmas.Bool.{cases_lt, false_from_ne_true, ltb-true}
use Rattle.std.proofs.lemmas.List.{get_or-take, length-take-le, take-take, take_all}
use Rattle.std.proofs.lemmas.List.FromFn.{sum_by-map-range_with_len_more}
use Rattle.mj_model.specs.CellMap.{Cell, base, step, walk, codes_of}
use Rattle.mj_model.specs.Reads.{reads_at, step_reads, reads_from, byte_reads, walk_reads}
use Rattle.mj_model.proofs.KeyWalks.{length-codes_of, code_of_byte, walk_stops, walk_take_more}

abbrev one_if : Bool → ℕ
one_if b = cond b 1 0

one_or_none : (b : Bool) → one_if b ≤ 1
one_or_none true = omega arith
one_or_none false = omega arith

pub at_most_one : (cells : List Cell) (z : ℤ) → reads_at cells z ≤ 1
at_most_one cells (pos i) = one_or_none _
at_most_one cells (negsuc k) = omega arith

at_of_none : (z : ℤ) → reads_at [] z ≡ 0
at_of_none (pos i) = none_below (nat_lt i 0) (false_from_ne_true (nat_lt i 0) (λ h. let l = ltb-true i 0 (h) in absurd (omega (arith, l)))) where
  none_below : (b : Bool) → b ≡ false → one_if b ≡ 0
  none_below b e = ap one_if e
at_of_none (negsuc k) = refl

pub step_at_most_one : (cells : List Cell) (s c : ℕ) → step_reads cells s c ≤ 1
unfolding step_reads
step_at_most_one cells s c = at_most_one cells _

pub from_at_most_one : (cells : List Cell) (o : Option ℕ) (c : ℕ) → reads_from cells o c ≤ 1
from_at_most_one cells None c = omega arith
from_at_most_one cells (Some s) c = step_at_most_one cells s c

-- with a known base of the state
pub step_reads_at : (cells : List Cell) (s c b i : ℕ) → base cells s ≡ pos b → i ≡ b + c → reads_at cells (pos i) ≡ step_reads cells s c
unfolding step_reads
step_reads_at cells s c b i at place = sym (rw at (ap (λ (k : ℕ). reads_at cells (pos k)) (sym place)))

-- before the first byte, the root
pub reads_of_none : (cells : List Cell) (text : List ℕ) → walk_reads cells text 0 ≡ reads_at cells (pos 0)
unfolding walk_reads
reads_of_none cells text = let n = reads_at cells (pos 0) in omega arith

-- a byte more
pub reads_more : (cells : List Cell) (text : List ℕ) (n : ℕ) → walk_reads cells text (n + 1) ≡ walk_reads cells text n + byte_reads cells text n
unfolding walk_reads
reads_more cells text n =
    let e = sum_by-map-range_with_len_more (λ (k : ℕ). k) (byte_reads cells text) 0 n n (omega arith) in omega (arith, e)

pub reads_few : (cells : List Cell) (text : List ℕ) (n : ℕ) → walk_reads cells text n ≤ 2 * n + 1
reads_few cells text zero = let e = reads_of_none cells text in let f = at_most_one cells (pos 0) in omega (arith, e, f)
reads_few cells text (suc n) =
    let s : suc n ≡ n + 1 = omega arith in
    let e = ap (walk_reads cells text) s ∙ reads_more cells text n in
    let a = from_at_most_one cells (walk cells 0 (take n (codes_of text))) (get_or text n 0 + 1) in
    let b = from_at_most_one cells (walk cells 0 (take (n + 1) (codes_of text))) 0 in
    let before = reads_few cells text n in
    omega (arith, e, a, b, before)

-- without cells, none is read
step_of_none : (s c : ℕ) → step_reads [] s c ≡ 0
unfolding step_reads
step_of_none s c = at_of_none (base [] s +ℤ pos c)

from_of_none : (o : Option ℕ) (c : ℕ) → reads_from [] o c ≡ 0
from_of_none None c = refl
from_of_none (Some s) c = step_of_none s c

pub no_reads : (text : List ℕ) (n : ℕ) → walk_reads [] text n ≡ 0
no_reads text zero = reads_of_none [] text ∙ at_of_none (pos 0)
no_reads text (suc n) =
    let s : suc n ≡ n + 1 = omega arith in
    let e = ap (walk_reads [] text) s ∙ reads_more [] text n in
    let a = from_of_none (walk [] 0 (take n (codes_of text))) (get_or text n 0 + 1) in
    let b = from_of_none (walk [] 0 (take (n + 1) (codes_of text))) 0 in
    let before = no_reads text n in
    omega (arith, e, a, b, before)

-- ---- one byte, by the result of its step

module _ (cells : List Cell) (text : List ℕ) (n s : ℕ) (less : n < length text) (led : walk cells 0 (take n (codes_of text)) ≡ Some s) where
  coded : n < length (codes_of text)
  coded = let e = length-codes_of text in omega (arith, e, less)

  at_byte : byte_reads cells text n ≡ step_reads cells s (get_or text n 0 + 1) + reads_from cells (walk cells 0 (take (n + 1) (codes_of text))) 0
  at_byte = ap (λ (o : Option ℕ). reads_from cells o (get_or text n 0 + 1) + reads_from cells (walk cells 0 (take (n + 1) (codes_of text))) 0) led

  -- the step leads on
  pub led_on : (t : ℕ) → step cells s (get_or text n 0 + 1) ≡ Some t → walk cells 0 (take (n + 1) (codes_of text)) ≡ Some t
  led_on t found = walk_take_more cells (codes_of text) n s (get_or text n 0 + 1) t coded (code_of_byte text n less) led found

  pub reads_on : (t : ℕ) → step cells s (get_or text n 0 + 1) ≡ Some t → walk_reads cells text (n + 1) ≡ walk_reads cells text n + step_reads cells s (get_or text n 0 + 1) + step_reads cells t 0
  reads_on t found =
      let e = reads_more cells text n in
      let f = at_byte ∙ ap (λ (o : Option ℕ). step_reads cells s (get_or text n 0 + 1) + reads_from cells o 0) (led_on t found) in
      omega (arith, e, f)

  -- the step leads nowhere, and so does any longer prefix
  module _ (stopped : step cells s (get_or text n 0 + 1) ≡ None) where
    nowhere : (m : ℕ) → n < m → walk cells 0 (take m (codes_of text)) ≡ None
    nowhere m more = elim (cases_lt m (length (codes_of text))) [
      | inl within ↦ nowhere_at m more (omega (arith, within))
      | inr past ↦
          ap (walk cells 0) (take_all m (codes_of text) past ∙ sym (take_all (length (codes_of text)) (codes_of text) (omega arith)))
          ∙ nowhere_at (length (codes_of text)) coded (omega arith)
    ] where
      nowhere_at : (m : ℕ) → n < m → m ≤ length (codes_of text) → walk cells 0 (take m (codes_of text)) ≡ None
      nowhere_at m more within =
          let long = length-take-le m (codes_of text) within in
          walk_stops cells (take m (codes_of text)) n s (get_or text n 0 + 1) (omega (arith, long, more)) (get_or-take m (codes_of text) n 0 more ∙ code_of_byte text n less)
          (ap (walk cells 0) (take-take n m (codes_of text) (omega (arith, more))) ∙ led) stopped

    none_more : (m : ℕ) → n < m → byte_reads cells text m ≡ 0
    none_more m more =
        let a = ap (λ (o : Option ℕ). reads_from cells o (get_or text m 0 + 1)) (nowhere m more) in
        let b = ap (λ (o : Option ℕ). reads_from cells o 0) (nowhere (m + 1) (omega (arith, more))) in
        omega (arith, a, b)

    same_on : (k : ℕ) → walk_reads cells text (n + 1 + k) ≡ walk_reads cells text (n + 1)
    same_on zero = ap (walk_reads cells text) (let e : n + 1 + zero ≡ n + 1 = omega arith in e)
    same_on (suc k) =
        let e : n + 1 + suc k ≡ n + 1 + k + 1 = omega arith in
        let more = ap (walk_reads cells text) e ∙ reads_more cells text (n + 1 + k) in
        let none = none_more (n + 1 + k) (omega arith) in
        let before = same_on k in
        omega (arith, more, none, before)

    pub reads_ended : walk_reads cells text (length text) ≡ walk_reads cells text n + step_reads cells s (get_or text n 0 + 1)
    reads_ended =
        let e : n + 1 + (length text - (n + 1)) ≡ length text = omega (arith, less) in
        let all = ap (walk_reads cells text) (sym e) ∙ same_on (length text - (n + 1)) in
        let more = reads_more cells text n in
        let f = at_byte ∙ ap (λ (o : Option ℕ). step_reads cells s (get_or text n 0 + 1) + reads_from cells o 0) (nowhere (n + 1) (omega arith)) in
        omega (arith, all, more, f)
