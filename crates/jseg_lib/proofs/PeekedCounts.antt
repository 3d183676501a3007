-- The counts of a reader whose first read was made in advance.
use Rattle.std.proofs.Common.{◌≡◌, ℕ, ◌+◌, ◌<◌, ◌≤◌, ◌^◌, Bool, true, false, ap, arith, Some}
use Rattle.std.specs.Prelude.{None, Option, Result, Ok, Err, if◌then◌else◌, nat_lt, ◌==◌, ◌&&◌}
use Rattle.mj_model.specs.Counts.{CanRise, end_in, failed_read}
use Rattle.jseg_lib.specs.PeekedReader.{IsUnreplayed, faults_in, peeked_end, peeked_fault, sum_of}
use Rattle.jseg_lib.specs.declared.peeked_reader.PeekedReader.{PeekedReader}
use Rattle.jseg_lib.specs.declared.peeked_reader.Replays.{Replays}

-- a sum below the limit has terms below it
pub calls_can_rise : (calls replays : ℕ) → CanRise (sum_of calls replays) → CanRise calls
calls_can_rise calls replays below = omega arith

pub replays_can_rise : (calls replays : ℕ) → CanRise (sum_of calls replays) → CanRise replays
replays_can_rise calls replays below = omega arith

-- a sum below the limit grows by 1 with each of its terms
pub one_more_call : (calls replays now by : ℕ) → CanRise (sum_of calls replays) → by ≤ 1 → now ≡ calls + by → sum_of now replays ≡ sum_of calls replays + by
one_more_call calls replays now by below few grown = omega arith

pub one_more_replay : (calls replays now by : ℕ) → CanRise (sum_of calls replays) → by ≤ 1 → now ≡ replays + by → sum_of calls now ≡ sum_of calls replays + by
one_more_replay calls replays now by below few grown = omega arith

pub at_most_one : (b : Bool) → (if b then 1 else 0) ≤ 1
at_most_one true = omega arith
at_most_one false = omega arith

pub one_end : {E : Type 0} (result : Result ℕ E) (room : ℕ) → end_in result room ≤ 1
one_end (Ok n) room = at_most_one (n == 0 && nat_lt 0 room)
one_end (Err fault) room = omega arith

pub one_failure : {E : Type 0} (result : Result ℕ E) → failed_read result ≤ 1
one_failure (Ok n) = omega arith
one_failure (Err fault) = omega arith

few_faults : {E : Type 0} (kept : Option E) → faults_in kept ≤ 1
few_faults None = omega arith
few_faults (Some fault) = omega arith

-- after a peek at a reader that counted nothing, the counts are low
pub low_counts : {R : Type 0} (p : PeekedReader R) (reads ends failures reads0 ends0 failures0 : ℕ)
    → reads0 ≡ 0 → ends0 ≡ 0 → failures0 ≡ 0 → reads ≤ reads0 + 1 → ends ≡ ends0 + peeked_end p → failures ≡ failures0 + peeked_fault p → IsUnreplayed p
    → (sum_of reads p.replays.reads < 2 ^ 63) × (sum_of ends p.replays.ends < 2 ^ 63) × (sum_of failures p.replays.failures < 2 ^ 63)
low_counts p reads ends failures reads0 ends0 failures0 no_read no_end no_failure few grown_end grown_fault unreplayed =
    let r : p.replays.reads ≡ 0 = ap (λ (x : Replays). x.reads) unreplayed in
    let e : p.replays.ends ≡ 0 = ap (λ (x : Replays). x.ends) unreplayed in
    let f : p.replays.failures ≡ 0 = ap (λ (x : Replays). x.failures) unreplayed in
    let one : peeked_end p ≤ 1 = at_most_one p.kept.is_ended in
    let two : peeked_fault p ≤ 1 = few_faults p.kept.failed in
    (omega arith, omega arith, omega arith)
