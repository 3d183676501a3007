-- A walk goes on by a byte.
use Rattle.std.proofs.Common.{◌≡◌, ℕ, ◌+◌, ◌*◌, ◌<◌, ◌≤◌, List, length, get_or, take, Option, None, Some, arith}
use Rattle.mj_model.specs.CellMap.{Cell, walk, codes_of}
use Rattle.mj_model.specs.CellRules.{AreCells}
use Rattle.mj_model.specs.declared.cell_walk.steps.WalkState.{WalkState}
use Rattle.mj_model.specs.declared.cell_walk.walk.Walk.{Walk}
use Rattle.mj_model.specs.Reads.{step_reads, walk_reads}
use Rattle.mj_model.specs.Steps.{IsStepTo}
use Rattle.mj_model.specs.Walking.{IsWalkingWithUnread, value_reads, bytes_walked, walked_by}
use Rattle.mj_model.proofs.ReadLemmas.{led_on, reads_ended, reads_few, reads_on}

walked_within : (text : List ℕ) (place : Option WalkState) (n : ℕ) → n ≤ length text → walked_by text place n ≤ length text
walked_within text None n within = omega arith
walked_within text (Some place) n within = within

-- two reads a byte, and the root
pub few_reads : (left : ℕ) (cells : List Cell) (text : List ℕ) (it : Walk) → IsWalkingWithUnread left cells text it → it.reads + left ≤ 2 * bytes_walked text it + 1
few_reads left cells text it w = let e = w.reads in let f = reads_few cells text (bytes_walked text it) in omega (arith, e, f)

pub few_in_text : (left : ℕ) (cells : List Cell) (text : List ℕ) (it : Walk) → IsWalkingWithUnread left cells text it → it.reads + left ≤ 2 * length text + 1
few_in_text left cells text it w = let f = few_reads left cells text it w in let l = walked_within text it.place it.length w.within in omega (arith, f, l)

pub advanced : (cells : List Cell) (text : List ℕ) (n s reads more : ℕ) (found : Option WalkState) → AreCells cells → n < length text → walk cells 0 (take n (codes_of text)) ≡ Some s
    → reads + 0 ≡ walk_reads cells text n → IsStepTo cells s (get_or text n 0 + 1) found → more ≡ reads + step_reads cells s (get_or text n 0 + 1)
    → IsWalkingWithUnread (value_reads cells found) cells text (record { length = n + 1; place = found; reads = more })
advanced cells text n s reads more None are less led before stopped now = record {
  are = are;
  within = omega (arith, less);
  place = tt;
  led = tt;
  reads = let e = reads_ended cells text n s less led stopped in omega (arith, e, before, now);
}
advanced cells text n s reads more (Some place) are less led before step now = record {
  are = are;
  within = omega (arith, less);
  place = step.1;
  led = led_on cells text n s less led place.state step.0;
  reads = let e = reads_on cells text n s less led place.state step.0 in omega (arith, e, before, now);
}
