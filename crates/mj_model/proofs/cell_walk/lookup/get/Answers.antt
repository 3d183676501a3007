use Rattle.std.proofs.Common.{arith, ◌≡◌, ◌+◌, ◌<◌, ◌∙◌, ℕ, sym, ap, length, get_or, take, Some, pos}
use Rattle.std.proofs.lemmas.Bool.{eqb-true, eqb-false}
use Rattle.std.proofs.lemmas.List.{nil_from_length}
use Rattle.mj_model.specs.CellMap.{walk, codes_of, value_of}
use Rattle.mj_model.proofs.CellWalks.{walk_none}
use Rattle.mj_model.proofs.ReadLemmas.{at_most_one, step_at_most_one}
use Rattle.mj_model.proofs.KeyWalks.{length-codes_of, code_of_byte, walk_take_more, no_value_by_stop, value_by_end, value_of_nothing}
use Rattle.mj_model.proofs.cell_walk.lookup.get.Goals as goal

pub returns-then-is_empty : goal.returns-then-is_empty
returns-then-is_empty g c =
    let cells = g.C.CellRead.cells c.args.cells.now in
    let none : length c.args.key.now ≡ 0 = eqb-true (length c.args.key.now) 0 (sym c.if-is_empty.ensures) in
    sym (ap (value_of cells) (nil_from_length c.args.key.now none) ∙ value_of_nothing cells)

pub loop-byte-init : goal.loop-byte-init
loop-byte-init g c = record { led = walk_none (g.C.CellRead.cells c.args.cells.now) 0 ∙ ap Some (sym c.root-place.ensures.root); at = c.root-place.ensures.base; few = let e = c.root-place.ensures.reads in let one = at_most_one (g.C.CellRead.cells c.args.cells.now) (pos 0) in omega (arith, e, one) }

pub returns-in_err-place : goal.returns-in_err-place
returns-in_err-place g c =
    let cells = g.C.CellRead.cells c.args.cells.now in
    let key = c.args.key.now in
    let i = c.loop-byte.byte-index in
    let less : i < length key = c.loop-byte-test.true in
    let some : 0 < length key = omega (arith, less) in
    let within : i < length (codes_of key) = let e = length-codes_of key in omega (arith, e, less) in
    c.from_residual.ensures ∙ sym (no_value_by_stop cells key i c.loop-byte.place.state (get_or key i 0 + 1) some within (code_of_byte key i less) c.loop-byte.invariant.led c.in_err-place.ensures.step)

pub loop-byte-preserved : goal.loop-byte-preserved
loop-byte-preserved g c =
    let cells = g.C.CellRead.cells c.args.cells.now in
    let key = c.args.key.now in
    let i = c.loop-byte.byte-index in
    let less : i < length key = c.loop-byte-test.true in
    let within : i < length (codes_of key) = let e = length-codes_of key in omega (arith, e, less) in
    let found = c.in_ok-place.ensures.step in
    record {
      led = walk_take_more cells (codes_of key) i c.loop-byte.place.state (get_or key i 0 + 1) _ within (code_of_byte key i less) c.loop-byte.invariant.led found.0;
      at = found.1;
      few = let e = c.in_ok-place.ensures.reads in let one = step_at_most_one cells c.loop-byte.place.state (get_or key i 0 + 1) in let few = c.loop-byte.invariant.few in omega (arith, e, one, few);
    }

pub returns : goal.returns
returns g c =
    let cells = g.C.CellRead.cells c.args.cells.now in
    let key = c.args.key.now in
    let some : 0 < length key = let f = eqb-false (length key) 0 (sym c.if-is_empty.ensures) in omega (arith, f) in
    let end : c.loop-byte.byte-index ≡ length key = omega arith in
    c.value_at.ensures.value ∙ sym (value_by_end cells key c.loop-byte.place.state some (ap (λ (n : ℕ). walk cells 0 (take n (codes_of key))) (sym end) ∙ c.loop-byte.invariant.led))

pub step-requires-clause-reads : goal.step-requires-clause-reads
step-requires-clause-reads g c = let few = c.loop-byte.invariant.few in omega (arith, few, c.loop-byte-test.true)

pub value_at-requires-clause-reads : goal.value_at-requires-clause-reads
value_at-requires-clause-reads g c = let few = c.loop-byte.invariant.few in omega (arith, few)
