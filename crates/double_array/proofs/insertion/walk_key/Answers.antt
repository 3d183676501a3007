use Rattle.std.proofs.Common.{◌+◌, length, sym, refl, arith, slice_index_or}
use Rattle.mj_model.proofs.CellWalks.{named_within, step_named}
use Rattle.double_array.proofs.InsertionLemmas.{walked_none, walked_more, walked_stopped, walked_all, byte_state}
use Rattle.double_array.proofs.insertion.walk_key.Goals as goal

pub loop-used-init : goal.loop-used-init
loop-used-init c = walked_none c.args.pool.now c.args.key.now c.base-from.result c.requires c.base-from.ensures

pub base-from-requires-in-Some-clause-within : goal.base-from-requires-in-Some-clause-within
base-from-requires-in-Some-clause-within c =
    let cells = c.args.pool.now.cells in
    named_within cells c.in-Some.next c.loop-used.state (step_named cells c.loop-used.state (slice_index_or c.args.key.now c.loop-used.used 0 + 1) c.in-Some.next (sym c.in-Some.ensures))

pub base-from-requires-in-Some-clause-state : goal.base-from-requires-in-Some-clause-state
base-from-requires-in-Some-clause-state c =
    let b = byte_state c.args.pool.now c.loop-used.state (slice_index_or c.args.key.now c.loop-used.used 0) c.in-Some.next c.requires (sym c.in-Some.ensures) in
    (b.0, b.1)

pub returns-in-None : goal.returns-in-None
returns-in-None c =
    walked_stopped c.args.pool.now c.args.key.now c.loop-used.used c.loop-used.state c.loop-used.from c.loop-used.invariant c.loop-used-test.true (sym c.in-None.ensures)

pub loop-used-preserved : goal.loop-used-preserved
loop-used-preserved c =
    walked_more c.args.pool.now c.args.key.now c.loop-used.used c.loop-used.state c.loop-used.from c.in-Some.next c.base-from-in-Some.result c.requires c.loop-used.invariant c.loop-used-test.true (sym c.in-Some.ensures) c.base-from-in-Some.ensures

pub returns : goal.returns
returns c = walked_all c.args.pool.now c.args.key.now c.loop-used.used c.loop-used.state c.loop-used.from (length c.args.key.now) c.loop-used.invariant (omega arith) refl
