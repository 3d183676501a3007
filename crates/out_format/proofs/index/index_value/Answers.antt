use Rattle.std.proofs.Common.{arith, ◌+◌, ◌*◌}
use Rattle.out_format.proofs.IndexLemmas.{value_great}
use Rattle.out_format.proofs.index.index_value.Goals as goal

pub returns-then-value-from : goal.returns-then-value-from
returns-then-value-from c =
    let f = c.from-in-loop-digit.ensures in
    value_great c.args.digits.now c.loop-digit.digit-index _ c.loop-digit.value (10 * c.loop-digit.value + c.from.result) c.loop-digit-test.true c.loop-digit.invariant.is (omega arith) (omega arith)
