use Rattle.std.proofs.Common.{rules, arith, w32}
use mir.Val.{SFits}
use Rattle.double_array.proofs.PoolLemmas.{last_used, pool_lowered}
use Rattle.double_array.proofs.pool.lowered.Goals as goal

pub loop-top-preserved : goal.loop-top-preserved
loop-top-preserved c =
    let fits : SFits w32 c.get.result.1 = search rules in
    let low = c.loop-top.invariant.low in
    record {
      pool = pool_lowered c.args.cells.now c.loop-top.top c.args.start c.get.result c.loop-top.invariant.pool c.get.ensures fits c.loop-top-test.true c.if-get-lt0.true;
      low = omega (arith, low);
    }

pub returns-else-get-lt0-clause-last : goal.returns-else-get-lt0-clause-last
returns-else-get-lt0-clause-last c =
    let fits : SFits w32 c.get.result.1 = search rules in
    last_used c.args.cells.now c.loop-top.top c.args.start c.get.result c.loop-top.invariant.pool c.get.ensures fits c.if-get-lt0.false
