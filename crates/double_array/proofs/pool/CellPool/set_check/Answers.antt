use Rattle.std.proofs.Common.{pos, ap}
use Rattle.double_array.specs.Pool.{Pool}
use Rattle.double_array.proofs.PoolLemmas.{pool_refilled, refilled_seen, rechecked, IsRefilled}
use Rattle.mj_model.specs.CellMap.{base}
use Rattle.double_array.proofs.pool.CellPool.set_check.Goals as goal

refilled : (c : goal.After-change_check) → IsRefilled c.self.inside.cells c.change_check.new.cells c.self.inside.top c.args.i (base c.args.self.now.cells c.args.i, pos c.args.state)
refilled c = rechecked c.self.inside.cells c.change_check.new.cells c.args.self.now.cells c.self.inside.top c.self.inside.start c.args.i c.requires.used.0 c.args.state c.self.invariant (ap (λ (p : Pool). p.cells) c.self.view_is) c.requires.used.1 c.requires.above c.change_check.ensures

pub invariant_of-self : goal.invariant_of-self
invariant_of-self c = pool_refilled c.self.inside.cells c.change_check.new.cells c.self.inside.top c.self.inside.start c.args.i (base c.args.self.now.cells c.args.i, pos c.args.state) c.self.invariant (refilled c)

pub returns-clause-cells : goal.returns-clause-cells
returns-clause-cells c = refilled_seen c.self.inside.cells c.change_check.new.cells c.args.self.now.cells c.self.inside.top c.args.i (base c.args.self.now.cells c.args.i, pos c.args.state) (ap (λ (p : Pool). p.cells) c.self.view_is) (refilled c)
