use Rattle.std.proofs.Common.{arith, ℤ, set, ap, ◌∙◌, w32}
use Rattle.std.proofs.lemmas.Int.{to_z-of_z}
use Rattle.double_array.specs.Pool.{Pool}
use Rattle.double_array.proofs.PoolLemmas.{long_seen, pool_refilled, refilled_seen, based, IsRefilled}
use Rattle.mj_model.specs.CellMap.{check}
use Rattle.double_array.proofs.pool.CellPool.set_base.Goals as goal

pub change_base-requires : goal.change_base-requires
change_base-requires c =
    let l = long_seen c.self.inside.cells c.args.self.now.cells (ap (λ (p : Pool). p.cells) c.self.view_is) in omega (arith, l, c.requires.within)

refilled : (c : goal.After-change_base) → IsRefilled c.self.inside.cells c.change_base.new.cells c.self.inside.top c.args.i (c.args.base, check c.args.self.now.cells c.args.i)
refilled c = based c.self.inside.cells c.change_base.new.cells c.args.self.now.cells c.self.inside.top c.self.inside.start c.args.i c.args.base c.self.invariant (ap (λ (p : Pool). p.cells) c.self.view_is) c.requires.used c.requires.within
    (c.change_base.ensures ∙ ap (λ (b : ℤ). set c.self.inside.cells c.args.i (b, check c.self.inside.cells c.args.i)) (to_z-of_z w32 c.args.base c.ranges.base))

pub invariant_of-self : goal.invariant_of-self
invariant_of-self c = pool_refilled c.self.inside.cells c.change_base.new.cells c.self.inside.top c.self.inside.start c.args.i (c.args.base, check c.args.self.now.cells c.args.i) c.self.invariant (refilled c)

pub returns-clause-cells : goal.returns-clause-cells
returns-clause-cells c = refilled_seen c.self.inside.cells c.change_base.new.cells c.args.self.now.cells c.self.inside.top c.args.i (c.args.base, check c.args.self.now.cells c.args.i) (ap (λ (p : Pool). p.cells) c.self.view_is) (refilled c)
