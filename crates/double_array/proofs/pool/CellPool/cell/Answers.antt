use Rattle.std.proofs.Common.{rules, arith, ap, inl, inr, w32}
use mir.Val.{SFits}
use Rattle.double_array.specs.Pool.{Pool}
use Rattle.double_array.proofs.PoolLemmas.{long_seen, read_free, read_used}
use Rattle.double_array.proofs.pool.CellPool.cell.Goals as goal
use Rattle.double_array.proofs.pool.CellPool.cell.Goals.{else-i-ne0-via-then-i-ne0+else-check-lt0, else-i-ne0-via-else-i-ne0}

pub get-base-requires : goal.get-base-requires
get-base-requires c =
    let l = long_seen c.self.inside.cells c.args.self.now.cells (ap (λ (p : Pool). p.cells) c.self.view_is) in omega (arith, l, c.requires)

pub returns-then-check-lt0 : goal.returns-then-check-lt0
returns-then-check-lt0 c =
    let fits : SFits w32 c.get-base.result.1 = search rules in
    read_free c.self.inside.cells c.args.self.now.cells c.args.i c.get-base.result (ap (λ (p : Pool). p.cells) c.self.view_is) c.if-i-ne0.true c.get-base.ensures c.if-check-lt0.true fits

pub returns-else-i-ne0 : goal.returns-else-i-ne0
returns-else-i-ne0 c =
    let fits_base : SFits w32 c.get-base.result.0 = search rules in
    let fits_check : SFits w32 c.get-base.result.1 = search rules in
    let e = ap (λ (p : Pool). p.cells) c.self.view_is in
    elim c.else-i-ne0.branch [
      | else-i-ne0-via-then-i-ne0+else-check-lt0 w ↦ read_used c.self.inside.cells c.args.self.now.cells c.args.i c.get-base.result e (inr w.if-check-lt0.false) c.get-base.ensures fits_base fits_check
      | else-i-ne0-via-else-i-ne0 w ↦ read_used c.self.inside.cells c.args.self.now.cells c.args.i c.get-base.result e (inl w.if-i-ne0.false) c.get-base.ensures fits_base fits_check
    ]
