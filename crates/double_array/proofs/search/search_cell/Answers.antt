use Rattle.std.proofs.Common.{arith, ◌≡◌, ◌+◌, ◌-◌, ap, ◌∙◌}
use Rattle.mj_model.specs.CellMap.{cell_at}
use Rattle.double_array.specs.Views.{cell_views}
use Rattle.double_array.proofs.PoolLemmas.{linked_is_free}
use Rattle.double_array.proofs.search.search_cell.Goals as goal

pub loop-init : goal.loop-init
loop-init c = (c.requires.pool.ring.next 1 c.next-i.result c.requires.pool.ring.first c.next-i.ensures).0

pub returns-then-i-code-clause-free : goal.returns-then-i-code-clause-free
returns-then-i-code-clause-free c =
    let e : c.loop.i - c.args.code + c.args.code ≡ c.loop.i = omega (arith, c.if-i-code.true) in
    ap (cell_at (cell_views c.args.cells.now)) e ∙ linked_is_free c.args.cells.now c.loop.i c.loop.invariant
