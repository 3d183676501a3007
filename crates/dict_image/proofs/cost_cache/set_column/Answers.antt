use Rattle.std.proofs.Common.{rules, to_z, of_z, w16, ◌≡◌, ◌+◌, ◌*◌, ℕ, ℤ, length, set, sym, subst}
use Rattle.dict_image.specs.Columns.{IsColumnSet}
use Rattle.dict_image.specs.CostCache.{cost_after}
use Rattle.dict_image.proofs.ColumnLemmas.{set_more}
use Rattle.dict_image.proofs.cost_cache.set_column.Goals as goal

pub loop-row-preserved : goal.loop-row-preserved
loop-row-preserved c =
    let width = length c.args.rights.now in
    let row = c.loop-row.row in
    let column = c.args.column in
    let rows = c.loop-row.cached in
    let cost : ℕ → ℤ = cost_after c.args.sizes c.args.costs.now c.args.lefts.now c.args.rights.now column in
    let stored = c.cost_at.ensures in
    let right = c.from-right.ensures in
    let left = c.from-left.ensures in
    let is : to_z w16 (of_z w16 c.cost_at.result) ≡ cost row = search (rules, stored, right, left) in
    let more = set_more cost width (length c.args.lefts.now) row column c.args.cached.now rows c.requires.many c.loop-row-test.true c.requires.column c.loop-row.invariant in
    subst (λ (x : ℤ). IsColumnSet cost width (row + 1) column c.args.cached.now (set rows (row * width + column) x)) (sym is) more
