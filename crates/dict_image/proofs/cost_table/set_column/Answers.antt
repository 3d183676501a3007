use Rattle.std.proofs.Common.{rules, to_z, of_z, w16, ◌≡◌, ◌+◌, ◌*◌, ℕ, ℤ, set, sym, subst}
use Rattle.dict_image.specs.Columns.{IsColumnSet}
use Rattle.dict_image.specs.CostTables.{cost_from}
use Rattle.dict_image.proofs.ColumnLemmas.{set_more}
use Rattle.dict_image.proofs.cost_table.set_column.Goals as goal

pub loop-row-preserved : goal.loop-row-preserved
loop-row-preserved c =
    let width = c.args.sizes.right in
    let row = c.loop-row.row in
    let right = c.args.right in
    let rows = c.loop-row.rows in
    let cost : ℕ → ℤ = λ (n : ℕ). cost_from c.args.sizes c.args.costs.now c.args.first n right in
    let stored = c.cost_at.ensures in
    let is : to_z w16 (of_z w16 c.cost_at.result) ≡ cost row = search (rules, stored) in
    let more = set_more cost width c.args.count row right c.args.rows.now rows c.requires.many c.loop-row-test.true c.requires.right c.loop-row.invariant in
    subst (λ (x : ℤ). IsColumnSet cost width (row + 1) right c.args.rows.now (set rows (row * width + right) x)) (sym is) more
