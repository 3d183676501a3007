use Rattle.std.proofs.Common.{rules, arith, ◌≡◌, ◌+◌, ◌*◌, ◌≤◌, ℤ, List, length, take, sym, ap, ◌∙◌, subst}
use Rattle.std.proofs.Math.Nat.{add-mul}
use Rattle.dict_image.specs.CostTables.{cost_before}
use Rattle.dict_image.specs.Rows.{AreRows}
use Rattle.dict_image.proofs.RowLemmas.{rows_more}
use Rattle.dict_image.proofs.TailLemmas.{extended, tail_replaced}
use Rattle.dict_image.proofs.cost_table.append_rows.Goals as goal

pub returns : goal.returns
returns c =
    let width = c.args.sizes.right in
    let first = c.args.first in
    let count = c.args.count in
    let cost = cost_before c.args.sizes c.args.costs.now in
    let old = c.args.rows.now.items in
    let block = c.set_rows.new.rows in
    let items = c.resize.new.self.items in
    let start = c.len-start.result in
    let had = c.requires.rows.many in
    let added = c.set_rows.ensures.many in
    let split = add-mul first count width in
    let at : start ≡ length old = search (rules, c.len-start.ensures) in
    let long : length items ≡ (first + count) * width = search (rules, c.in_ok-resize.ensures.len) in
    let sized : c.resize.new.self.len ≡ (first + count) * width = c.in_ok-resize.ensures.len in
    let fits : start ≤ (first + count) * width = omega (arith, at, had, split) in
    let kept = ap (λ (xs : List ℤ). take start xs) (c.deref_mut.ensures.value ∙ c.in_ok-resize.ensures.items) ∙ extended old _ start _ at fits in
    let is = tail_replaced c.deref_mut.result.now items old block start _ kept (long ∙ sym sized) (omega (arith, had, added, split, sized)) in
    subst (AreRows cost width (first + count)) is (rows_more cost width first count old block c.requires.rows c.set_rows.ensures)
