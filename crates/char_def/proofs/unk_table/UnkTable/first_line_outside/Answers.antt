use Rattle.mj_model.specs.declared.matrix_sizes.MatrixSizes.{MatrixSizes}
use Rattle.char_def.proofs.OutsideLemmas.{lists_more}
use Rattle.char_def.proofs.unk_table.UnkTable.first_line_outside.Goals as goal

pub loop-list-preserved : goal.loop-list-preserved
loop-list-preserved c =
    let sizes : MatrixSizes = c.args.sizes in
    lists_more sizes c.deref-list-items.result.now c.loop-list.list-index c.list-item.result c.least_line_outside-first.result c.loop-list-test.true c.list-item.is
    (rw c.deref.ensures.value at (c.least_line_outside-first.ensures _ c.loop-list.invariant))
