use Rattle.std.proofs.Common.{ℕ, ◌++◌, ◌∷◌, [], List, sym, subst, ◌∙◌, take}
use Rattle.mj_model.specs.declared.matrix_sizes.MatrixSizes.{MatrixSizes}
use Rattle.mj_model.specs.Lexicon.{rows_of}
use Rattle.char_def.specs.Outside.{lines_outside, IsLeastOf}
use Rattle.char_def.proofs.OutsideLemmas.{outside_more, inside_more, all_scanned}
use Rattle.char_def.proofs.outside.least_line_outside.Goals as goal
use Rattle.char_def.proofs.outside.least_line_outside.Goals.{then-is_outside, else-is_outside}

pub loop-record-preserved : goal.loop-record-preserved
loop-record-preserved c = λ before h.
    let sizes : MatrixSizes = c.args.sizes in
    let so_far : List ℕ = before ++ lines_outside sizes (rows_of (take c.loop-record.record-index c.args.records.now)) in
    elim c.if-is_outside.branch [
      | then-is_outside w ↦
          outside_more sizes before c.args.records.now c.loop-record.record-index c.record-item.result c.if-is_outside.least c.loop-record-test.true c.record-item.is (sym c.is_outside.ensures ∙ w.if-is_outside.true)
          (subst (IsLeastOf (so_far ++ c.record-item.result.line ∷ [])) (sym w.least-is) (w.earlier.ensures so_far (c.loop-record.invariant before h)))
      | else-is_outside w ↦
          inside_more sizes before c.args.records.now c.loop-record.record-index c.record-item.result c.if-is_outside.least c.loop-record-test.true c.record-item.is (sym c.is_outside.ensures ∙ w.if-is_outside.false)
          (subst (IsLeastOf so_far) (sym w.least-is) (c.loop-record.invariant before h))
    ]

pub returns : goal.returns
returns c = λ before h.
    all_scanned c.args.sizes before c.args.records.now c.loop-record.record-index c.loop-record.least c.loop-record-test.false (c.loop-record.invariant before h)
