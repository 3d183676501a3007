use Rattle.std.proofs.Common.{List, ◌++◌, length, eqb-true, subst, sym, ◌∙◌}
use Rattle.dictc_lib.specs.PairRows.{AreRows}
use Rattle.dictc_lib.specs.declared.ids.pair_row.PairRow.{PairRow}
use Rattle.dictc_lib.proofs.PairLemmas.{no_more, row_more, rows_end}
use Rattle.dictc_lib.proofs.ids.pair_rows.rows_in_order.Goals as goal

pub loop-rest-preserved : goal.loop-rest-preserved
loop-rest-preserved c = λ more are.
    subst (λ (xs : List PairRow). AreRows c.args.entries.now (xs ++ more)) (sym c.in_ok-push.ensures.items)
    (row_more c.args.entries.now c.loop-rest.rest.now c.first_row.result.1.now c.loop-rest.rows.items c.first_row.result.0 c.first_row.ensures.row c.loop-rest.invariant more are)

pub returns : goal.returns
returns c =
    let none = no_more c.loop-rest.rest.now (eqb-true (length c.loop-rest.rest.now) 0 (sym c.is_empty.ensures ∙ c.loop-rest-test.false)) in
    rows_end c.args.entries.now c.loop-rest.rest.now c.loop-rest.rows.items none c.loop-rest.invariant
