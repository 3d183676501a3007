use Rattle.std.proofs.Common.{sym, ◌∙◌}
use Rattle.std.proofs.lemmas.Bool.{and_left, and_right}
use Rattle.out_format.proofs.ItemLemmas.{after_the_rows, field_or_none, none_so_far, row_begins}
use Rattle.out_format.proofs.first_item.first_item.Goals as goal
use Rattle.out_format.proofs.first_item.first_item.Goals.{else-includes-via-then-includes+else-starts_with, else-includes-via-else-includes}

pub loop-letters-preserved : goal.loop-letters-preserved
loop-letters-preserved c =
    none_so_far c.args.part c.args.following.now c.item_rows-letters-items.result.now _ c.loop-letters.letters-index _ c.item_rows-letters-items.ensures c.loop-letters-test.true
    (elim c.else-includes.branch [
      | else-includes-via-then-includes+else-starts_with w ↦ and_right _ _ (sym w.starts_with.ensures.value ∙ w.if-starts_with.false)
      | else-includes-via-else-includes w ↦ and_left _ _ (sym c.includes.ensures ∙ w.if-includes.false)
    ]) c.loop-letters.invariant

pub returns-then-starts_with : goal.returns-then-starts_with
returns-then-starts_with c =
    row_begins c.args.part c.args.following.now c.item_rows-letters-items.result.now c.loop-letters.letters-index _ c.item_rows-letters-items.ensures c.loop-letters-test.true
    (sym c.includes.ensures ∙ c.if-includes.true) (sym c.starts_with.ensures.value ∙ c.if-starts_with.true)

pub returns : goal.returns
returns c =
    field_or_none c.args.part c.args.following.now c.first_field.result
    (after_the_rows c.args.part c.args.following.now c.item_rows-letters-items.result.now _ c.loop-letters.letters-index c.item_rows-letters-items.ensures c.loop-letters-test.false c.loop-letters.invariant)
    c.first_field.ensures
