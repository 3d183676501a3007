use Rattle.std.proofs.Common.{[], ◌∷◌, refl, arith}
use Rattle.lex_source.proofs.FieldsLemmas.{with_rest, without_rest}
use Rattle.lex_source.proofs.parts.line_parts.Goals as goal

pub returns-in_err-surface : goal.returns-in_err-surface
returns-in_err-surface c =
    let one = without_rest _ _ _ _ c.first-surface.ensures c.in_err-surface.was in
    rw c.from_residual.ensures (one.field ∷ [], one.first, omega arith)

pub returns-in_err-left : goal.returns-in_err-left
returns-in_err-left c =
    let one = with_rest _ _ _ _ _ c.first-surface.ensures c.in_ok-surface.was in
    let two = without_rest _ _ _ _ c.first-left.ensures c.in_err-left.was in
    rw c.from_residual-in_err-left.ensures (one.field ∷ two.field ∷ [], (c.in_ok-surface.field-0.now, one.first, two.first), omega arith)

pub returns-in_err-right : goal.returns-in_err-right
returns-in_err-right c =
    let one = with_rest _ _ _ _ _ c.first-surface.ensures c.in_ok-surface.was in
    let two = with_rest _ _ _ _ _ c.first-left.ensures c.in_ok-left.was in
    let three = without_rest _ _ _ _ c.first-right.ensures c.in_err-right.was in
    rw c.from_residual-in_err-right.ensures
    (one.field ∷ two.field ∷ three.field ∷ [], (c.in_ok-surface.field-0.now, one.first, (c.in_ok-left.field-0.now, two.first, three.first)), omega arith)

pub returns-in_err-cost : goal.returns-in_err-cost
returns-in_err-cost c =
    let one = with_rest _ _ _ _ _ c.first-surface.ensures c.in_ok-surface.was in
    let two = with_rest _ _ _ _ _ c.first-left.ensures c.in_ok-left.was in
    let three = with_rest _ _ _ _ _ c.first-right.ensures c.in_ok-right.was in
    let four = without_rest _ _ _ _ c.first-cost.ensures c.in_err-cost.was in
    rw c.from_residual-in_err-cost.ensures (
      one.field ∷ two.field ∷ three.field ∷ four.field ∷ [],
      (c.in_ok-surface.field-0.now, one.first, (c.in_ok-left.field-0.now, two.first, (c.in_ok-right.field-0.now, three.first, four.first))),
      omega arith,
    )

pub returns : goal.returns
returns c =
    let one = with_rest _ _ _ _ _ c.first-surface.ensures c.in_ok-surface.was in
    let two = with_rest _ _ _ _ _ c.first-left.ensures c.in_ok-left.was in
    let three = with_rest _ _ _ _ _ c.first-right.ensures c.in_ok-right.was in
    let four = with_rest _ _ _ _ _ c.first-cost.ensures c.in_ok-cost.was in
    record {
      parts = record { surface = one.field; left = two.field; right = three.field; cost = four.field; feature = c.in_ok-cost.field-0.now };
      lies = record { surface = one.spelled; left = two.spelled; right = three.spelled; cost = four.spelled; feature = refl };
      first = (c.in_ok-surface.field-0.now, one.first, (c.in_ok-left.field-0.now, two.first, (c.in_ok-right.field-0.now, three.first, (c.in_ok-cost.field-0.now, four.first, refl))));
    }
