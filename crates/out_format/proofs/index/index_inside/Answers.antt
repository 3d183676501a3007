use Rattle.std.proofs.lemmas.List.{take_rest}
use Rattle.out_format.proofs.IndexLemmas.{has_index, digits_there, too_few, too_many, at_end, not_closed, too_great}
use Rattle.out_format.proofs.index.index_inside.Goals as goal
use Rattle.out_format.proofs.index.index_inside.Goals.{then-count-eq0-via-then-count-eq0, then-count-eq0-via-else-count-eq0+then-count-gt-DIGITS_MAX}

pub returns-then-count-eq0 : goal.returns-then-count-eq0
returns-then-count-eq0 c = elim c.then-count-eq0.branch [
  | then-count-eq0-via-then-count-eq0 w ↦ too_few c.args.inside.now _ c.digits_before-count.ensures.count w.if-count-eq0.true
  | then-count-eq0-via-else-count-eq0+then-count-gt-DIGITS_MAX w ↦ too_many c.args.inside.now _ c.digits_before-count.ensures.count w.if-count-gt-DIGITS_MAX.true
]

pub returns-in_err-closing : goal.returns-in_err-closing
returns-in_err-closing c =
    let inside = c.args.inside.now in
    let count = c.digits_before-count.result in
    rw c.from_residual.ensures (at_end inside _ count c.digits_before-count.ensures.count (take_rest inside count) c.in_err-closing.ensures)

pub index_value-requires : goal.index_value-requires
index_value-requires c = digits_there c.args.inside.now c.digits_before-count.result c.digits_before-count.ensures.count

pub returns-in_err-number : goal.returns-in_err-number
returns-in_err-number c =
    rw c.from_residual-in_err-number.ensures (too_great c.args.inside.now c.digits_before-count.result c.digits_before-count.ensures.count c.in_err-number.ensures)

pub returns-in_ok-number : goal.returns-in_ok-number
returns-in_ok-number c =
    let inside = c.args.inside.now in
    let count = c.digits_before-count.result in
    let closed = c.in_ok-closing.ensures in
    has_index inside _ c.in_ok-closing.rest.now count c.in_ok-number.number c.digits_before-count.ensures.count c.digits_before-count.ensures.within c.if-count-eq0.false c.if-count-gt-DIGITS_MAX.false (take_rest inside count) (rw c.if-closing-eq93.true at closed) c.in_ok-number.ensures

pub returns-else-closing-eq93 : goal.returns-else-closing-eq93
returns-else-closing-eq93 c =
    let inside = c.args.inside.now in
    let count = c.digits_before-count.result in
    not_closed inside _ c.in_ok-closing.rest.now count c.in_ok-closing.closing c.digits_before-count.ensures.count (take_rest inside count) c.in_ok-closing.ensures c.if-closing-eq93.false
