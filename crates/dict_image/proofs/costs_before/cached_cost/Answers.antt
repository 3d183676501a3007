use Rattle.std.proofs.Common.{rules, arith, ◌≡◌, ◌∙◌, Some, ap, length, refl, slice_get, sym}
use Rattle.std.proofs.lemmas.Option.{slice_get-get_or, slice_get_read}
use Rattle.dict_image.specs.CostRows.{stored_in}
use Rattle.dict_image.proofs.CostRowLemmas.{within_section}
use Rattle.dict_image.proofs.costs_before.cached_cost.Goals as goal

pub bounds-row-right : goal.bounds-row-right
bounds-row-right c =
    let less = within_section c.args.row.section c.args.right c.requires.there in
    let many = c.requires.row.numbers in
    omega (arith, less, many)

pub offset_bounds-row-right : goal.offset_bounds-row-right
offset_bounds-row-right c =
    let less = within_section c.args.row.section c.args.right c.requires.there in
    let wide = c.requires.row.section.rights in
    omega (arith, less, wide)

pub returns : goal.returns
returns c =
    let row = c.args.row in
    let less = within_section row.section c.args.right c.requires.there in
    let many = c.requires.row.numbers in
    let number : slice_get row.numbers.now c.args.right ≡ Some c.from.result = slice_get-get_or row.numbers.now c.args.right 0 (omega (arith, less, many)) ∙ ap Some (sym c.from.ensures) in
    let cost : slice_get row.cached.now c.from.result ≡ Some c.in_ok-cost.field-0.now =
    let found = c.in_ok-cost.ensures.lookup in
    slice_get_read row.cached.now (length row.cached.now) c.from.result c.in_ok-cost.field-0.now refl (omega (arith, found.0)) found.1 in
    let is : c.in_ok-cost.field-0.now ≡ stored_in row.section c.args.right = c.requires.row.cached c.args.right c.from.result c.in_ok-cost.field-0.now number cost in
    search (rules, is)
