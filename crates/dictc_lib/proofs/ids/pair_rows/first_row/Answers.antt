use Rattle.std.proofs.Common.{ℕ, ◌<◌, ◌-◌, List, length, take, drop, length-take, arith, subst, sym}
use Rattle.std.proofs.lemmas.List.{take_rest}
use Rattle.dict_image.specs.declared.ids_and_cost.IdsAndCost.{IdsAndCost}
use Rattle.dictc_lib.specs.PairRows.{IsFirstRow}
use Rattle.dictc_lib.proofs.PairLemmas.{after_shorter, first_row}
use Rattle.dictc_lib.proofs.ids.pair_rows.first_row.Goals as goal

pub returns-clause-row : goal.returns-clause-row
returns-clause-row c =
    let entries : List IdsAndCost = c.args.entries.now in
    let count : ℕ = c.count_of_pair-count.result in
    let found = c.count_of_pair-count.ensures in
    let some : 0 < length (take count entries) = omega (arith, found.some, found.within, length-take count entries) in
    subst (λ (xs : List IdsAndCost). IsFirstRow entries c.of.result xs) (sym (take_rest entries count)) (first_row entries count c.of.result some c.of.ensures found.other)

pub returns-clause-shorter : goal.returns-clause-shorter
returns-clause-shorter c =
    let entries : List IdsAndCost = c.args.entries.now in
    let count : ℕ = c.count_of_pair-count.result in
    after_shorter entries (take (length entries - count) (drop count entries)) c.of.result (returns-clause-row c)
