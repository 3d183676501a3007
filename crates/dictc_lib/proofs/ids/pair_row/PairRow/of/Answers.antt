use Rattle.std.proofs.Common.{rules, ◌≡◌, ℕ, ◌+◌, ◌-◌, ◌*◌, ◌/◌, ◌%◌, List, length, arith, refl, subst}
use mir.Syntax.{w16}
use mir.Val.{SFits, of_z, to_z}
use Rattle.dict_image.specs.declared.ids_and_cost.IdsAndCost.{IdsAndCost}
use Rattle.dictc_lib.specs.PairRows.{HasCostAt}
use Rattle.dictc_lib.proofs.PairLemmas.{cost_at}
use Rattle.dictc_lib.proofs.ids.pair_row.PairRow.of.Goals as goal

pub returns : goal.returns
returns c =
    let xs : List IdsAndCost = c.args.entries.now in
    let n : ℕ = length xs in
    let three : ℕ = n / 4 * 3 + n % 4 * 3 / 4 in
    let same : three ≡ 3 * n / 4 = omega arith in
    let least : SFits w16 c.entry_at-least.result.now.cost = search rules in
    let lower : SFits w16 c.entry_at-lower.result.now.cost = search rules in
    let median : SFits w16 c.entry_at-median.result.now.cost = search rules in
    let upper : SFits w16 c.entry_at-upper.result.now.cost = search rules in
    let greatest : SFits w16 c.entry_at-greatest.result.now.cost = search rules in
    record {
      pair = λ i entry is. c.requires.pair i 0 entry c.entry_at-least.result.now is c.entry_at-least.ensures;
      count = refl;
      least = cost_at xs 0 c.entry_at-least.result.now c.entry_at-least.ensures least;
      lower_quartile = cost_at xs (n / 4) c.entry_at-lower.result.now c.entry_at-lower.ensures lower;
      median = cost_at xs (n / 2) c.entry_at-median.result.now c.entry_at-median.ensures median;
      upper_quartile =
          subst (λ (i : ℕ). HasCostAt xs i (to_z w16 (of_z w16 c.entry_at-upper.result.now.cost))) same
          (cost_at xs three c.entry_at-upper.result.now c.entry_at-upper.ensures upper);
      greatest = cost_at xs (n - 1) c.entry_at-greatest.result.now c.entry_at-greatest.ensures greatest;
    }
