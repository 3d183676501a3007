use Rattle.std.proofs.Common.{rules, List, subst}
use Rattle.std.proofs.lemmas.List.Sorted.{answers_always}
use Rattle.dict_image.specs.declared.ids_and_cost.IdsAndCost.{IdsAndCost}
use Rattle.dictc_lib.specs.PairRows.{AreRows}
use Rattle.dictc_lib.specs.declared.ids.pair_row.PairRow.{PairRow}
use Rattle.dictc_lib.proofs.ids.pair_rows.rows_of_pairs.Goals as goal

pub returns : goal.returns
returns c =
    let by_ids = c.sort_unstable_by_key.ensures in
    let by_count = c.sort_unstable_by_key-2.ensures in
    record {
      fitting = c.in_ok-fitting.fitting.items;
      are_fitting = c.in_ok-fitting.ensures;
      ordered = c.sort_unstable_by_key.new.self.items;
      same_entries = by_ids.permutation;
      in_order = by_ids.sorted (λ (entry : IdsAndCost). (entry.left, entry.right, entry.cost)) (answers_always _ _ _ (λ f a r g h. search rules));
      by_pair = c.in_ok-rows.rows.items;
      are_rows = subst (λ (xs : List IdsAndCost). AreRows xs c.in_ok-rows.rows.items) c.deref.ensures.value c.in_ok-rows.ensures;
      same_rows = by_count.permutation;
      most_first =
          by_count.sorted (λ (row : PairRow). (record { 0 = row.entries }, row.left, row.right)) (answers_always _ _ _ (λ f a r g h. search rules));
    }
