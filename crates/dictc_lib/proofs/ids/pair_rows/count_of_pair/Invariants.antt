use Rattle.std.proofs.Common.{◌≡◌, ℕ, ◌<◌, Some}
use Rattle.std.specs.Prelude.{slice_get}
use Rattle.dict_image.specs.declared.ids_and_cost.IdsAndCost.{IdsAndCost}
use Rattle.dictc_lib.specs.PairRows.{AreSamePair}
use Rattle.dictc_lib.proofs.ids.pair_rows.count_of_pair.Given as goal

abbrev pub invariant-loop-i : goal.invariant-loop-i
invariant-loop-i l = (k : ℕ) (entry : IdsAndCost) → k < l.i → slice_get l.entries k ≡ Some entry → AreSamePair entry l.first
