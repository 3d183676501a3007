-- Costs that were written are read back.
use Rattle.std.proofs.Common.{◌≡◌, ℕ, ◌+◌, ◌*◌, ℤ, pos, List, length, drop, refl, ap, ◌∙◌, arith}
use Rattle.std.specs.Prelude.{flat_map, slice_index_or}
use Rattle.std.specs.Int.{w16, cast_signed, cast_unsigned}
use mir.Val.{SFits}
use Rattle.std.proofs.lemmas.Int.{ints, to_z-of_z}
use Rattle.std.proofs.Math.Facts.{Fits-of_z}
use Rattle.byteorder.specs.Numbers.{length-bytes_low_first}
use Rattle.image_format.specs.ImageBytes.{number_at}
use Rattle.image_format.specs.ImageSections.{stored_cost}
use Rattle.matrix_def.specs.Costs.{CostTable, IsCost, IsMatrix, cell_at}
use Rattle.matrix_def.proofs.RowLemmas.{within_table}
use Rattle.image_format.proofs.NumberLemmas.{number_back}
use Rattle.image_writer.specs.StoredTables.{AreCostsOf, cost_bytes, cost_section}
use Rattle.image_format.proofs.ItemLemmas.{items_length, item_at}

two_bytes : (z : ℤ) → length (cost_bytes z) ≡ 2
two_bytes z = length-bytes_low_first 0 2 (cast_unsigned w16 z)

word_fits : (z : ℤ) → IsCost z → SFits w16 z
word_fits z within = record { sfits = grind (arith, ints, within.0, within.1) }

costs_are : (m : CostTable) (bytes : List ℕ) → IsMatrix m → bytes ≡ flat_map cost_bytes m.costs → AreCostsOf m bytes
costs_are m bytes formed is = record {
  formed = ap length is ∙ items_length cost_bytes 2 two_bytes m.costs ∙ ap (λ n. 2 * n) formed.cells;
  costs = λ right left pair.
      let k = cell_at m right left in
      let z = slice_index_or m.costs k (pos 0) in
      ap (λ (bs : List ℕ). stored_cost m.sizes bs right left) is
      ∙ ap (λ (bs : List ℕ). cast_signed w16 (number_at 2 bs 0)) (item_at cost_bytes 2 two_bytes m.costs k (pos 0) (within_table m right left formed pair))
      ∙ ap (cast_signed w16) (number_back 2 (cast_unsigned w16 z) (flat_map cost_bytes (drop (k + 1) m.costs)) (Fits-of_z (word_fits z (formed.fits k))).fits)
      ∙ to_z-of_z w16 z (word_fits z (formed.fits k));
}

-- bytes of two for each cost
pub costs_length : (costs : List ℤ) → length (cost_section costs) ≡ 2 * length costs
costs_length costs = items_length cost_bytes 2 two_bytes costs

-- the costs of a table
pub own_costs_are : (m : CostTable) → IsMatrix m → AreCostsOf m (cost_section m.costs)
own_costs_are m formed = costs_are m (cost_section m.costs) formed refl
