-- Cells that hold each of some groups are at least as many as these.
use Rattle.std.proofs.Common.{◌≡◌, ℕ, ◌<◌, ◌≤◌, negsuc, eqb, List, length, get_or, map, sym, ap, ◌∙◌, arith}
use Rattle.std.specs.List.{range_with_len}
use Rattle.std.proofs.lemmas.Bool.{eqb-true, false_from_ne_true}
use Rattle.std.proofs.lemmas.List.FromFn.{length-map-range_with_len, get_or-map-range_with_len}
use Rattle.std.proofs.lemmas.List.Folds.{Any-from_list_any}
use Rattle.std.proofs.lemmas.Map.Keys.{IsDistinct-from_apart}
use Rattle.std.proofs.lemmas.Map.Steps.{length-le_from_distinct_below}
use Rattle.mj_model.specs.CellMap.{Cell, base}
use Rattle.image_format.specs.ImageSections.{value_cell}
use Rattle.mj_model.proofs.Basics.{same_negsuc}
use Rattle.image_format.proofs.ImageKeys.{value_cell_is}
use Rattle.dict_image.specs.Validation.Values.{IsRoot, HoldEach}
use Rattle.dict_image.proofs.ValueLemmas.{value_within}

module _ (groups : ℕ) (cells : List Cell) (root : IsRoot cells) (each : HoldEach groups cells) where
  many : length (map (value_cell cells) (range_with_len 0 groups)) ≡ groups
  many = length-map-range_with_len (value_cell cells) 0 groups

  -- the cell of a group holds its value
  holds : (g : ℕ) → g < groups → base cells (value_cell cells g) ≡ negsuc g
  holds g less =
      let once = each.once g less in
      ap (base cells) (value_cell_is cells g once.place once once.holds) ∙ once.holds

  at : (i d : ℕ) → i < groups → get_or (map (value_cell cells) (range_with_len 0 groups)) i d ≡ value_cell cells i
  at i d less = get_or-map-range_with_len (value_cell cells) 0 groups i i d less (omega arith)

  same_group : (i j : ℕ) → i < groups → j < groups → value_cell cells i ≡ value_cell cells j → i ≡ j
  same_group i j li lj e = same_negsuc i j (sym (holds i li) ∙ ap (base cells) e ∙ holds j lj)

  pub few_groups : groups ≤ length cells
  few_groups =
      let places = map (value_cell cells) (range_with_len 0 groups) in
      let distinct = IsDistinct-from_apart eqb places (λ i j d before within. false_from_ne_true (eqb (get_or places i d) (get_or places j d)) (λ e.
      let lj : j < groups = omega (arith, within, many) in
      let li : i < groups = omega (arith, before, lj) in
      let same = same_group i j li lj (sym (at i d li) ∙ eqb-true (get_or places i d) (get_or places j d) e ∙ at j d lj) in
      omega (arith, same, before))) in
      let few = length-le_from_distinct_below places (length cells) distinct (λ q h.
      let found = Any-from_list_any (eqb q) places h in
      let within : found.0 < groups = let l = found.2 in omega (arith, l, many) in
      let same : q ≡ value_cell cells found.0 = eqb-true q found.1 found.4 ∙ sym found.3 ∙ at found.0 found.1 within in
      let less = value_within cells root found.0 (value_cell cells found.0) (holds found.0 within) in
      omega (arith, same, less)) in
      omega (arith, few, many)
