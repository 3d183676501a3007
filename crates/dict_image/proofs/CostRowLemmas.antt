-- The connection costs before words of one left id, as a section or a row has them.
use Rattle.std.proofs.Common.{◌≡◌, ℕ, ℤ, pos, ◌<◌, List, Some, length, slice_get, sym, ap, ◌∙◌, arith, subst}
use Rattle.std.proofs.lemmas.Bool.{cond-true}
use Rattle.std.proofs.lemmas.List.FromFn.{get_or-map-range_with_len, length-map-range_with_len}
use Rattle.std.proofs.lemmas.Option.{slice_get-get_or}
use Rattle.mj_model.specs.Connection.{is_pair}
use Rattle.mj_model.specs.declared.matrix_sizes.MatrixSizes.{MatrixSizes}
use Rattle.image_format.specs.ImageBytes.{header_of, section}
use Rattle.image_format.specs.ImageMeaning.{image_tables}
use Rattle.image_format.specs.ImageSections.{stored_cost}
use Rattle.dict_image.specs.declared.costs_before.SectionRow.{SectionRow}
use Rattle.dict_image.specs.CostRows.{AreCostsBefore, AreStoredBefore, costs_in_section}
use Rattle.dict_image.proofs.FittingLemmas.{pair_within}

-- a section has as many as there are right ids
pub within_section : (s : SectionRow) (right : ℕ) → right < length (costs_in_section s) → right < s.sizes.right
within_section s right less =
    subst (λ (n : ℕ). right < n) (length-map-range_with_len (λ (r : ℕ). stored_cost s.sizes s.costs.now r s.left) 0 s.sizes.right) less

pub in_section : (s : SectionRow) (right : ℕ) → right < s.sizes.right → slice_get (costs_in_section s) right ≡ Some (stored_cost s.sizes s.costs.now right s.left)
in_section s right less =
    let cost : ℕ → ℤ = λ (r : ℕ). stored_cost s.sizes s.costs.now r s.left in
    let many = length-map-range_with_len cost 0 s.sizes.right in
    slice_get-get_or (costs_in_section s) right (pos 0) (omega (arith, less, many))
    ∙ ap Some (get_or-map-range_with_len cost 0 s.sizes.right right right (pos 0) less (omega arith))

-- what an image stores before a left id is its connection costs
pub of_image : (bytes : List ℕ) (left : ℕ) (row : List ℤ) → AreStoredBefore (header_of bytes).sizes (section bytes 1) left row → AreCostsBefore (image_tables bytes) left row
of_image bytes left row are = λ right pair.
    let sizes = (header_of bytes).sizes in
    are right (pair_within sizes right left pair).0
    ∙ ap Some (sym (cond-true (is_pair sizes right left) (stored_cost sizes (section bytes 1) right left) (pos 0) pair))

-- the section of an image holds the stored costs of a left id
pub stored_here : (bytes : List ℕ) (left : ℕ) (s : SectionRow) → s.costs.now ≡ section bytes 1 → s.sizes ≡ (header_of bytes).sizes → s.left ≡ left → AreStoredBefore (header_of bytes).sizes (section bytes 1) left (costs_in_section s)
stored_here bytes left s costs sizes is = λ right less.
    in_section s right (subst (λ (m : MatrixSizes). right < m.right) (sym sizes) less)
    ∙ ap (λ (m : MatrixSizes). Some (stored_cost m s.costs.now right s.left)) sizes
    ∙ ap (λ (xs : List ℕ). Some (stored_cost (header_of bytes).sizes xs right s.left)) costs
    ∙ ap (λ (l : ℕ). Some (stored_cost (header_of bytes).sizes (section bytes 1) right l)) is
