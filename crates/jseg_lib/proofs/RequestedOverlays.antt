-- System and user dictionaries with the requested grouping.
use Rattle.std.proofs.Common.{◌≡◌, ℕ, List, ap, ◌∙◌}
use Rattle.mj_model.specs.Tables.{Overlay}
use Rattle.word_lookup.specs.Overlays.{overlay_by_default}
use Rattle.jseg_lib.specs.Printing.{requested_grouping, requested_overlay}

-- the smaller of the grouping and GROUPING_MAX is the requested grouping
pub as_given :
    (system : List ℕ) (users : List (List ℕ)) (grouping least : ℕ) (laid grouped : Overlay) →
    least ≡ requested_grouping grouping → laid ≡ overlay_by_default system users → grouped ≡ record laid { grouping = least } →
    grouped ≡ requested_overlay system users grouping
as_given system users grouping least laid grouped is_least is_laid is_grouped =
    is_grouped ∙ ap (λ (o : Overlay). record o { grouping = least }) is_laid
    ∙ ap (λ (n : ℕ). record (overlay_by_default system users) { grouping = n }) is_least
