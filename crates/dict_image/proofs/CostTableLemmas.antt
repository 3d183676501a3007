-- The table of connection costs of an image.
use Rattle.std.proofs.Common.{◌≡◌, ℕ, List, sym, subst}
use Rattle.image_format.specs.declared.header.Header.{Header}
use Rattle.image_format.specs.ImageBytes.{header_of, kind_of, section}
use Rattle.image_format.specs.ImageSections.{AreCosts}
use Rattle.mj_model.specs.Tables.{System}
use Rattle.dict_image.specs.declared.cost_table.CostTable.{CostTable}
use Rattle.dict_image.specs.CostTables.{IsCostTable}
use Rattle.dict_image.specs.Validation.Outlines.{IsImage}
use Rattle.dict_image.proofs.FormedLemmas.{costs_are}

pub costs_in : (bytes : List ℕ) (h : Header) (costs : List ℕ) → h ≡ header_of bytes → costs ≡ section bytes 1 → IsImage bytes → kind_of h ≡ System → AreCosts h.sizes costs
costs_in bytes h costs same there w =
    subst (λ (xs : List ℕ). kind_of h ≡ System → AreCosts h.sizes xs) (sym there)
    (subst (λ (g : Header). kind_of g ≡ System → AreCosts g.sizes (section bytes 1)) (sym same) (λ is. costs_are bytes is w))

pub cost_table_in : (bytes : List ℕ) (h : Header) (costs : List ℕ) (table : CostTable) → h ≡ header_of bytes → costs ≡ section bytes 1 → IsCostTable (kind_of h) h.sizes costs table
    → IsCostTable (kind_of (header_of bytes)) (header_of bytes).sizes (section bytes 1) table
cost_table_in bytes h costs table same there is =
    subst (λ (g : Header). IsCostTable (kind_of g) g.sizes (section bytes 1) table) same (subst (λ (xs : List ℕ). IsCostTable (kind_of h) h.sizes xs table) there is)
