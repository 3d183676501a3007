use Rattle.std.proofs.Common.{◌≡◌, List, ℕ, subst, sym}
use Rattle.image_format.specs.ImageBytes.{header_of}
use Rattle.image_format.specs.ImageFaults.{IsIntact}
use Rattle.image_format.specs.declared.layout.TheConstants.{LAYOUT}
use Rattle.dict_image.specs.Validation.Outlines.{IsOutline}
use Rattle.dict_image.proofs.loading.load_trusted.Goals as goal

pub outline_of_written-outline-requires-clause-intact : goal.outline_of_written-outline-requires-clause-intact
outline_of_written-outline-requires-clause-intact c = subst IsIntact (sym c.as_slice.ensures) c.requires.intact

pub outline_of_written-outline-requires-clause-layout : goal.outline_of_written-outline-requires-clause-layout
outline_of_written-outline-requires-clause-layout c = subst (λ (bytes : List ℕ). (header_of bytes).layout ≡ LAYOUT) (sym c.as_slice.ensures) c.requires.layout

pub over-requires : goal.over-requires
over-requires c = subst (λ (bytes : List ℕ). IsOutline bytes c.outline_of_written-outline.result) c.as_slice.ensures c.outline_of_written-outline.ensures
