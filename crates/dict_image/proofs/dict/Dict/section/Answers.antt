use Rattle.std.proofs.Common.{ℕ, List, ap, ◌∙◌, subst}
use Rattle.image_format.specs.ImageBytes.{section}
use Rattle.image_format.specs.Sections.{number_of}
use Rattle.dict_image.specs.Validation.Outlines.{IsImage}
use Rattle.dict_image.proofs.OutlineLemmas.{sections_within}
use Rattle.dict_image.proofs.dict.Dict.section.Goals as goal

pub section_bytes-requires-clause-ends : goal.section_bytes-requires-clause-ends
section_bytes-requires-clause-ends c = rw c.as_slice.ensures c.self.invariant.outline.ends_are

pub section_bytes-requires-clause-within : goal.section_bytes-requires-clause-within
section_bytes-requires-clause-within c = rw c.as_slice.ensures (sections_within c.self.inside.bytes c.self.invariant.outline.formed)

pub returns-clause-section : goal.returns-clause-section
returns-clause-section c = c.section_bytes.ensures ∙ ap (λ (bytes : List ℕ). section bytes (number_of c.args.section)) (c.as_slice.ensures ∙ c.self.view_is)

pub returns-clause-formed : goal.returns-clause-formed
returns-clause-formed c = subst IsImage c.self.view_is c.self.invariant.outline.formed
