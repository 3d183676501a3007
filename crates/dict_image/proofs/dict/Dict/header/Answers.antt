use Rattle.std.proofs.Common.{◌≡◌, ℕ, List, subst}
use Rattle.image_format.specs.ImageBytes.{header_of}
use Rattle.dict_image.specs.Validation.Outlines.{IsImage}
use Rattle.dict_image.proofs.dict.Dict.header.Goals as goal

pub returns-clause-numbers : goal.returns-clause-numbers
returns-clause-numbers c = subst (λ (bytes : List ℕ). c.self.inside.outline.header ≡ header_of bytes) c.self.view_is c.self.invariant.outline.header_is

pub returns-clause-formed : goal.returns-clause-formed
returns-clause-formed c = subst IsImage c.self.view_is c.self.invariant.outline.formed
