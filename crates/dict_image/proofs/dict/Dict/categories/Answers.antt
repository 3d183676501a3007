use Rattle.std.proofs.Common.{◌≡◌, ℕ, List, subst, ◌∙◌}
use Rattle.image_format.specs.ImageBytes.{header_of, section}
use Rattle.dict_image.specs.Categories.{listed_categories}
use Rattle.dict_image.proofs.dict.Dict.categories.Goals as goal

pub returns-clause-categories : goal.returns-clause-categories
returns-clause-categories c =
    c.deref.ensures.value ∙ subst (λ (bytes : List ℕ). c.self.inside.tables.categories.items ≡ listed_categories (header_of bytes).categories (section bytes 2)) c.self.view_is c.self.invariant.tables.categories_are
