-- The names of categories, and their positions in the section.
use Rattle.std.specs.Prelude.{ℕ, zero, suc, ◌+◌, ◌≤◌, List, length, map}
use Rattle.mj_model.specs.CharDef.{NamedCategory}
use Rattle.mj_model.specs.declared.category.Category.{Category}
use Rattle.image_format.specs.ImageBytes.{number_at}
use Rattle.image_format.specs.ImageMeaning.{image_categories}
use Rattle.image_format.specs.ImageSections.{categories_in}
use Rattle.dict_image.specs.Validation.CheckedCategories.{after_first_category}

-- the bytes from category `i` on
abbrev pub bytes_from : ℕ → List ℕ → List ℕ
bytes_from zero bytes = bytes
bytes_from (suc i) bytes = bytes_from i (after_first_category bytes)

-- the first category lies within the bytes
pub record HasFirst (bytes : List ℕ) : Type 0 where
  pub numbers : 4 ≤ length bytes
  pub name : 4 + number_at 1 bytes 3 ≤ length bytes

-- this number of categories lies within the bytes
abbrev pub HasCategoriesFirst : ℕ → List ℕ → Type 0
HasCategoriesFirst zero bytes = Unit {0}
HasCategoriesFirst (suc n) bytes = HasFirst bytes × HasCategoriesFirst n (after_first_category bytes)

-- the names of an image's categories
abbrev pub category_names : List ℕ → List (List ℕ)
category_names bytes = map (λ (c : NamedCategory). c.name) (image_categories bytes)

-- the first `n` categories of a section, without their names
abbrev pub listed_categories : ℕ → List ℕ → List Category
listed_categories n bytes = map (λ (c : NamedCategory). c.category) (categories_in n bytes)
