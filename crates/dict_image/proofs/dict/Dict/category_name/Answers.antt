use Rattle.std.proofs.Common.{ℕ, List, Some, sym, ap, ◌∙◌, subst}
use Rattle.std.specs.Prelude.{IsUtf8}
use Rattle.std.specs.Option.{option_map}
use Rattle.std.proofs.lemmas.Option.{slice_get-map}
use Rattle.mj_model.specs.CharDef.{NamedCategory}
use Rattle.image_format.specs.ImageMeaning.{image_categories}
use Rattle.image_format.specs.ImageSections.{first_category}
use Rattle.dict_image.specs.Categories.{HasFirst, HasCategoriesFirst, bytes_from}
use Rattle.dict_image.proofs.CategoryLemmas.{below_count, category_of_image, category_prefixes_of_image, whole_of_image}
use Rattle.dict_image.proofs.dict.Dict.category_name.Goals as goal

pub from_category-requires : goal.from_category-requires
from_category-requires c =
    let bytes = c.args.self.now in
    subst (HasCategoriesFirst c.args.i) (sym c.section.ensures.section) (category_prefixes_of_image bytes c.args.i c.section.ensures.formed (below_count bytes c.args.i c.requires))

pub name_of-requires-clause-first : goal.name_of-requires-clause-first
name_of-requires-clause-first c =
    let bytes = c.args.self.now in
    let from = c.from_category.ensures ∙ ap (bytes_from c.args.i) c.section.ensures.section in
    subst HasFirst (sym from) (whole_of_image bytes c.args.i c.section.ensures.formed (below_count bytes c.args.i c.requires)).first

pub name_of-requires-clause-text : goal.name_of-requires-clause-text
name_of-requires-clause-text c =
    let bytes = c.args.self.now in
    let from = c.from_category.ensures ∙ ap (bytes_from c.args.i) c.section.ensures.section in
    subst (λ (rest : List ℕ). IsUtf8 (first_category rest).name) (sym from) (whole_of_image bytes c.args.i c.section.ensures.formed (below_count bytes c.args.i c.requires)).storable.name_is_text

pub returns : goal.returns
returns c =
    let bytes = c.args.self.now in
    let name : NamedCategory → List ℕ = λ n. n.name in
    let from = c.from_category.ensures ∙ ap (bytes_from c.args.i) c.section.ensures.section in
    slice_get-map name (image_categories bytes) c.args.i ∙ ap (option_map name) (category_of_image bytes c.args.i (below_count bytes c.args.i c.requires))
    ∙ ap Some (sym (c.name_of.ensures ∙ ap (λ (rest : List ℕ). (first_category rest).name) from))
