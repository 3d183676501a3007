use Rattle.std.proofs.Common.{sym, ◌∙◌, ap}
use Rattle.image_format.specs.declared.header.Header.{Header}
use Rattle.dict_image.proofs.CategoryLemmas.{count_of_image}
use Rattle.dict_image.proofs.dict.Dict.category_count.Goals as goal

pub returns : goal.returns
returns c = (ap (λ (h : Header). h.categories) c.header.ensures.numbers) ∙ sym (count_of_image c.args.self.now)
