use Rattle.std.proofs.Common.{refl}
use Rattle.dict_image.proofs.CheckedCategories.{category_there}
use Rattle.dict_image.proofs.validation.categories.past_category.Goals as goal

pub returns-then-is_utf8 : goal.returns-then-is_utf8
returns-then-is_utf8 c =
    category_there c.args.bytes.now c.from-end.result c.in-len4-up.len_at_least c.from-end.ensures c.if-invoke-le1.true c.if-group-le1.true c.if-length-le-CATEGORY_LENGTH_MAX.true c.if-name_length-ge1.true (c.type_inv.bytes 3).fits c.if-end-bytes.true (c.if-is_utf8.ensures.0 refl)
