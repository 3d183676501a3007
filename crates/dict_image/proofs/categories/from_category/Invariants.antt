use Rattle.std.proofs.Common.{◌≡◌, ◌-◌}
use Rattle.dict_image.specs.Categories.{HasCategoriesFirst, bytes_from}
use Rattle.dict_image.proofs.categories.from_category.Given as goal

abbrev pub invariant-loop : goal.invariant-loop
invariant-loop l = record {
  front : HasCategoriesFirst (l.i - l.counter) l.rest;
  same : bytes_from (l.i - l.counter) l.rest ≡ bytes_from l.i l.categories;
}
