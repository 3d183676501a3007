use Rattle.std.proofs.Common.{◌≡◌, ◌-◌, ◌++◌}
use Rattle.dict_image.specs.Categories.{HasCategoriesFirst, listed_categories}
use Rattle.dict_image.proofs.categories.categories_of.Given as goal

-- the categories so far, and those in the remainder, are all of them
abbrev pub invariant-loop : goal.invariant-loop
invariant-loop l = record {
  front : HasCategoriesFirst (l.count - l.counter) l.rest;
  listed : l.list.items ++ listed_categories (l.count - l.counter) l.rest ≡ listed_categories l.count l.categories;
}
