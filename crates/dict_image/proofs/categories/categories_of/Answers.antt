use Rattle.std.proofs.Common.{◌≡◌, ◌+◌, ◌-◌, ◌++◌, ◌∷◌, [], List, suc, rules, sym, ap, ◌∙◌, subst, arith}
use Rattle.mj_model.specs.declared.category.Category.{Category}
use Rattle.dict_image.specs.Categories.{HasCategoriesFirst, listed_categories}
use Rattle.dict_image.proofs.CategoryLemmas.{category_more, prefix_more}
use Rattle.dict_image.proofs.categories.categories_of.Goals as goal

pub category_of-requires : goal.category_of-requires
category_of-requires c =
    let less = c.loop-test.true in
    (prefix_more (c.args.count - (c.loop.counter + 1)) (c.args.count - c.loop.counter) c.loop.rest.now (omega (arith, less)) c.loop.invariant.front).0

pub after_category-rest-requires : goal.after_category-rest-requires
after_category-rest-requires c =
    let less = c.loop-test.true in
    (prefix_more (c.args.count - (c.loop.counter + 1)) (c.args.count - c.loop.counter) c.loop.rest.now (omega (arith, less)) c.loop.invariant.front).0

pub loop-preserved : goal.loop-preserved
loop-preserved c =
    let left = c.args.count - c.loop.counter in
    let fewer = c.args.count - (c.loop.counter + 1) in
    let less = c.loop-test.true in
    let one : left ≡ suc fewer = omega (arith, less) in
    let following = c.after_category-rest.ensures in
    let pushed : c.push.new.self.items ≡ c.loop.list.items ++ c.category_of.result ∷ [] = search (rules, c.in_ok-push.ensures.items) in
    record {
      front = subst (HasCategoriesFirst fewer) (sym following) (prefix_more fewer left c.loop.rest.now one c.loop.invariant.front).1;
      listed = ap (λ (cs : List Category). cs ++ listed_categories fewer c.after_category-rest.result.now) pushed
          ∙ category_more fewer left c.loop.list.items c.category_of.result c.loop.rest.now c.after_category-rest.result.now one c.category_of.ensures following
          ∙ c.loop.invariant.listed;
    }
