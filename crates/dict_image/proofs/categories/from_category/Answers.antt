use Rattle.std.proofs.Common.{◌≡◌, ◌+◌, ◌-◌, suc, sym, ap, ◌∙◌, subst, arith}
use Rattle.dict_image.specs.Categories.{HasCategoriesFirst, bytes_from}
use Rattle.dict_image.proofs.CategoryLemmas.{prefix_more, from_more}
use Rattle.dict_image.proofs.categories.from_category.Goals as goal

pub after_category-rest-requires : goal.after_category-rest-requires
after_category-rest-requires c =
    let left = c.args.i - c.loop.counter in
    let less = c.loop-test.true in
    (prefix_more (c.args.i - (c.loop.counter + 1)) left c.loop.rest.now (omega (arith, less)) c.loop.invariant.front).0

pub loop-preserved : goal.loop-preserved
loop-preserved c =
    let left = c.args.i - c.loop.counter in
    let fewer = c.args.i - (c.loop.counter + 1) in
    let less = c.loop-test.true in
    let one : left ≡ suc fewer = omega (arith, less) in
    let following = c.after_category-rest.ensures in
    record {
      front = subst (HasCategoriesFirst fewer) (sym following) (prefix_more fewer left c.loop.rest.now one c.loop.invariant.front).1;
      same = ap (bytes_from fewer) following ∙ sym (from_more fewer left c.loop.rest.now one) ∙ c.loop.invariant.same;
    }
