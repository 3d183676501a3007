use Rattle.std.proofs.Common.{rules, arith, subst, sym, eqb-true, eq-eqb, ap, length, ◌∙◌, ◌-◌, ◌+◌, ◌<◌, ℕ, ◌≡◌, suc}
use Rattle.image_format.specs.ImageSections.{AreCategories}
use Rattle.dict_image.proofs.CheckedCategories.{none_left, empty_list, first_there, without_first}
use Rattle.dict_image.proofs.validation.categories.are_categories.Goals as goal

pub returns-in-None : goal.returns-in-None
returns-in-None c =
    let some : 0 < c.args.count - c.loop-left._left = omega arith in
    (λ h. absurd (search rules), λ are. absurd (c.in-None.ensures (first_there (c.args.count - c.loop-left._left) c.loop-left.rest.now some (c.loop-left.invariant.1 are))))

pub loop-left-preserved : goal.loop-left-preserved
loop-left-preserved c =
    let e : c.args.count - c.loop-left._left ≡ suc (c.args.count - (c.loop-left._left + 1)) = omega arith in
    let step = without_first (c.args.count - c.loop-left._left) (c.args.count - (c.loop-left._left + 1)) c.loop-left.rest.now c.in-Some.following.now e c.in-Some.ensures.0 c.in-Some.ensures.1 in
    (λ are. c.loop-left.invariant.0 (step.0 are), λ are. step.1 (c.loop-left.invariant.1 are))

pub returns : goal.returns
returns c =
    let e : c.args.count - c.loop-left._left ≡ 0 = omega arith in
    let last = none_left c.loop-left.rest.now in (
      λ h. c.loop-left.invariant.0 (subst (λ (k : ℕ). AreCategories k c.loop-left.rest.now) (sym e) (last.1 (empty_list c.loop-left.rest.now (eqb-true (length c.loop-left.rest.now) 0 (sym c.is_empty.ensures ∙ h))))),
      λ are. c.is_empty.ensures ∙ eq-eqb (length c.loop-left.rest.now) 0 (ap length (last.0 (subst (λ (k : ℕ). AreCategories k c.loop-left.rest.now) e (c.loop-left.invariant.1 are)))),
    )
