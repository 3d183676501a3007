use Rattle.std.proofs.Common.{rules, [], ◌∷◌, ◌++◌, ap, ◌∙◌, inl}
use Rattle.std.proofs.lemmas.Int.{to_z-of_z}
use mir.Syntax.{w16}
use mir.Val.{SFits}
use Rattle.dict_image.specs.declared.entry_ref.EntryRef.{EntryRef}
use Rattle.dict_image.specs.declared.ids_and_cost.IdsAndCost.{IdsAndCost}
use Rattle.std.specs.Prelude.{ℤ}
use Rattle.dictc_lib.proofs.ids.pair_rows.add_fitting.Goals as goal

pub returns-in_ok-push : goal.returns-in_ok-push
returns-in_ok-push c =
    let entry : EntryRef = c.args.entry.now in
    let fits : SFits w16 entry.cost = search rules in
    let with' : ℤ → IdsAndCost = λ cost. record { left = entry.left; right = entry.right; cost = cost } in
    inl (
      c.in_ok-fits.ensures.0 c.if-branch.true,
      c.in_ok-push.ensures.items ∙ ap (λ (cost : ℤ). c.args.fitting.now.items ++ with' cost ∷ []) (to_z-of_z w16 entry.cost fits),
    )
