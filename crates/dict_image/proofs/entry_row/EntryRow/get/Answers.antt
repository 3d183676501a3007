use Rattle.std.proofs.Common.{◌≡◌, ◌<◌, ◌∙◌, List, Some, ap, length, slice_get, subst, sym}
use Rattle.dict_image.specs.declared.ids_and_cost.IdsAndCost.{IdsAndCost}
use Rattle.dict_image.proofs.EntryRowLemmas.{ids_there, within_row}
use Rattle.dict_image.proofs.entry_row.EntryRow.get.Goals as goal

pub ids_and_cost_at-requires : goal.ids_and_cost_at-requires
ids_and_cost_at-requires c = within_row c.self.inside.tokens.now c.args.i (subst (λ (row : List IdsAndCost). c.args.i < length row) (sym c.self.view_is) c.requires)

pub returns : goal.returns
returns c =
    let less = subst (λ (row : List IdsAndCost). c.args.i < length row) (sym c.self.view_is) c.requires in
    subst (λ (row : List IdsAndCost). slice_get row c.args.i ≡ Some c.ids_and_cost_at.result) c.self.view_is
    (ids_there c.self.inside.tokens.now c.args.i less ∙ ap Some (sym c.ids_and_cost_at.ensures))
