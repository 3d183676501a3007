use Rattle.std.proofs.Common.{ℕ, List, subst, sym}
use Rattle.dict_image.specs.LookupState.{IsCostTableIn}
use Rattle.dict_image.proofs.dict.Dict.set_cost_table.Goals as goal

pub invariant_of-self : goal.invariant_of-self
invariant_of-self c = record {
  outline = c.self.invariant.outline;
  tables = record {
    costs_are = subst (λ (bytes : List ℕ). IsCostTableIn bytes c.args.table) (sym c.self.view_is) c.requires;
    infos_are = c.self.invariant.tables.infos_are;
    categories_are = c.self.invariant.tables.categories_are;
  };
}
