use Rattle.std.proofs.Common.{subst}
use Rattle.dict_image.specs.LookupState.{AreLookupTables}
use Rattle.dict_image.proofs.dict.Dict.over.Goals as goal

pub invariant_of-result : goal.invariant_of-result
invariant_of-result c = record {
  outline = c.requires;
  tables = subst (λ bytes. AreLookupTables bytes c.in_ok-tables.tables) c.as_slice.ensures c.in_ok-tables.ensures;
}
