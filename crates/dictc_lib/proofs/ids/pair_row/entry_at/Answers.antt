use Rattle.std.proofs.lemmas.Option.{slice_get-get_or}
use Rattle.std.specs.Prelude.{pos}
use Rattle.dict_image.specs.declared.ids_and_cost.IdsAndCost.{IdsAndCost}
use Rattle.dictc_lib.proofs.ids.pair_row.entry_at.Goals as goal

pub returns : goal.returns
returns c =
    let zero : IdsAndCost = record { left = 0; right = 0; cost = pos 0 } in
    slice_get-get_or c.args.entries.now c.args.i zero c.requires
