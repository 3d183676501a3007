-- Entries as contracts describe them.
use Rattle.mj_model.specs.Tables.{Token}
use Rattle.dict_image.specs.declared.entry_ref.EntryRef.{EntryRef}
use Rattle.dict_image.specs.declared.ids_and_cost.IdsAndCost.{IdsAndCost}

-- an entry, without the address of its feature
abbrev pub token_view : EntryRef → Token
token_view e = record { number = e.token; left = e.left; right = e.right; cost = e.cost; feature = e.feature.now }

-- the ids and the cost of an entry
abbrev pub ids_and_cost_of : Token → IdsAndCost
ids_and_cost_of t = record { left = t.left; right = t.right; cost = t.cost }
