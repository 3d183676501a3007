use Rattle.std.proofs.Common.{◌≡◌, false, take}
use Rattle.std.specs.List.{list_any}
use Rattle.out_format.specs.declared.items.TheConstants.{ITEMS}
use Rattle.out_format.proofs.ItemLemmas.{fits}
use Rattle.out_format.proofs.first_item.first_item.Given as goal

abbrev pub invariant-loop-letters : goal.invariant-loop-letters
invariant-loop-letters l = list_any (fits l.part l.following) (take l.letters-index ITEMS) ≡ false
