use Rattle.std.proofs.Common.{sym, subst, rules}
use Rattle.std.proofs.lemmas.List.Sorted.{answers_always}
use Rattle.image_writer.specs.FirstUses.{AreSortedUses, AreUses, features_used}
use Rattle.image_writer.proofs.FirstUseLemmas.{entries_within, is_use_below, is_use_below_order, uses_moved, uses_of_numbered}
use Rattle.image_writer.proofs.first_uses.first_uses.Goals as goal

pub first_numbers-requires : goal.first_numbers-requires
first_numbers-requires c =
    let given = c.args.uses.items in
    entries_within (features_used given) c.deref.result.now
    (subst (AreUses (features_used given)) (sym c.deref.ensures.value) (uses_moved (features_used given) given c.sort_unstable_by.new.self.items c.sort_unstable_by.ensures.permutation (uses_of_numbered given c.requires)))

pub returns : goal.returns
returns c =
    let given = c.args.uses.items in
    c.first_numbers.ensures (features_used given)
    (subst (AreUses (features_used given)) (sym c.deref.ensures.value) (uses_moved (features_used given) given c.sort_unstable_by.new.self.items c.sort_unstable_by.ensures.permutation (uses_of_numbered given c.requires)))
    (subst AreSortedUses (sym c.deref.ensures.value) (c.sort_unstable_by.ensures.sorted is_use_below is_use_below_order (answers_always _ _ _ (λ f a r g h. search rules))))
