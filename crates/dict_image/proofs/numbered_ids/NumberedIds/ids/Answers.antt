use Rattle.std.proofs.Common.{length, subst}
use Rattle.std.proofs.lemmas.Option.{slice_get_within}
use Rattle.dict_image.specs.NumberedIds.{AreBelow, IdList}
use Rattle.dict_image.proofs.numbered_ids.NumberedIds.ids.Goals as goal

pub returns-clause-below : goal.returns-clause-below
returns-clause-below c =
    let inside : AreBelow (length c.self.inside.numbers.items) c.self.inside.ids.items = λ number id is. slice_get_within c.self.inside.numbers.items id number (c.self.invariant.there id number is) in
    subst (λ (l : IdList). AreBelow l.size l.ids) c.self.view_is inside
