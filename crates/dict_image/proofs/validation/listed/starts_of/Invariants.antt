use Rattle.dict_image.specs.Validation.KeyPlaces.{AreListedUpTo}
use Rattle.dict_image.proofs.validation.listed.starts_of.Given as goal

abbrev pub invariant-loop-group : goal.invariant-loop-group
invariant-loop-group l = AreListedUpTo l.keys l.group l.starts.items l.at l.before
