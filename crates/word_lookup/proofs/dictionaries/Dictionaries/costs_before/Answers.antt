use Rattle.word_lookup.proofs.DictionaryLaws.{is_system}
use Rattle.word_lookup.specs.Overlays.{overlay_of}
use Rattle.word_lookup.proofs.dictionaries.Dictionaries.costs_before.Goals as goal

pub costs_before-requires-clause-system : goal.costs_before-requires-clause-system
unfolding overlay_of
costs_before-requires-clause-system c = is_system c.args.self.now
