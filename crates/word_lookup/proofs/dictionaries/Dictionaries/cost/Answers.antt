use Rattle.word_lookup.proofs.DictionaryLaws.{is_system}
use Rattle.word_lookup.specs.Overlays.{overlay_of}
use Rattle.word_lookup.proofs.dictionaries.Dictionaries.cost.Goals as goal

pub cost-requires-clause-system : goal.cost-requires-clause-system
unfolding overlay_of
cost-requires-clause-system c = is_system c.args.self.now
