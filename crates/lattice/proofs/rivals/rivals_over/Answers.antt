use Rattle.word_lookup.proofs.DictionaryLaws.{searchable}
use Rattle.lattice.proofs.rivals.rivals_over.Goals as goal

pub rivals_of-requires-clause-source : goal.rivals_of-requires-clause-source
rivals_of-requires-clause-source c = searchable c.args.dictionaries.now c.args.text.now c.utf8.text c.requires.short
