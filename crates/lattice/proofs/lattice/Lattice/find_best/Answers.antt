use Rattle.word_lookup.proofs.DictionaryLaws.{searchable}
use Rattle.lattice.proofs.lattice.Lattice.find_best.Goals as goal

pub find-requires : goal.find-requires
find-requires c = searchable c.args.line.now.dictionaries.now c.args.line.now.text.now c.args.line.now.is_text c.requires
