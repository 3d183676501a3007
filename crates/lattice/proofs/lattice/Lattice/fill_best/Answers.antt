use Rattle.word_lookup.proofs.DictionaryLaws.{searchable}
use Rattle.lattice.proofs.lattice.Lattice.fill_best.Goals as goal

pub fill-requires : goal.fill-requires
fill-requires c = searchable c.args.dictionaries.now c.args.text.now c.utf8.text c.requires
