use Rattle.word_lookup.proofs.DictionaryLaws.{searchable}
use Rattle.lattice.proofs.dictionary_text.lattice_of.Goals as goal

pub lattice_nodes-requires : goal.lattice_nodes-requires
lattice_nodes-requires c = searchable c.args.dictionaries.now c.args.text.now c.utf8.text c.requires
