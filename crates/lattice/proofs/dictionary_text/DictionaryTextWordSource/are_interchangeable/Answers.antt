use Rattle.word_lookup.specs.Overlays.{overlay_of}
use Rattle.word_lookup.proofs.SameEntriesLaws.{same_ids}
use Rattle.lattice.proofs.dictionary_text.DictionaryTextWordSource.are_interchangeable.Goals as goal

pub returns : goal.returns
returns c = λ is i v w at_v at_w.
    let same = same_ids (overlay_of c.args.self.now.dictionaries.now) c.args.one.now c.args.other.now i v w (c.have_same_unknown_entries.ensures is) at_v at_w in
    record { left = same.0; right = same.1; cost = same.2 }
