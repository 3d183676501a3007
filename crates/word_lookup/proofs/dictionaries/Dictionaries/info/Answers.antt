use Rattle.word_lookup.proofs.DictionaryLaws.{is_system}
use Rattle.word_lookup.specs.Overlays.{overlay_of}
use Rattle.word_lookup.proofs.dictionaries.Dictionaries.info.Goals as goal

pub info-requires : goal.info-requires
unfolding overlay_of
info-requires c = is_system c.args.self.now
