use Rattle.std.proofs.Common.{◌-◌}
use Rattle.image_format.specs.ImageMeaning.{image_tables}
use Rattle.word_lookup.proofs.FeatureLemmas.{lexicon_after, users_lexicon}
use Rattle.word_lookup.specs.Overlays.{overlay_of}
use Rattle.word_lookup.proofs.dictionaries.Dictionaries.dictionary.Goals as goal

pub returns-else-number-eq0 : goal.returns-else-number-eq0
unfolding overlay_of
returns-else-number-eq0 c =
    let d = c.args.self.now in
    lexicon_after image_tables (image_tables d.system.now) d.users.now c.args.number _ c.if-number-eq0.false
    (users_lexicon d.users.now (c.args.number - 1) c.get.result c.get.ensures.lookup.0 c.get.ensures.lookup.1)
