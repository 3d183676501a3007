use Rattle.word_lookup.proofs.PlaceLemmas.{boundary}
use Rattle.word_lookup.proofs.word_start.suffix.Goals as goal

pub range_from-requires : goal.range_from-requires
range_from-requires c = λ above. boundary c.args.text.now c.args.place c.requires
