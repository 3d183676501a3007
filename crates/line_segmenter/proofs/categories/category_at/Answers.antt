use Rattle.word_lookup.proofs.PlaceLemmas.{boundary}
use Rattle.line_segmenter.proofs.categories.category_at.Goals as goal

pub range_from-requires : goal.range_from-requires
range_from-requires c = λ _. boundary c.args.text.now c.args.place c.requires
