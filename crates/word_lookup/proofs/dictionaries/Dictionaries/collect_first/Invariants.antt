use Rattle.dict_image.specs.ContextIds.{HaveSameSizes}
use Rattle.word_lookup.proofs.dictionaries.Dictionaries.collect_first.Given as goal

abbrev pub invariant-loop-i : goal.invariant-loop-i
invariant-loop-i l = HaveSameSizes l.fn.ids l.ids
