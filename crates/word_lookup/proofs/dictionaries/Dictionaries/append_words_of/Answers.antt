use Rattle.word_lookup.proofs.WordLemmas.{one_word_more}
use Rattle.word_lookup.proofs.dictionaries.Dictionaries.append_words_of.Goals as goal

pub loop-i-preserved : goal.loop-i-preserved
loop-i-preserved c = one_word_more _ _ _ _ c.word.result c.loop-i.i c.loop-i.invariant c.word.ensures c.in_ok-push.ensures.items
