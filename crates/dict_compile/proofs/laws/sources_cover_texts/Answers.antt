use Rattle.dict_compile.proofs.CoveredSources.{cover_all, cover_texts, have_words}
use Rattle.dict_compile.proofs.laws.sources_cover_texts.Goals as goal

pub returns-clause-words : goal.returns-clause-words
returns-clause-words c = have_words

pub returns-clause-entries : goal.returns-clause-entries
returns-clause-entries c = cover_all

pub returns-clause-texts : goal.returns-clause-texts
returns-clause-texts c = cover_texts
