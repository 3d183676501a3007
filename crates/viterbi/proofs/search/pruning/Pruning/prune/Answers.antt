use Rattle.viterbi.proofs.PrunedWords.{same_surfaces}
use Rattle.viterbi.proofs.search.pruning.Pruning.prune.Goals as goal

pub returns-then-not-have_many_words : goal.returns-then-not-have_many_words
returns-then-not-have_many_words g c = same_surfaces (g.S.WordSource.searched_text c.args.source.now) c.args.ends.now c.args.surfaces.now.items c.requires.whole
