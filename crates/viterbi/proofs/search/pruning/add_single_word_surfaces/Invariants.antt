use Rattle.mj_model.specs.Lists.{GrowsBy}
use Rattle.viterbi.specs.Search.Pruning.{AreAlone}
use Rattle.viterbi.proofs.search.pruning.add_single_word_surfaces.Given as goal

abbrev pub invariant-loop-rank : goal.invariant-loop-rank
invariant-loop-rank g l = GrowsBy (AreAlone (g.S.WordSource.searched_text l.source).surface_words l.surface l.words l.rank) l.fn.kept.items l.kept.items
