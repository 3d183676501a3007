use Rattle.viterbi.specs.Search.EndNodes.{AreLeast}
use Rattle.viterbi.specs.Search.Pruning.{AreForwardCosts}
use Rattle.viterbi.proofs.search.pruning.list_words.Given as goal

abbrev pub invariant-loop-i : goal.invariant-loop-i
invariant-loop-i g l = record {
  predecessors : AreLeast (g.S.WordSource.searched_text l.source).connection l.ends l.predecessors;
  words : AreForwardCosts (g.S.WordSource.searched_text l.source).connection l.ends ((g.S.WordSource.searched_text l.source).surface_words l.surface) l.i l.words.items;
}
