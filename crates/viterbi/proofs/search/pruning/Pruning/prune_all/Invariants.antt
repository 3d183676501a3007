use Rattle.std.proofs.Common.{take}
use Rattle.viterbi.specs.Search.EndNodes.{AreLeast}
use Rattle.viterbi.specs.Search.Pruning.{ArePrunedSurfaces}
use Rattle.viterbi.proofs.search.pruning.Pruning.prune_all.Given as goal

abbrev pub invariant-loop-number : goal.invariant-loop-number
invariant-loop-number g l = record {
  predecessors : AreLeast (g.S.WordSource.searched_text l.source).connection l.ends l.self.predecessors;
  kept : ArePrunedSurfaces (g.S.WordSource.searched_text l.source) l.ends (take l.number l.surfaces) l.self.kept.items;
}
