use Rattle.std.proofs.Common.{◌≡◌, ◌++◌, take, flat_map}
use Rattle.viterbi.specs.Nodes.ReachableWords.{AreMarked}
use Rattle.viterbi.proofs.nodes.reachable_words.add_surfaces.Given as goal

abbrev pub invariant-loop-number : goal.invariant-loop-number
invariant-loop-number g l = record {
  joined : l.words.items ≡ l.fn.words.items ++ flat_map (g.S.WordSource.searched_text l.source).surface_words (take l.number l.surfaces);
  marked : AreMarked l.words.items l.marks;
}
