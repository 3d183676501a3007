use Rattle.viterbi.specs.Rivals.PredecessorSearch.{ArePropagated}
use Rattle.viterbi.proofs.rivals.nodes_by_position.NodesByPosition.find_predecessors.Given as goal

abbrev pub invariant-loop-number : goal.invariant-loop-number
invariant-loop-number g l = ArePropagated (g.S.WordSource.searched_text l.self.source.now).connection l.self.nodes.now l.number 0 l.links.items
