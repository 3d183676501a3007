use Rattle.viterbi.specs.Rivals.PredecessorSearch.{ArePropagated}
use Rattle.viterbi.proofs.rivals.nodes_by_position.NodesByPosition.propagate.Given as goal

abbrev pub invariant-loop-next : goal.invariant-loop-next
invariant-loop-next g l = ArePropagated (g.S.WordSource.searched_text l.self.source.now).connection l.self.nodes.now l.number l.next l.links
