use Rattle.viterbi.proofs.PropagationLemmas.{AreToBos}
use Rattle.viterbi.proofs.rivals.nodes_by_position.NodesByPosition.bos_neighbors.Given as goal

abbrev pub invariant-loop-number : goal.invariant-loop-number
invariant-loop-number g l = AreToBos (g.S.WordSource.searched_text l.self.source.now).connection l.self.nodes.now l.number l.links.items
