use Rattle.viterbi.proofs.FollowLemmas.{AreAfterTo}
use Rattle.viterbi.proofs.rivals.nodes_by_position.NodesByPosition.find_successors.Given as goal

abbrev pub invariant-loop-number : goal.invariant-loop-number
invariant-loop-number g l = AreAfterTo (g.S.WordSource.searched_text l.self.source.now).words (g.S.WordSource.searched_text l.self.source.now).connection l.self.nodes.now l.number l.links.items
