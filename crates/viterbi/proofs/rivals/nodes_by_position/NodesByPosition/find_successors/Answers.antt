use Rattle.std.proofs.Common.{◌≡◌, ℕ, length, subst, arith}
use Rattle.viterbi.proofs.FollowLemmas.{AreAfterTo, after_all, after_more, after_none}
use Rattle.viterbi.proofs.rivals.nodes_by_position.NodesByPosition.find_successors.Goals as goal

pub loop-number-init : goal.loop-number-init
loop-number-init g c =
    let t = g.S.WordSource.searched_text c.args.self.now.source.now in
    after_none t.words t.connection c.args.self.now.nodes.now c.new-links.result.items c.new-links.ensures.items

pub loop-number-preserved : goal.loop-number-preserved
loop-number-preserved g c =
    let t = g.S.WordSource.searched_text c.args.self.now.source.now in
    after_more t.words t.connection c.args.self.now.nodes.now c.loop-number.number c.successor_of.result c.loop-number.links.items c.push.new.self.items c.in_ok-push.ensures.items c.successor_of.ensures c.loop-number.invariant

pub returns : goal.returns
returns g c =
    let t = g.S.WordSource.searched_text c.args.self.now.source.now in
    let nodes = c.args.self.now.nodes.now in
    let all : c.loop-number.number ≡ length nodes = omega (arith, c.loop-number.auto.number-end, c.loop-number-test.false) in
    after_all t.words t.connection nodes c.loop-number.links.items (subst (λ (n : ℕ). AreAfterTo t.words t.connection nodes n c.loop-number.links.items) all c.loop-number.invariant)
