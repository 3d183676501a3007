use Rattle.std.proofs.Common.{◌≡◌, ℕ, length, get_or, subst, arith}
use Rattle.std.proofs.lemmas.Option.{slice_get-get_or}
use Rattle.viterbi.proofs.PropagationLemmas.{AreToBos, to_bos_all, to_bos_more, to_bos_none}
use Rattle.viterbi.proofs.RivalsStateLemmas.{no_node}
use Rattle.viterbi.proofs.PlaceLemmas.{may_begin}
use Rattle.viterbi.proofs.rivals.nodes_by_position.NodesByPosition.bos_neighbors.Goals as goal

pub bos_neighbor-requires : goal.bos_neighbor-requires
bos_neighbor-requires g c =
    let t = g.S.WordSource.searched_text c.args.self.now.source.now in
    let nodes = c.args.self.now.nodes.now in
    let i = c.loop-number.number in
    may_begin t c.requires.source nodes c.requires.nodes_are i (get_or nodes i no_node) (slice_get-get_or nodes i no_node c.loop-number-test.true)

pub loop-number-init : goal.loop-number-init
loop-number-init g c = to_bos_none (g.S.WordSource.searched_text c.args.self.now.source.now).connection c.args.self.now.nodes.now c.new-links.result.items c.new-links.ensures.items

pub loop-number-preserved : goal.loop-number-preserved
loop-number-preserved g c =
    let t = g.S.WordSource.searched_text c.args.self.now.source.now in
    let nodes = c.args.self.now.nodes.now in
    let i = c.loop-number.number in
    to_bos_more t.connection nodes i (get_or nodes i no_node) c.bos_neighbor.result c.loop-number.links.items c.push.new.self.items (slice_get-get_or nodes i no_node c.loop-number-test.true)
    c.bos_neighbor.ensures.node c.bos_neighbor.ensures.connection c.in_ok-push.ensures.items c.loop-number.invariant

pub returns : goal.returns
returns g c =
    let t = g.S.WordSource.searched_text c.args.self.now.source.now in
    let nodes = c.args.self.now.nodes.now in
    let all : c.loop-number.number ≡ length nodes = omega (arith, c.loop-number.auto.number-end, c.loop-number-test.false) in
    to_bos_all t.connection nodes c.loop-number.links.items (subst (λ (n : ℕ). AreToBos t.connection nodes n c.loop-number.links.items) all c.loop-number.invariant)
