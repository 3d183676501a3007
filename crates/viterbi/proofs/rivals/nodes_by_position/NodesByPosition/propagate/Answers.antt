use Rattle.std.proofs.Common.{◌≡◌, ◌+◌, ℕ, set, get_or, refl, subst, arith}
use Rattle.std.proofs.lemmas.Option.{slice_get-get_or}
use Rattle.viterbi.proofs.ReachableLemmas.{firsts_rise}
use Rattle.viterbi.specs.Rivals.PredecessorSearch.{ArePropagated}
use Rattle.viterbi.specs.Rivals.Places.{words_in}
use Rattle.viterbi.proofs.PropagationLemmas.{handed_all, handed_from, handed_to}
use Rattle.viterbi.proofs.RivalsStateLemmas.{no_link, no_node}
use Rattle.viterbi.proofs.PlaceLemmas.{are_low, may_follow, meets_at, small_of}
use Rattle.viterbi.proofs.rivals.nodes_by_position.NodesByPosition.propagate.Goals as goal

pub overflow_add-node : goal.overflow_add-node
overflow_add-node g c =
    let t = g.S.WordSource.searched_text c.args.self.now.source.now in
    let nodes = c.args.self.now.nodes.now in
    let i = c.args.number in
    let low = (are_low t c.requires.placed.source nodes c.requires.placed.nodes_are i (get_or nodes i no_node) (slice_get-get_or nodes i no_node c.requires.number)).1 in
    omega (arith, low)

pub loop-next-init : goal.loop-next-init
loop-next-init g c =
    let t = g.S.WordSource.searched_text c.args.self.now.source.now in
    let nodes = c.args.self.now.nodes.now in
    let i = c.args.number in
    handed_from t.connection nodes i (get_or nodes i no_node) (slice_get-get_or nodes i no_node c.requires.number) c.first_of-from.result c.args.links.now c.first_of-from.ensures.first c.requires.before

pub update_predecessor-requires : goal.update_predecessor-requires
update_predecessor-requires g c =
    let t = g.S.WordSource.searched_text c.args.self.now.source.now in
    let nodes = c.args.self.now.nodes.now in
    let i = c.args.number in
    let here = slice_get-get_or nodes i no_node c.requires.number in
    let k = c.loop-next.next in
    let high = c.loop-next-test.true in
    let within = c.first_of-to.ensures.within in
    let there = slice_get-get_or nodes k no_node (omega (arith, high, within)) in
    record {
      pair = may_follow t c.requires.placed.source nodes c.requires.placed.nodes_are i k (get_or nodes i no_node) (get_or nodes k no_node) here there;
      small = small_of t c.requires.placed.source nodes c.requires.placed.nodes_are i (get_or nodes i no_node) here;
    }

pub loop-next-preserved : goal.loop-next-preserved
loop-next-preserved g c =
    let t = g.S.WordSource.searched_text c.args.self.now.source.now in
    let nodes = c.args.self.now.nodes.now in
    let i = c.args.number in
    let m = get_or nodes i no_node in
    let here = slice_get-get_or nodes i no_node c.requires.number in
    let k = c.loop-next.next in
    let v = get_or nodes k no_node in
    let high = c.loop-next-test.true in
    let within = c.first_of-to.ensures.within in
    let there = slice_get-get_or nodes k no_node (omega (arith, high, within)) in
    let links = c.loop-next.links in
    let long = c.loop-next.invariant.long in
    let at_link = slice_get-get_or links k no_link (omega (arith, high, within, long)) in
    handed_to t.connection nodes i m here k v there (meets_at nodes m.word.end c.first_of-from.result c.first_of-to.result k v there c.first_of-from.ensures.first c.first_of-to.ensures.first c.loop-next.auto.next high)
    (get_or links k no_link) c.update_predecessor.result links (set links k c.update_predecessor.result) at_link refl c.update_predecessor.ensures c.loop-next.invariant

pub returns : goal.returns
returns g c =
    let t = g.S.WordSource.searched_text c.args.self.now.source.now in
    let nodes = c.args.self.now.nodes.now in
    let i = c.args.number in
    let m = get_or nodes i no_node in
    let here = slice_get-get_or nodes i no_node c.requires.number in
    let rise = firsts_rise (words_in nodes) m.word.end (m.word.end + 1) c.first_of-from.result c.first_of-to.result (omega arith) c.first_of-from.ensures.first c.first_of-to.ensures.first in
    let last : c.loop-next.next ≡ c.first_of-to.result = omega (arith, c.loop-next.auto.next-end rise, c.loop-next-test.false) in
    handed_all t.connection nodes i m here c.first_of-to.result c.loop-next.links c.first_of-to.ensures.first (subst (λ (n : ℕ). ArePropagated t.connection nodes i n c.loop-next.links) last c.loop-next.invariant)
