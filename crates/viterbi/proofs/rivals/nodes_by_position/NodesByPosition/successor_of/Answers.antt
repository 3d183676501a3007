use Rattle.std.proofs.Common.{◌≡◌, ◌+◌, ℕ, get_or, sym, subst, arith}
use Rattle.std.proofs.lemmas.Option.{slice_get-get_or}
use Rattle.viterbi.proofs.ReachableLemmas.{firsts_rise}
use Rattle.viterbi.specs.Rivals.Places.{words_in}
use Rattle.viterbi.proofs.FollowLemmas.{NoneBefore, ended, found_by, none_all, none_from, none_more}
use Rattle.viterbi.proofs.RivalsStateLemmas.{no_node}
use Rattle.viterbi.proofs.PlaceLemmas.{are_low, may_end, may_follow, meets_at, small_of}
use Rattle.viterbi.proofs.rivals.nodes_by_position.NodesByPosition.successor_of.Goals as goal

pub overflow_add-node : goal.overflow_add-node
overflow_add-node g c =
    let t = g.S.WordSource.searched_text c.args.self.now.source.now in
    let nodes = c.args.self.now.nodes.now in
    let i = c.args.number in
    let low = (are_low t c.requires.placed.source nodes c.requires.placed.nodes_are i (get_or nodes i no_node) (slice_get-get_or nodes i no_node c.requires.number)).1 in
    omega (arith, low)

pub loop-next-init : goal.loop-next-init
loop-next-init g c =
    let t = g.S.WordSource.searched_text c.args.self.now.source.now in
    let nodes = c.args.self.now.nodes.now in
    let i = c.args.number in
    none_from t c.requires.placed.source nodes c.requires.placed.nodes_are i (get_or nodes i no_node) (slice_get-get_or nodes i no_node c.requires.number) c.first_of-from.result c.first_of-from.ensures.first

pub successor_to-requires : goal.successor_to-requires
successor_to-requires g c =
    let t = g.S.WordSource.searched_text c.args.self.now.source.now in
    let nodes = c.args.self.now.nodes.now in
    let i = c.args.number in
    let here = slice_get-get_or nodes i no_node c.requires.number in
    let k = c.loop-next.next in
    let high = c.loop-next-test.true in
    let within = c.first_of-to.ensures.within in
    let there = slice_get-get_or nodes k no_node (omega (arith, high, within)) in
    record {
      pair = may_follow t c.requires.placed.source nodes c.requires.placed.nodes_are i k (get_or nodes i no_node) (get_or nodes k no_node) here there;
      node = small_of t c.requires.placed.source nodes c.requires.placed.nodes_are i (get_or nodes i no_node) here;
      next = small_of t c.requires.placed.source nodes c.requires.placed.nodes_are k (get_or nodes k no_node) there;
    }

pub returns-in-Some : goal.returns-in-Some
returns-in-Some g c =
    let t = g.S.WordSource.searched_text c.args.self.now.source.now in
    let nodes = c.args.self.now.nodes.now in
    let i = c.args.number in
    let m = get_or nodes i no_node in
    let here = slice_get-get_or nodes i no_node c.requires.number in
    let k = c.loop-next.next in
    let v = get_or nodes k no_node in
    let high = c.loop-next-test.true in
    let within = c.first_of-to.ensures.within in
    let there = slice_get-get_or nodes k no_node (omega (arith, high, within)) in
    found_by t c.requires.placed.source nodes c.requires.placed.nodes_are i m here k v c.successor_to.result c.in-Some.link there
    (sym (meets_at nodes m.word.end c.first_of-from.result c.first_of-to.result k v there c.first_of-from.ensures.first c.first_of-to.ensures.first c.loop-next.auto.next high)) c.in-Some.is c.successor_to.ensures

pub loop-next-preserved : goal.loop-next-preserved
loop-next-preserved g c =
    let t = g.S.WordSource.searched_text c.args.self.now.source.now in
    let nodes = c.args.self.now.nodes.now in
    let i = c.args.number in
    let here = slice_get-get_or nodes i no_node c.requires.number in
    let k = c.loop-next.next in
    let high = c.loop-next-test.true in
    let within = c.first_of-to.ensures.within in
    let there = slice_get-get_or nodes k no_node (omega (arith, high, within)) in
    none_more t c.requires.placed.source nodes c.requires.placed.nodes_are i (get_or nodes i no_node) here k (get_or nodes k no_node) c.successor_to.result there c.in_default.is c.successor_to.ensures c.loop-next.invariant

pub eos_neighbor-requires : goal.eos_neighbor-requires
eos_neighbor-requires g c =
    let t = g.S.WordSource.searched_text c.args.self.now.source.now in
    let nodes = c.args.self.now.nodes.now in
    let i = c.args.number in
    may_end t c.requires.placed.source nodes c.requires.placed.nodes_are i (get_or nodes i no_node) (slice_get-get_or nodes i no_node c.requires.number)

pub returns : goal.returns
returns g c =
    let t = g.S.WordSource.searched_text c.args.self.now.source.now in
    let nodes = c.args.self.now.nodes.now in
    let i = c.args.number in
    let m = get_or nodes i no_node in
    let here = slice_get-get_or nodes i no_node c.requires.number in
    let rise = firsts_rise (words_in nodes) m.word.end (m.word.end + 1) c.first_of-from.result c.first_of-to.result (omega arith) c.first_of-from.ensures.first c.first_of-to.ensures.first in
    let last : c.loop-next.next ≡ c.first_of-to.result = omega (arith, c.loop-next.auto.next-end rise, c.loop-next-test.false) in
    let none = none_all t c.requires.placed.source nodes c.requires.placed.nodes_are i m here c.first_of-to.result c.first_of-to.ensures.first (subst (λ (n : ℕ). NoneBefore t c.requires.placed.source nodes c.requires.placed.nodes_are i m here n) last c.loop-next.invariant) in
    ended t c.requires.placed.source nodes c.requires.placed.nodes_are i m here none c.eos_neighbor.result c.eos_neighbor.ensures.node c.eos_neighbor.ensures.connection
