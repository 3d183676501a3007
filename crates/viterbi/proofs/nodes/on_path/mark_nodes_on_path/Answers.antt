use Rattle.std.proofs.Common.{◌≡◌, ℕ, None, length, get_or, pos, sym, subst, arith}
use Rattle.std.proofs.lemmas.Option.{slice_get-get_or}
use Rattle.viterbi.proofs.WordNumbers.{no_word}
use Rattle.viterbi.specs.declared.nodes.lattice_node.LatticeNode.{LatticeNode}
use Rattle.viterbi.proofs.OnPathLemmas.{AreMarkedTo, reported_all, reported_more, reported_none}
use Rattle.viterbi.proofs.nodes.on_path.mark_nodes_on_path.Goals as goal

abbrev no_node : LatticeNode
no_node = record { word = no_word; total = pos 0; through = None }

pub first_word_from-next-requires : goal.first_word_from-next-requires
first_word_from-next-requires c = c.loop-i.invariant.within

pub loop-i-init : goal.loop-i-init
loop-i-init c = subst (AreMarkedTo c.args.nodes.now c.args.path.now 0 0) (sym c.new-on.ensures.items) (reported_none c.args.nodes.now c.args.path.now)

pub loop-i-preserved : goal.loop-i-preserved
loop-i-preserved c =
    let nodes = c.args.nodes.now in
    let i = c.loop-i.i in
    let n = get_or nodes i no_node in
    reported_more nodes c.args.path.now c.requires.nodes c.requires.path i c.loop-i.next c.first_word_from-next.result c.loop-i.on.items c.push.new.self.items n c.is_word_at.result
    (slice_get-get_or nodes i no_node c.loop-i-test.true) c.first_word_from-next.ensures c.is_word_at.ensures c.in_ok-push.ensures.items c.loop-i.invariant

pub returns : goal.returns
returns c =
    let nodes = c.args.nodes.now in
    let all : c.loop-i.i ≡ length nodes = omega (arith, c.loop-i.auto.i-end, c.loop-i-test.false) in
    reported_all nodes c.args.path.now c.loop-i.next c.loop-i.on.items (subst (λ (n : ℕ). AreMarkedTo nodes c.args.path.now n c.loop-i.next c.loop-i.on.items) all c.loop-i.invariant)
