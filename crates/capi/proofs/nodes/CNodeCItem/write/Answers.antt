use Rattle.std.proofs.Common.{◌≡◌, List, All, Bool, rules, length, drop, sym, ap, subst, ◌∙◌}
use Rattle.std.specs.Prelude.{min}
use Rattle.capi.specs.Nodes.{StartsIn, c_nodes}
use Rattle.capi.specs.Outputs.{with_front}
use Rattle.capi.proofs.NodeLemmas.{all_begin, marks_even, nodes_reported}
use Rattle.viterbi.specs.declared.nodes.lattice_node.LatticeNode.{LatticeNode}
use Rattle.word_lookup.specs.Overlays.{overlay_of}
use Rattle.capi.proofs.nodes.CNodeCItem.write.Goals as goal

pub fill_nodes-requires-clause-marks : goal.fill_nodes-requires-clause-marks
fill_nodes-requires-clause-marks c =
    ap (λ (bs : List Bool). length bs) c.deref-2.ensures.value ∙ marks_even c.args.segmenter.now c.in_ok-last.last c.in_ok-lattice.lattice c.in_ok-last.ensures.words c.in_ok-lattice.ensures.lattice
    ∙ ap (λ (ns : List LatticeNode). length ns) (sym c.deref.ensures.value)

pub fill_nodes-requires-clause-starts : goal.fill_nodes-requires-clause-starts
fill_nodes-requires-clause-starts c =
    subst (λ (ns : List LatticeNode). All (StartsIn c.in_ok-last.last.text.now) ns) (sym c.deref.ensures.value)
    (all_begin c.args.segmenter.now c.in_ok-last.last c.in_ok-lattice.lattice c.in_ok-last.ensures.words c.in_ok-lattice.ensures.lattice)

pub returns-clause-written : goal.returns-clause-written
returns-clause-written c =
    let l = c.in_ok-last.last in
    let lattice = c.in_ok-lattice.lattice in
    let o = overlay_of l.dictionaries in
    let from : c.min-from.result ≡ min c.args.first (length lattice.nodes.items) = search rules in
    let counts : c.len.result ≡ length lattice.nodes.items = search rules in
    let written = c.fill_nodes.ensures
    ∙ ap (λ (ns : List LatticeNode). with_front (drop c.min-from.result (c_nodes o l.text.now ns c.deref-2.result.now)) c.args.out.now) c.deref.ensures.value
    ∙ ap (λ (bs : List Bool). with_front (drop c.min-from.result (c_nodes o l.text.now lattice.nodes.items bs)) c.args.out.now) c.deref-2.ensures.value in
    nodes_reported c.args.segmenter.now l lattice c.in_ok-last.ensures.words c.in_ok-lattice.ensures.lattice c.args.first c.min-from.result _ c.args.out.now _ from written counts
