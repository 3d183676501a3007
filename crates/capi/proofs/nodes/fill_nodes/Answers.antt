use Rattle.std.proofs.Common.{◌≡◌, ◌+◌, ◌-◌, ◌<◌, None, false, pos, rules, arith, refl, length, drop, sym, ap, ◌∙◌}
use Rattle.std.specs.Prelude.{ℕ, min}
use Rattle.std.proofs.lemmas.List.{length-drop}
use Rattle.capi.specs.Nodes.{c_nodes}
use Rattle.capi.proofs.FillLemmas.{filling_ends, filling_more}
use Rattle.capi.proofs.NodeLemmas.{length-c_nodes, node_here}
use Rattle.viterbi.specs.declared.nodes.lattice_node.LatticeNode.{LatticeNode}
use Rattle.out_format.proofs.PrintedLemmas.{no_word}
use Rattle.word_lookup.specs.Overlays.{overlay_of}
use Rattle.capi.proofs.nodes.fill_nodes.Goals as goal

abbrev no_node : LatticeNode
no_node = record { word = no_word; total = pos 0; through = None }

pub loop-i-init : goal.loop-i-init
loop-i-init c = record { written = refl; long = refl }

pub node_for_c-requires : goal.node_for_c-requires
node_for_c-requires c =
    let low : c.args.from + c.loop-i.i < length c.args.nodes.now = search rules in
    c.requires.starts (c.args.from + c.loop-i.i) no_node low

pub loop-i-preserved : goal.loop-i-preserved
loop-i-preserved c =
    let l = c.args.last.now in
    let o = overlay_of l.dictionaries in
    let nodes = c.args.nodes.now in
    let marks = c.args.on_best.now in
    let all = c_nodes o l.text.now nodes marks in
    let from = c.args.from in
    let i = c.loop-i.i in
    let low : from + i < length nodes = search rules in
    let room : i < length c.loop-i.out = search rules in
    let many = length-c_nodes o l.text.now nodes marks c.requires.marks in
    let left = length-drop from all in
    filling_more (drop from all) i c.args.out.now c.loop-i.out c.node_for_c.result c.loop-i.invariant (omega (arith, low, many, left)) room
    (node_here o l.text.now nodes marks from i no_node false c.node_for_c.result c.requires.marks low c.node_for_c.ensures)

pub returns : goal.returns
returns c =
    let l = c.args.last.now in
    let o = overlay_of l.dictionaries in
    let nodes = c.args.nodes.now in
    let marks = c.args.on_best.now in
    let all = c_nodes o l.text.now nodes marks in
    let from = c.args.from in
    let ends : c.loop-i.i ≡ min (length nodes - from) (length c.args.out.now) = search rules in
    let many : length (drop from all) ≡ length nodes - from = length-drop from all ∙ ap (λ (n : ℕ). n - from) (length-c_nodes o l.text.now nodes marks c.requires.marks) in
    filling_ends (drop from all) c.loop-i.i c.args.out.now c.loop-i.out c.loop-i.invariant (ends ∙ ap (λ (n : ℕ). min n (length c.args.out.now)) (sym many))
