use Rattle.std.proofs.Common.{rules, arith, ◌∙◌}
use Rattle.word_lookup.proofs.AppendLemmas.{prefix_kept}
use Rattle.lattice_view.specs.LatticePrinter.LatticesOfLines.{overlay_of_lattice}
use Rattle.lattice_view.specs.LatticePrinter.FormattedLattices.{PrintsWithin}
use Rattle.lattice_view.proofs.PrintedNodes.{all_nodes, node_more}
use Rattle.lattice_view.proofs.PrintedWords.{shown_there}
use Rattle.lattice_view.proofs.lattice_printer.formatted_lattice.FormattedLattice.append_nodes.Goals as goal

pub returns-in_err-append_within-clause-unchanged : goal.returns-in_err-append_within-clause-unchanged
returns-in_err-append_within-clause-unchanged c = prefix_kept _ _ _ _ _ (search rules) (c.append_within.ensures.unchanged ∙ c.loop-number.invariant.appended)

pub loop-number-preserved : goal.loop-number-preserved
loop-number-preserved c =
    let l = c.args.self.now.lattice.now in
    let f = c.args.self.now.format in
    let i = c.loop-number.number in
    let m = c.node.result in
    node_more (PrintsWithin f (overlay_of_lattice l) l.text.now l.best) l.nodes.now l.on_best.now i m.node.now m.is_best c.args.out.now.items c.loop-number.out.items c.append_within.new.out.items
    c.node.ensures.node_is c.node.ensures.mark_is c.loop-number.invariant
    (shown_there f l i m c.loop-number.out.items c.append_within.new.out.items c.node.ensures c.in_ok-append_within.ensures.appended)

pub returns-clause-appended : goal.returns-clause-appended
returns-clause-appended c =
    let l = c.args.self.now.lattice.now in
    all_nodes (PrintsWithin c.args.self.now.format (overlay_of_lattice l) l.text.now l.best) l.nodes.now l.on_best.now c.loop-number.number c.args.out.now.items c.loop-number.out.items (omega (arith, c.loop-number-test.false)) c.loop-number.invariant
