use Rattle.std.proofs.Common.{rules}
use Rattle.std.proofs.lemmas.Int.{to_z-of_z}
use mir.Val.{to_z, of_z, SFits}
use mir.Syntax.{w64}
use Rattle.lattice_view.proofs.PrintableNodes.{difference_fits, low_if_some, lost_is}
use Rattle.lattice_view.proofs.lattice_printer.marked_node.MarkedNode.lost.Goals as goal

pub overflow_sub-result : goal.overflow_sub-result
overflow_sub-result c =
    let through = c.in-Some.through in
    let best = c.args.self.now.best in
    let through_fits : SFits w64 through = search rules in
    let best_fits : SFits w64 best = search rules in
    difference_fits (to_z w64 (of_z w64 through)) (to_z w64 (of_z w64 best)) through best (to_z-of_z w64 through through_fits) (to_z-of_z w64 best best_fits)
    (low_if_some c.args.self.now.node.now.through through c.in-Some.is c.requires.lies.through_low) c.requires.best_low

pub returns-in-Some : goal.returns-in-Some
returns-in-Some c =
    let through = c.in-Some.through in
    let best = c.args.self.now.best in
    let through_fits : SFits w64 through = search rules in
    let best_fits : SFits w64 best = search rules in
    lost_is (to_z w64 (of_z w64 through)) (to_z w64 (of_z w64 best)) through best c.args.self.now.node.now (to_z-of_z w64 through through_fits) (to_z-of_z w64 best best_fits)
    c.in-Some.is (low_if_some c.args.self.now.node.now.through through c.in-Some.is c.requires.lies.through_low) c.requires.best_low
