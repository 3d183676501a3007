use Rattle.std.proofs.Common.{◌≡◌, rules, ap, ◌∙◌}
use Rattle.std.specs.Prelude.{ℤ, ◌-ℤ◌}
use Rattle.std.proofs.lemmas.Int.{to_z-of_z}
use mir.Val.{to_z, of_z, SFits}
use mir.Syntax.{w64}
use Rattle.lattice_view.proofs.PrintableNodes.{difference_fits}
use Rattle.lattice_view.proofs.LineWords.{total_low}
use Rattle.lattice_view.proofs.why_printer.rivals.lost_by.Goals as goal

pub overflow_sub-result : goal.overflow_sub-result
overflow_sub-result c =
    let cost = c.args.rival.now.cost in
    let total = c.args.line.now.path.now.total in
    let cost_fits : SFits w64 cost = search rules in
    let total_fits : SFits w64 total = search rules in
    difference_fits (to_z w64 (of_z w64 cost)) (to_z w64 (of_z w64 total)) cost total (to_z-of_z w64 cost cost_fits) (to_z-of_z w64 total total_fits)
    c.requires.rival.cost_low (total_low c.args.line.now c.requires.line)

pub returns : goal.returns
returns c =
    let cost = c.args.rival.now.cost in
    let total = c.args.line.now.path.now.total in
    let cost_fits : SFits w64 cost = search rules in
    let total_fits : SFits w64 total = search rules in
    let a : to_z w64 (of_z w64 cost) ≡ cost = to_z-of_z w64 cost cost_fits in
    let b : to_z w64 (of_z w64 total) ≡ total = to_z-of_z w64 total total_fits in
    let fits : SFits w64 (to_z w64 (of_z w64 cost) -ℤ to_z w64 (of_z w64 total)) = difference_fits (to_z w64 (of_z w64 cost)) (to_z w64 (of_z w64 total)) cost total a b
    c.requires.rival.cost_low (total_low c.args.line.now c.requires.line) in
    to_z-of_z w64 (to_z w64 (of_z w64 cost) -ℤ to_z w64 (of_z w64 total)) fits
    ∙ ap (λ (x : ℤ). x -ℤ to_z w64 (of_z w64 total)) a ∙ ap (λ (y : ℤ). cost -ℤ y) (b ∙ c.requires.line.total)
