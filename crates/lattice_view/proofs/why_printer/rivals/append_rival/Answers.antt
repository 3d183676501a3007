use Rattle.std.proofs.Common.{◌≡◌, List, rules, sym, ◌∙◌, subst}
use Rattle.std.proofs.lemmas.Int.{to_z-of_z}
use mir.Val.{to_z, of_z, SFits}
use mir.Syntax.{w64}
use Rattle.mj_model.specs.BestOver.{cost_over}
use Rattle.viterbi.specs.declared.rivals.step.PathStep.{PathStep}
use Rattle.lattice_view.specs.WhyPrinter.ExplainedLines.{AreInLine, best_of_line, overlay_of_line}
use Rattle.lattice_view.proofs.PrintedRows.{rival_shown}
use Rattle.lattice_view.proofs.why_printer.rivals.append_rival.Goals as goal

pub append_steps-requires : goal.append_steps-requires
append_steps-requires c = subst (λ (steps : List PathStep). AreInLine c.args.line.now steps) (sym c.deref.ensures.value) c.requires.rival.steps

pub returns-clause-appended : goal.returns-clause-appended
returns-clause-appended c =
    let l = c.args.line.now in
    let by = c.lost_by-by.result in
    let fits : SFits w64 by = search rules in
    let same : to_z w64 (of_z w64 by) ≡ by = to_z-of_z w64 by fits in
    rival_shown c.append_gap_unless-2.result (overlay_of_line l) l.text.now (cost_over (overlay_of_line l) (best_of_line l)) (to_z w64 (of_z w64 by)) c.deref.result.now c.args.rival.now
    c.args.out.now.items c.append_gap_unless.new.out.items c.append_steps.new.out.items c.append_gap_unless-2.new.out.items (same ∙ c.lost_by-by.ensures) c.deref.ensures.value
    c.in_ok-append_gap_unless.ensures.appended c.in_ok-append_steps.ensures.appended c.append_gap_unless-2.ensures.appended
