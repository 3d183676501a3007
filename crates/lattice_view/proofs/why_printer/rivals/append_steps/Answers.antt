use Rattle.std.proofs.Common.{rules, ◌∙◌}
use Rattle.std.proofs.lemmas.Option.{slice_get-get_or}
use Rattle.word_lookup.proofs.AppendLemmas.{prefix_kept}
use Rattle.lattice_view.specs.WhyPrinter.ExplainedLines.{overlay_of_line}
use Rattle.lattice_view.specs.WhyPrinter.Rows.{step_row}
use Rattle.lattice_view.proofs.PrintedRows.{row_more}
use Rattle.lattice_view.proofs.why_printer.rivals.append_steps.Goals as goal

pub append_step-requires : goal.append_step-requires
append_step-requires c = c.requires c.loop-step.step-index _ (slice_get-get_or c.args.steps.now c.loop-step.step-index _ c.loop-step-test.true)

pub returns-in_err-append_step-clause-unchanged : goal.returns-in_err-append_step-clause-unchanged
returns-in_err-append_step-clause-unchanged c = prefix_kept _ _ _ _ _ (search rules) (c.append_step.ensures.unchanged ∙ c.loop-step.invariant)

pub loop-step-preserved : goal.loop-step-preserved
loop-step-preserved c =
    let l = c.args.line.now in
    row_more (step_row (overlay_of_line l) l.text.now c.args.lost) c.args.steps.now c.loop-step.step-index _ c.args.out.now.items c.loop-step.out.items c.append_step.new.out.items
    c.loop-step-test.true c.loop-step.invariant c.in_ok-append_step.ensures.appended
