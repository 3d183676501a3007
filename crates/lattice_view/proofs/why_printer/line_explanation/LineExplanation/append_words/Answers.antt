use Rattle.std.proofs.Common.{◌≡◌, length, rules, arith, ap, ◌∙◌}
use Rattle.mj_model.specs.Words.{words}
use Rattle.word_lookup.proofs.AppendLemmas.{prefix_kept}
use Rattle.lattice_view.specs.WhyPrinter.ExplainedLines.{best_of_line, overlay_of_line, steps_of_line}
use Rattle.lattice_view.specs.WhyPrinter.LineExplanations.{PrintsStep}
use Rattle.lattice_view.proofs.LineWords.{step_there}
use Rattle.lattice_view.proofs.PrintedSteps.{all_steps, none_so_far, step_more}
use Rattle.lattice_view.proofs.why_printer.line_explanation.LineExplanation.append_words.Goals as goal

pub loop-number-init : goal.loop-number-init
loop-number-init c =
    let l = c.args.self.now.line.now in
    none_so_far (PrintsStep (overlay_of_line l) l.text.now (best_of_line l)) (steps_of_line l) c.args.out.now.items

pub append_word-requires-clause-step : goal.append_word-requires-clause-step
append_word-requires-clause-step c =
    let l = c.args.self.now.line.now in
    let o = overlay_of_line l in
    step_there l c.steps-steps.result.now c.loop-number.number _ (c.steps-steps.ensures (words o l.text.now) o.system.connection (length l.text.now) (best_of_line l) c.requires.rivals) c.loop-number-test.true

pub returns-in_err-append_word-clause-unchanged : goal.returns-in_err-append_word-clause-unchanged
returns-in_err-append_word-clause-unchanged c = prefix_kept _ _ _ _ _ (search rules) (c.append_word.ensures.unchanged ∙ c.loop-number.invariant.appended)

pub loop-number-preserved : goal.loop-number-preserved
loop-number-preserved c =
    let l = c.args.self.now.line.now in
    let o = overlay_of_line l in
    let more = c.in_ok-append_word.ensures.appended in
    step_more (PrintsStep o l.text.now (best_of_line l)) (steps_of_line l) c.loop-number.number _ c.args.out.now.items c.loop-number.out.items c.append_word.new.out.items
    (step_there l c.steps-steps.result.now c.loop-number.number _ (c.steps-steps.ensures (words o l.text.now) o.system.connection (length l.text.now) (best_of_line l) c.requires.rivals) c.loop-number-test.true)
    c.loop-number.invariant more.0 more.1 more.2

pub returns-clause-appended : goal.returns-clause-appended
returns-clause-appended c =
    let l = c.args.self.now.line.now in
    let o = overlay_of_line l in
    let long : length c.steps-steps.result.now ≡ length (steps_of_line l) = ap length (c.steps-steps.ensures (words o l.text.now) o.system.connection (length l.text.now) (best_of_line l) c.requires.rivals) in
    all_steps (PrintsStep o l.text.now (best_of_line l)) (steps_of_line l) c.loop-number.number c.args.out.now.items c.loop-number.out.items
    (omega (arith, long, c.loop-number-test.false)) c.loop-number.invariant
