use Rattle.std.proofs.Common.{length}
use Rattle.mj_model.specs.Words.{words}
use Rattle.lattice_view.specs.WhyPrinter.ExplainedLines.{best_of_line, overlay_of_line}
use Rattle.lattice_view.proofs.LineWords.{rival_printable, step_in_line, word_of_step}
use Rattle.lattice_view.proofs.PrintedRows.{word_shown}
use Rattle.lattice_view.proofs.why_printer.line_explanation.LineExplanation.append_word.Goals as goal

pub append_step-requires : goal.append_step-requires
append_step-requires c = step_in_line c.args.self.now.line.now c.requires.line c.args.number c.args.step.now c.requires.step

pub append_if_some-requires-clause-rival : goal.append_if_some-requires-clause-rival
append_if_some-requires-clause-rival c =
    let l = c.args.self.now.line.now in
    let o = overlay_of_line l in
    let w = c.args.step.now.word in
    let here = word_of_step o.system.connection (best_of_line l) c.args.number c.args.step.now c.requires.step in
    rival_printable l w c.in_ok-rival.rival c.requires.line
    (c.in_ok-rival.ensures.rival (words o l.text.now) o.system.connection (length l.text.now) (best_of_line l) w c.requires.rivals here)

pub returns-clause-appended : goal.returns-clause-appended
returns-clause-appended c =
    let l = c.args.self.now.line.now in
    let o = overlay_of_line l in
    let s = c.args.step.now in
    let here = word_of_step o.system.connection (best_of_line l) c.args.number s c.requires.step in
    word_shown c.append_if_some.result o l.text.now (best_of_line l) s c.in_ok-rival.rival c.args.out.now.items c.append_step.new.out.items c.append_if_some.new.out.items
    (c.in_ok-rival.ensures.rival (words o l.text.now) o.system.connection (length l.text.now) (best_of_line l) s.word c.requires.rivals here)
    c.in_ok-append_step.ensures.appended c.append_if_some.ensures.appended
