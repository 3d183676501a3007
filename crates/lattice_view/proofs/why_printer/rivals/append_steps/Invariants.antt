use Rattle.std.proofs.Common.{◌≡◌, ◌++◌, take}
use Rattle.std.specs.Prelude.{flat_map}
use Rattle.lattice_view.specs.WhyPrinter.ExplainedLines.{overlay_of_line}
use Rattle.lattice_view.specs.WhyPrinter.Rows.{step_row}
use Rattle.lattice_view.proofs.why_printer.rivals.append_steps.Given as goal

abbrev pub invariant-loop-step : goal.invariant-loop-step
invariant-loop-step l =
    l.out.items ≡ l.initial.out.items ++ flat_map (step_row (overlay_of_line l.line) l.line.text.now l.lost) (take l.step-index l.steps)
