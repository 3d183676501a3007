use Rattle.lattice_view.specs.WhyPrinter.ExplainedLines.{best_of_line, overlay_of_line, steps_of_line}
use Rattle.lattice_view.specs.WhyPrinter.LineExplanations.{PrintsStep}
use Rattle.lattice_view.proofs.PrintedSteps.{StepsSoFar}
use Rattle.lattice_view.proofs.why_printer.line_explanation.LineExplanation.append_words.Given as goal

abbrev pub invariant-loop-number : goal.invariant-loop-number
invariant-loop-number l =
    StepsSoFar (PrintsStep (overlay_of_line l.self.line.now) l.self.line.now.text.now (best_of_line l.self.line.now)) (steps_of_line l.self.line.now) l.number l.initial.out.items l.out.items
