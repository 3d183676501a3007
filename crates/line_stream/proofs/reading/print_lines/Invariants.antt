use Rattle.line_stream.specs.Runs.{run_state}
use Rattle.line_stream.proofs.RunWork.{Running}
use Rattle.line_stream.proofs.reading.print_lines.Given as goal

abbrev pub invariant-loop-turn : goal.invariant-loop-turn
invariant-loop-turn g l =
    Running (g.P.LinePrinter.line_result l.printer)
    (g.R.TextIn.state l.initial.reader).left (g.R.TextIn.state l.reader).left (g.W.TextOut.state l.initial.writer).held (g.W.TextOut.state l.writer).held
    (run_state (g.R.TextIn.state l.initial.reader) (g.W.TextOut.state l.initial.writer))
    (run_state (g.R.TextIn.state l.reader) (g.W.TextOut.state l.writer))
    l._turn l.progress.pending.items l.progress.out.items l.progress.lines l.sent
