use Rattle.line_stream.proofs.BadLines.{bad_reported}
use Rattle.line_stream.proofs.stream_state.print_line.Goals as goal

pub returns-in-Err-clause-bad : goal.returns-in-Err-clause-bad
returns-in-Err-clause-bad g c =
    let p = c.args.printer.now in
    bad_reported (g.P.LinePrinter.line_result p) (g.met.P.LinePrinter.too_long p) (g.met.P.LinePrinter.not_utf8 p) c.args.line.now c.in-Err.fault c.in-Err.ensures.rejected
