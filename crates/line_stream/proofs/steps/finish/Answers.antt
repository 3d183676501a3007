use Rattle.std.proofs.lemmas.Result.{err_from_is_err_and}
use Rattle.line_stream.specs.Steps.{last_line, IsLastCause}
use Rattle.line_stream.proofs.StepLemmas.{end_write_stopped}
use Rattle.line_stream.proofs.steps.finish.Goals as goal

pub returns-in_err-write_out-clause-stopped : goal.returns-in_err-write_out-clause-stopped
returns-in_err-write_out-clause-stopped g c =
    let p = err_from_is_err_and c.from_residual.result c.from_residual.ensures.1 in
    let Reports = g.P.LinePrinter.line_result c.args.printer.now in
    let tail = c.args.progress.now.pending.items in
    rw (p.1, p.2)
    (end_write_stopped Reports (IsLastCause Reports tail) c.args.progress.now.lines (last_line tail)
    c.end_input.new.self.lines c.args.progress.now.out.items c.end_input.new.self.out.items
    (g.W.TextOut.state c.args.writer.now) (g.W.TextOut.state c.write_out.new.writer) c.args.sent.now c.in_err-write_out.field-0.0
    c.requires.nothing_waits c.in_default.ensures.processed c.in_err-write_out.ensures.truncated c.in_err-write_out.ensures.failure c.in_err-write_out.ensures.no_flush)
