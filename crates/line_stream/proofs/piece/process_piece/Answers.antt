use Rattle.std.proofs.Common.{arith, ◌++◌, ◌∷◌, [], length, ◌∙◌, subst, List, ℕ}
use Rattle.std.proofs.lemmas.Result.{err_from_is_err_and}
use Rattle.line_stream.specs.Steps.{Advanced, IsLineCause, StepStopped, step_of}
use Rattle.line_stream.proofs.PieceWork.{working_start, working_line, working_stopped, working_done, working_cut, working_open, working_held}
use Rattle.line_stream.proofs.ResultLemmas.{on_ok}
use Rattle.line_stream.proofs.piece.process_piece.Goals as goal

pub loop-at-init : goal.loop-at-init
loop-at-init g c =
    working_start (g.P.LinePrinter.line_result c.args.printer.now) c.args.progress.now.lines c.args.piece.now c.args.progress.now.pending.items c.args.progress.now.out.items
    (g.W.TextOut.state c.args.writer.now) c.args.sent.now c.requires.open c.requires.nothing_waits

pub process_line-requires : goal.process_line-requires
process_line-requires g c =
    let few_lines = c.loop-at.invariant.few_lines in
    let few_bytes = c.loop-at.invariant.few_bytes in
    let count = c.requires.count in
    let small = c.requires.small in
    let room = c.requires.room in
    let failures = c.requires.failures in
    let none = c.loop-at.invariant.advanced.no_failure in
    let below = c.in-Some.ensures.0.high in
    record {
      count = omega (arith, few_lines, count, below);
      room = omega (arith, few_bytes, small, room);
      failures = omega (arith, none, failures);
    }

pub loop-at-preserved : goal.loop-at-preserved
loop-at-preserved g c =
    let Reports = g.P.LinePrinter.line_result c.args.printer.now in
    let t1 = g.W.TextOut.state c.loop-at.writer in
    let t2 = g.W.TextOut.state c.process_line.new.writer in
    let held = c.loop-at.progress.pending.items in
    let worked = subst (λ (l : List ℕ). Advanced Reports c.loop-at.progress.lines c.loop-at.progress.out.items ((held ++ l) ∷ [])
    c.process_line.new.progress.lines c.process_line.new.progress.out.items (step_of t1 t2) c.loop-at.sent c.process_line.new.sent)
    c.split_at_feed.ensures.line c.in_ok-process_line.ensures.processed in
    rw (c.in_ok-process_line.ensures.ended, c.split_at_feed.ensures.after)
    (working_line Reports c.args.progress.now.lines (length c.args.piece.now) (c.args.progress.now.pending.items ++ c.args.piece.now)
    held c.loop-at.rest.now c.loop-at.progress.lines c.loop-at.progress.out.items (g.W.TextOut.state c.args.writer.now) t1 t2 c.args.sent.now c.loop-at.sent
    c.loop-at.invariant c.in-Some.at c.in-Some.ensures.0 c.in-Some.ensures.1 c.process_line.new.progress.lines c.process_line.new.progress.out.items c.process_line.new.sent
    worked c.in_ok-process_line.ensures.few_bytes c.in_ok-process_line.ensures.few_lines c.in_ok-process_line.ensures.no_flush)

pub returns-in_err-process_line-clause-stopped : goal.returns-in_err-process_line-clause-stopped
returns-in_err-process_line-clause-stopped g c =
    let Reports = g.P.LinePrinter.line_result c.args.printer.now in
    let t1 = g.W.TextOut.state c.loop-at.writer in
    let t2 = g.W.TextOut.state c.process_line.new.writer in
    let held = c.loop-at.progress.pending.items in
    let fault = c.in_err-process_line.field-0.0 in
    let stopped = subst (λ (l : List ℕ). StepStopped Reports (IsLineCause Reports (held ++ l)) c.loop-at.progress.lines c.loop-at.progress.out.items ((held ++ l) ∷ [])
    (step_of t1 t2) c.loop-at.sent fault) c.split_at_feed.ensures.line c.in_err-process_line.ensures.stopped in
    let p = err_from_is_err_and c.from_residual.result c.from_residual.ensures.1 in
    rw (p.1, p.2)
    (working_stopped Reports c.args.progress.now.lines (length c.args.piece.now) (c.args.progress.now.pending.items ++ c.args.piece.now)
    held c.loop-at.rest.now c.loop-at.progress.lines c.loop-at.progress.out.items (g.W.TextOut.state c.args.writer.now) t1 t2 c.args.sent.now c.loop-at.sent
    c.loop-at.invariant c.in-Some.at c.in-Some.ensures.0 c.in-Some.ensures.1 fault stopped)

pub returns-in-Ok-clause-processed : goal.returns-in-Ok-clause-processed
returns-in-Ok-clause-processed g c =
    working_done (g.P.LinePrinter.line_result c.args.printer.now) c.args.progress.now.lines (length c.args.piece.now) (c.args.progress.now.pending.items ++ c.args.piece.now)
    c.loop-at.progress.pending.items c.loop-at.rest.now c.loop-at.progress.lines c.loop-at.progress.out.items
    (g.W.TextOut.state c.args.writer.now) (g.W.TextOut.state c.loop-at.writer) (g.W.TextOut.state c.write_out.new.writer) c.args.sent.now c.loop-at.sent
    c.loop-at.invariant c.in_default.ensures c.write_out.result c.write_out.new.out.items c.write_out.new.sent
    c.write_out.ensures.written c.write_out.ensures.counted c.write_out.ensures.cleared c.write_out.ensures.no_failure

pub returns-in-Ok-clause-stopped : goal.returns-in-Ok-clause-stopped
returns-in-Ok-clause-stopped g c =
    working_cut (g.P.LinePrinter.line_result c.args.printer.now) c.args.progress.now.lines (length c.args.piece.now) (c.args.progress.now.pending.items ++ c.args.piece.now)
    c.loop-at.progress.pending.items c.loop-at.rest.now c.loop-at.progress.lines c.loop-at.progress.out.items
    (g.W.TextOut.state c.args.writer.now) (g.W.TextOut.state c.loop-at.writer) (g.W.TextOut.state c.write_out.new.writer) c.args.sent.now c.loop-at.sent
    c.loop-at.invariant c.in_default.ensures c.write_out.result c.write_out.ensures.truncated c.write_out.ensures.failure

pub returns-in-Err-clause-stopped : goal.returns-in-Err-clause-stopped
returns-in-Err-clause-stopped g c =
    working_held (g.P.LinePrinter.line_result c.args.printer.now) c.args.progress.now.lines (length c.args.piece.now) (c.args.progress.now.pending.items ++ c.args.piece.now)
    c.loop-at.progress.pending.items c.loop-at.rest.now c.loop-at.progress.lines c.loop-at.progress.out.items
    (g.W.TextOut.state c.args.writer.now) (g.W.TextOut.state c.loop-at.writer) (g.W.TextOut.state c.stop.new.writer) c.args.sent.now c.loop-at.sent
    c.loop-at.invariant c.in_default.ensures (g.met.P.LinePrinter.too_long c.args.printer.now) c.in-Err.error c.stop.result c.in-Err.ensures.long c.stop.ensures.stopped

pub returns-in-Ok-clause-open : goal.returns-in-Ok-clause-open
returns-in-Ok-clause-open g c =
    let is = working_open (g.P.LinePrinter.line_result c.args.printer.now) c.args.progress.now.lines (length c.args.piece.now) (c.args.progress.now.pending.items ++ c.args.piece.now)
    c.loop-at.progress.pending.items c.loop-at.rest.now c.loop-at.progress.lines c.loop-at.progress.out.items
    (g.W.TextOut.state c.args.writer.now) (g.W.TextOut.state c.loop-at.writer) (g.W.TextOut.state c.write_out.new.writer) c.args.sent.now c.loop-at.sent
    c.loop-at.invariant c.in_default.ensures in
    on_ok c.write_out.result _ (c.in-Ok.ensures.pending ∙ is)
