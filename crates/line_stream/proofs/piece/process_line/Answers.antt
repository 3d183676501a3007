use Rattle.std.proofs.Common.{◌++◌, ◌∷◌, ◌+◌, [], List, ℕ, refl, subst}
use Rattle.line_stream.specs.Steps.{IsLineCause, WaitingStopped, step_of}
use Rattle.line_stream.proofs.PrintedAfter.{print_one}
use Rattle.line_stream.proofs.StepLemmas.{error_stopped, if_cut}
use Rattle.line_stream.proofs.piece.process_line.Goals as goal

pub returns-in-Ok-2-clause-stopped : goal.returns-in-Ok-2-clause-stopped
returns-in-Ok-2-clause-stopped g c =
    let Reports = g.P.LinePrinter.line_result c.args.printer.now in
    let line = c.args.progress.now.pending.items ++ c.args.part.now in
    let lines = c.args.progress.now.lines in
    let printed = c.in-Ok-2.ensures.printed in
    if_cut Reports c.write_out.result (IsLineCause Reports line) lines c.args.progress.now.out.items (line ∷ []) c.end_line.new.self.out.items printed.0
    (g.W.TextOut.state c.args.writer.now) (g.W.TextOut.state c.write_out.new.writer) c.args.sent.now
    (print_one Reports (lines + 1) line printed.0 printed.1) printed.2 c.write_out.ensures.truncated c.write_out.ensures.failure

pub returns-in-Err-clause-stopped : goal.returns-in-Err-clause-stopped
returns-in-Err-clause-stopped g c =
    let Reports = g.P.LinePrinter.line_result c.args.printer.now in
    let line = c.args.progress.now.pending.items ++ c.args.part.now in
    let lines = c.args.progress.now.lines in
    let error = c.in-Err.error in
    let t0 = g.W.TextOut.state c.args.writer.now in
    let t1 = g.W.TextOut.state c.stop.new.writer in
    let kept = c.in-Err.ensures.unchanged in
    let by_lines = subst (λ (n : ℕ). WaitingStopped c.end_line.new.self.out.items error (n + 1) (step_of t0 t1) c.args.sent.now c.stop.result) kept.1 c.stop.ensures.stopped in
    let stopped = subst (λ (out : List ℕ). WaitingStopped out error (lines + 1) (step_of t0 t1) c.args.sent.now c.stop.result) kept.0 by_lines in
    error_stopped Reports (IsLineCause Reports line) lines c.args.progress.now.out.items (line ∷ []) error t0 t1 c.args.sent.now c.stop.result stopped
    (record { none_before = refl; reports = c.in-Err.ensures.bad })
