use Rattle.std.proofs.Common.{arith, ◌+◌, length, take, refl, sym, subst, length-take, nat_lt}
use Rattle.std.specs.Io.KnownBytes.{Consumes}
use Rattle.std.proofs.lemmas.Result.{err_from_is_err_and}
use Rattle.std.specs.Prelude.{Err}
use Rattle.line_stream.specs.declared.line_fault.StreamFault.TheVariants as stream
use Rattle.line_stream.specs.StreamState.{HasNoFeed}
use Rattle.line_stream.specs.Runs.{run_state}
use Rattle.line_stream.proofs.RunWork.{running_more, open_no_feed}
use Rattle.line_stream.proofs.RunEnds.{ran_of, ran_read_failed, ran_bound, ran_work, ran_finish}
use Rattle.line_stream.proofs.WritingLemmas.{no_failure, one_end}
use Rattle.line_stream.proofs.reading.print_lines.Goals as goal

pub process_piece-requires-clause-open : goal.process_piece-requires-clause-open
process_piece-requires-clause-open g c = subst HasNoFeed (sym c.loop-turn.invariant.open_is) (open_no_feed c.loop-turn.invariant.bytes)

pub loop-turn-preserved : goal.loop-turn-preserved
loop-turn-preserved g c =
    let taken = c.in-Ok.n in
    let room = length c.loop-turn.buffer in
    let none = no_failure taken (nat_lt 0 room) c.in-Ok.n-test.1 in
    let ends = c.in-Ok.ensures.ends in
    let failures = c.in-Ok.ensures.failures in
    let kept = c.loop-turn.auto.buffer in
    let same = c.read_counted.auto.buf in
    let len = length-take taken c.read_counted.new.buf in
    let some = c.in-Ok.n-test.1 in
    let fits = c.in-Ok.ensures.bound in
    let small = c.requires.buffer.1 in
    running_more (g.P.LinePrinter.line_result c.args.printer.now) _ _ _ _ _ _ _ _ _ c.loop-turn._turn
    c.loop-turn.progress.pending.items c.loop-turn.progress.out.items (take taken c.read_counted.new.buf) c.loop-turn.progress.lines c.loop-turn.sent
    c.process_piece.new.progress.pending.items c.process_piece.new.progress.out.items c.process_piece.new.progress.lines c.process_piece.new.sent
    c.loop-turn.invariant c.in-Ok.ensures.bytes.0 (omega (arith, some, fits, len)) (omega (arith, kept, same, len, small)) c.in_ok-process_piece.ensures.processed c.in_ok-process_piece.ensures.open
    c.in_ok-process_piece.ensures.short c.in_ok-process_piece.ensures.nothing_waits c.in_ok-process_piece.ensures.few_lines c.in_ok-process_piece.ensures.few_bytes c.in-Ok.ensures.reads
    (omega (arith, ends, none)) (omega (arith, failures)) c.in_ok-process_piece.ensures.no_flush

pub returns-in_err-process_piece : goal.returns-in_err-process_piece
returns-in_err-process_piece g c =
    let p = err_from_is_err_and c.from_residual.result c.from_residual.ensures.1 in
    let from = g.R.TextIn.state c.args.reader.now in
    let to = g.R.TextIn.state c.read_counted.new.self in
    let before = g.W.TextOut.state c.args.writer.now in
    let after = g.W.TextOut.state c.process_piece.new.writer in
    let Reports = g.P.LinePrinter.line_result c.args.printer.now in
    let taken = c.in-Ok.n in
    let none = no_failure taken (nat_lt 0 (length c.loop-turn.buffer)) c.in-Ok.n-test.1 in
    let ends = c.in-Ok.ensures.ends in
    let failures = c.in-Ok.ensures.failures in
    let kept = c.loop-turn.auto.buffer in
    let same = c.read_counted.auto.buf in
    let len = length-take taken c.read_counted.new.buf in
    let some = c.in-Ok.n-test.1 in
    let fits = c.in-Ok.ensures.bound in
    let small = c.requires.buffer.1 in
    rw (p.1, p.2) (record {
      run = ran_of Reports c.args.bound from to before after (Err c.in_err-process_piece.field-0.0)
          (ran_work Reports c.args.bound _ _ _ _ _ _ _ _ (run_state to after) c.loop-turn._turn
          c.loop-turn.progress.pending.items c.loop-turn.progress.out.items c.loop-turn.progress.lines c.loop-turn.sent c.loop-turn.invariant
          c.loop-turn-test.true c.in-Ok.ensures.reads (omega (arith, failures))
          (take taken c.read_counted.new.buf) c.in_err-process_piece.field-0.0 c.in-Ok.ensures.bytes.0 (omega (arith, some, fits, len)) (omega (arith, kept, same, len, small))
          (omega (arith, ends, none)) c.in_err-process_piece.ensures.no_flush c.in_err-process_piece.ensures.stopped);
    })

pub returns-in-Ok-eq0 : goal.returns-in-Ok-eq0
returns-in-Ok-eq0 g c =
    let from = g.R.TextIn.state c.args.reader.now in
    let to = g.R.TextIn.state c.read_counted.new.self in
    let before = g.W.TextOut.state c.args.writer.now in
    let after = g.W.TextOut.state c.finish.new.writer in
    let Reports = g.P.LinePrinter.line_result c.args.printer.now in
    let ends = c.in-Ok-eq0.ensures.ends in
    let failures = c.in-Ok-eq0.ensures.failures in
    let kept = c.loop-turn.auto.buffer in
    let some = c.requires.buffer.0 in
    let none = c.in-Ok-eq0.field-0-test in
    let one = one_end c.in-Ok-eq0.field-0 (length c.loop-turn.buffer) none (omega (arith, kept, some)) in
    let took = subst (λ n. Consumes (g.R.TextIn.state c.loop-turn.reader).left to.left (take n c.read_counted.new.buf)) none c.in-Ok-eq0.ensures.bytes.0 in
    let buffer = c.read_counted.auto.buf in
    let at_end = c.in-Ok-eq0.ensures.bytes.1 none (omega (arith, kept, buffer, some)) in
    record {
      run = ran_of Reports c.args.bound from to before after c.finish.result
          (ran_finish Reports c.args.bound _ _ _ _ _ _ _ _ (run_state to after) c.loop-turn._turn
          c.loop-turn.progress.pending.items c.loop-turn.progress.out.items c.loop-turn.progress.lines c.loop-turn.sent c.loop-turn.invariant
          c.loop-turn-test.true c.in-Ok-eq0.ensures.reads (omega (arith, failures))
          c.finish.result c.finish.new.sent took at_end (omega (arith, ends, one)) c.finish.ensures.finished c.finish.ensures.one_flush
          c.finish.ensures.flushed c.finish.ensures.stopped);
    }

pub returns-in-Err : goal.returns-in-Err
returns-in-Err g c =
    let from = g.R.TextIn.state c.args.reader.now in
    let to = g.R.TextIn.state c.read_counted.new.self in
    let before = g.W.TextOut.state c.args.writer.now in
    let after = g.W.TextOut.state c.loop-turn.writer in
    let Reports = g.P.LinePrinter.line_result c.args.printer.now in
    let now = g.R.TextIn.state c.loop-turn.reader in
    let ends = c.in-Err.ensures.ends in
    record {
      run = ran_of Reports c.args.bound from to before after (Err (stream.Read (c.loop-turn.progress.lines + 1)))
          (ran_read_failed Reports c.args.bound from.left now.left to.left before.held after.held after.held
          (run_state from before) (run_state now after) (run_state to after) c.loop-turn._turn
          c.loop-turn.progress.pending.items c.loop-turn.progress.out.items c.loop-turn.progress.lines c.loop-turn.sent c.loop-turn.invariant
          (c.loop-turn.progress.lines + 1) refl c.in-Err.ensures.bytes c.loop-turn-test.true c.in-Err.ensures.reads
          (omega (arith, ends)) c.in-Err.ensures.failures refl refl);
    }

pub returns : goal.returns
returns g c =
    let from = g.R.TextIn.state c.args.reader.now in
    let to = g.R.TextIn.state c.loop-turn.reader in
    let before = g.W.TextOut.state c.args.writer.now in
    let after = g.W.TextOut.state c.loop-turn.writer in
    let Reports = g.P.LinePrinter.line_result c.args.printer.now in
    let most = c.loop-turn.auto._turn-end in
    let past = c.loop-turn-test.false in
    record {
      run = ran_of Reports c.args.bound from to before after (Err (stream.InputTooLong (c.loop-turn.progress.lines + 1)))
          (ran_bound Reports c.args.bound from.left to.left to.left before.held after.held after.held
          (run_state from before) (run_state to after) (run_state to after) c.loop-turn._turn
          c.loop-turn.progress.pending.items c.loop-turn.progress.out.items c.loop-turn.progress.lines c.loop-turn.sent c.loop-turn.invariant
          (c.loop-turn.progress.lines + 1) refl (omega (arith, most, past)));
    }
