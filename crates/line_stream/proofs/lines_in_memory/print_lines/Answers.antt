use Rattle.std.proofs.Common.{rules, ◌+◌, ◌<◌, [], length, length-drop, take, drop, refl, subst, arith, List, ℕ}
use Rattle.std.specs.Prelude.{Err}
use Rattle.std.proofs.lemmas.Result.{err_from_is_err_and}
use Rattle.line_stream.specs.GoodLines.{IsGood}
use Rattle.line_stream.specs.LineErrors.{ReportsFault}
use Rattle.line_stream.specs.StreamState.{IsPrinted}
use Rattle.line_stream.proofs.LinesInMemory.{line_left, lines_at, printing_done, printing_on, printing_stopped}
use Rattle.line_stream.proofs.lines_in_memory.print_lines.Goals as goal

pub loop-at-preserved : goal.loop-at-preserved
loop-at-preserved g c =
    let Reports = g.P.LinePrinter.line_result c.args.printer.now in
    let rest = c.loop-at.rest.now in
    let at = c.in-Some.at in
    let high = c.in-Some.ensures.0.high in
    let many = length-drop (at + 1) rest in
    let printed = subst (λ (line : List ℕ). IsPrinted Reports line c.loop-at.out.items c.print_next_line.new.out.items) c.split_at_feed.ensures.line c.in_ok-print_next_line.ensures.printed in
    rw c.split_at_feed.ensures.after
    (printing_on Reports c.args.text.now rest c.loop-at.lines c.args.out.now.items c.loop-at.out.items c.loop-at.invariant (take at rest) (drop (at + 1) rest)
    (lines_at rest at c.in-Some.ensures.0 c.in-Some.ensures.1) c.print_next_line.new.lines c.print_next_line.new.out.items (omega (arith, many, high)) printed c.in_ok-print_next_line.ensures.counted)

pub returns-in_err-print_next_line-clause-stopped : goal.returns-in_err-print_next_line-clause-stopped
returns-in_err-print_next_line-clause-stopped g c =
    let Reports = g.P.LinePrinter.line_result c.args.printer.now in
    let rest = c.loop-at.rest.now in
    let at = c.in-Some.at in
    let stopped = c.in_err-print_next_line.field-0.0 in
    let bad = subst (λ (line : List ℕ). ReportsFault (λ fault. Reports line (Err fault)) stopped.error) c.split_at_feed.ensures.line c.in_err-print_next_line.ensures.bad in
    let p = err_from_is_err_and c.from_residual.result c.from_residual.ensures.1 in
    rw (p.1, p.2)
    (printing_stopped Reports c.args.text.now rest c.loop-at.lines c.args.out.now.items c.loop-at.out.items c.loop-at.invariant (take at rest) (drop (at + 1) rest)
    (lines_at rest at c.in-Some.ensures.0 c.in-Some.ensures.1) c.print_next_line.new.out.items stopped.line stopped.error c.in_err-print_next_line.ensures.unchanged c.in_err-print_next_line.ensures.number bad
    (λ memory. subst IsGood c.split_at_feed.ensures.line (c.in_err-print_next_line.ensures.good memory)))

pub returns-in_err-print_next_line-2-clause-stopped : goal.returns-in_err-print_next_line-2-clause-stopped
returns-in_err-print_next_line-2-clause-stopped g c =
    let Reports = g.P.LinePrinter.line_result c.args.printer.now in
    let rest = c.loop-at.rest.now in
    let stopped = c.in_err-print_next_line-2.field-0.0 in
    let p = err_from_is_err_and c.from_residual-in_err-print_next_line-2.result c.from_residual-in_err-print_next_line-2.ensures.1 in
    rw (p.1, p.2)
    (printing_stopped Reports c.args.text.now rest c.loop-at.lines c.args.out.now.items c.loop-at.out.items c.loop-at.invariant rest []
    (line_left rest (search rules) c.in_default.ensures) c.print_next_line-then-not-is_empty.new.out.items stopped.line stopped.error
    c.in_err-print_next_line-2.ensures.unchanged c.in_err-print_next_line-2.ensures.number c.in_err-print_next_line-2.ensures.bad
    c.in_err-print_next_line-2.ensures.good)

pub returns-in_ok-print_next_line-2-clause-printed : goal.returns-in_ok-print_next_line-2-clause-printed
returns-in_ok-print_next_line-2-clause-printed g c =
    let Reports = g.P.LinePrinter.line_result c.args.printer.now in
    let rest = c.loop-at.rest.now in
    let some : 0 < length rest = search rules in
    let lines = c.print_next_line-then-not-is_empty.new.lines in
    let out = c.print_next_line-then-not-is_empty.new.out.items in
    printing_done Reports c.args.text.now [] lines c.args.out.now.items out
    (printing_on Reports c.args.text.now rest c.loop-at.lines c.args.out.now.items c.loop-at.out.items c.loop-at.invariant rest []
    (line_left rest some c.in_default.ensures) lines out (omega (arith, some)) c.in_ok-print_next_line-2.ensures.printed c.in_ok-print_next_line-2.ensures.counted) refl
