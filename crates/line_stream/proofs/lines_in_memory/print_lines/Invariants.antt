use Rattle.std.proofs.Common.{length}
use Rattle.line_stream.proofs.LinesInMemory.{Printing}
use Rattle.line_stream.proofs.lines_in_memory.print_lines.Given as goal

abbrev pub invariant-loop-at : goal.invariant-loop-at
invariant-loop-at g l = Printing (g.P.LinePrinter.line_result l.printer) l.text l.rest l.lines l.initial.out.items l.out.items

abbrev pub decreases-loop-at : goal.decreases-loop-at
decreases-loop-at g l = length l.rest
