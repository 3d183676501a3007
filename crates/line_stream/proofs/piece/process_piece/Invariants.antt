use Rattle.std.proofs.Common.{◌++◌, length}
use Rattle.line_stream.proofs.PieceWork.{Working}
use Rattle.line_stream.proofs.piece.process_piece.Given as goal

abbrev pub invariant-loop-at : goal.invariant-loop-at
invariant-loop-at g l =
    Working (g.P.LinePrinter.line_result l.printer) l.initial.progress.lines (length l.piece) (l.initial.progress.pending.items ++ l.piece)
    l.progress.pending.items l.rest l.progress.lines l.progress.out.items
    (g.W.TextOut.state l.initial.writer) (g.W.TextOut.state l.writer) l.initial.sent l.sent

abbrev pub decreases-loop-at : goal.decreases-loop-at
decreases-loop-at g l = length l.rest
