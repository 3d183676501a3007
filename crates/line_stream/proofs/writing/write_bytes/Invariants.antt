use Rattle.std.proofs.Common.{◌≡◌, ◌≤◌, ◌-◌, length, take}
use Rattle.std.specs.Io.KnownBytes.{Appends}
use Rattle.line_stream.proofs.writing.write_bytes.Given as goal

abbrev pub invariant-loop-sent : goal.invariant-loop-sent
invariant-loop-sent g l =
    (l.sent ≤ length l.bytes)
    × Appends (g.W.TextOut.state l.initial.writer).held (g.W.TextOut.state l.writer).held (take l.sent l.bytes)
    × ((g.W.TextOut.state l.writer).failures ≡ (g.W.TextOut.state l.initial.writer).failures)
    × ((g.W.TextOut.state l.writer).flushes ≡ (g.W.TextOut.state l.initial.writer).flushes)

abbrev pub decreases-loop-sent : goal.decreases-loop-sent
decreases-loop-sent g l = length l.bytes - l.sent
